-- Which vector a values line has.
use Rattle.std.specs.Prelude.{ℕ, ◌==◌, ◌&&◌, int_le, List, length, codes, if◌then◌else◌, Option, Some, None, ℤ, pos}
use Rattle.serde_json.specs.Data.{Data, Items}
use Rattle.serde_json.specs.Events.{items_len}
use Rattle.serde_json.specs.Find.{get, as_array, as_str}
use Rattle.criteria_model.specs.Worth.{increments}
use Rattle.text_fields.specs.Reading.{read_certificate}
use Rattle.json_forms.specs.Members.{◌>>=◌, json_of, each}

-- a positive number, with nothing after it
abbrev pub positive : ℤ × List ℕ → Option ℤ
positive (z, rest) = if length rest == 0 && int_le (pos 1) z then Some z else None

-- a positive certificate number in its one spelling
abbrev pub positive_of : List ℕ → Option ℤ
positive_of text = read_certificate text >>= positive

-- a string that is one
abbrev pub positive_in : Data → Option ℤ
positive_in d = as_str d >>= positive_of

-- one such string for each increment
abbrev pub positives_of : ℕ → Items → Option (List ℤ)
positives_of count items = if items_len items == count then each positive_in items else None

-- an object whose member `values` is an object with such an array as its member `vector`; other members may stand beside both
abbrev pub vector_in : List ℕ → Data → Option (List ℤ)
vector_in levels d = get (codes "values") d >>= get (codes "vector") >>= as_array >>= positives_of (increments levels)

-- the vector that the line has for a model of these level counts
abbrev pub values_vector : List ℕ → List ℕ → Option (List ℤ)
values_vector levels line = json_of line >>= vector_in levels
