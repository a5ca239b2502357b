-- The JSON value of a line, and objects that have exactly so many members.
use Rattle.std.specs.Prelude.{ℕ, ◌==◌, List, [], ◌∷◌, if◌then◌else◌, Option, Some, None, option_and_then}
use Rattle.std.specs.Str.{is_utf8}
use Rattle.serde_json.specs.Data.{Data, Items, no_items, item, Members, no_members, member}
use Rattle.serde_json.specs.Find.{get, as_object, as_number, as_u64, as_str}
use Rattle.serde_json.specs.Events.{members_len}
use Rattle.serde_json.specs.Read.{read}

-- the JSON value that a line is, where it is UTF-8 and JSON; of a name that stands twice the last value counts
abbrev pub json_of : List ℕ → Option Data
json_of line = if is_utf8 line then read line else None

-- a step that may find nothing, and the next on what it found
infixl 10 ◌>>=◌
abbrev pub ◌>>=◌ : {A B : Type 0} → Option A → (A → Option B) → Option B
found >>= f = option_and_then f found

-- the member of this name, in an object with exactly so many members
abbrev pub member_at : ℕ → List ℕ → Data → Option Data
member_at count name d = as_object d >>= λ members. if members_len members == count then get name d else None

-- this member as a text
abbrev pub text_at : ℕ → List ℕ → Data → Option (List ℕ)
text_at count name d = member_at count name d >>= as_str

-- this member as a whole number below 2^64
abbrev pub whole_at : ℕ → List ℕ → Data → Option ℕ
whole_at count name d = member_at count name d >>= as_number >>= as_u64

-- the name and the value of the only member
abbrev pub only_of : Members → Option (List ℕ × Data)
only_of no_members = None
only_of (member name d no_members) = Some (name, d)
only_of (member name d (member other e more)) = None

-- those of an object with exactly one member
abbrev pub single_member : Data → Option (List ℕ × Data)
single_member d = as_object d >>= only_of

-- each item is of the form f
abbrev pub each : {X : Type 0} → (Data → Option X) → Items → Option (List X)
each f no_items = Some []
each f (item d ds) = f d >>= λ x. each f ds >>= λ xs. Some (x ∷ xs)
