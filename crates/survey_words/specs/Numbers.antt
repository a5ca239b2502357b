-- The numbers that words are.
use Rattle.std.specs.Prelude.{ℕ, nat_le, List, [], ◌∷◌, Option, Some, None, if◌then◌else◌}
use Rattle.text_fields.specs.Reading.{◌>>=◌, read_number}

-- what was read, where it is the whole text
abbrev pub whole_text : {X : Type 0} → Option (X × List ℕ) → Option X
whole_text None = None
whole_text (Some (x, [])) = Some x
whole_text (Some (x, byte ∷ text)) = None

-- a number from `least` on
abbrev pub at_least : ℕ → ℕ → Option ℕ
at_least least n = if nat_le least n then Some n else None

-- the number from `least` to `most` that a word is, in its one spelling
abbrev pub number_within : ℕ → ℕ → List ℕ → Option ℕ
number_within least most word = whole_text (read_number most word) >>= at_least least
