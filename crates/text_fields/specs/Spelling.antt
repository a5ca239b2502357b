-- How fields are written: numbers as std's `{}` writes them, and lists of them joined by commas.
use Rattle.std.specs.Prelude.{◌≡◌, ℕ, ◌<◌, ◌≤◌, ◌==◌, Bool, false, List, [], ◌∷◌, ◌++◌, length, ℤ, unsigned_abs}
use Rattle.std.specs.List.{All, flat_map}
use Rattle.std.specs.Char.{is_ascii_digit}
use Rattle.text_fields.specs.declared.limits.TheConstants.{CERTIFICATE_BOUND}

-- the text begins with this byte
abbrev pub is_next : ℕ → List ℕ → Bool
is_next byte [] = false
is_next byte (first ∷ text) = first == byte

-- a number can't go on in this text: it is empty, or begins with no digit
abbrev pub EndsNumber : List ℕ → Type 0
EndsNumber [] = Unit {0}
EndsNumber (byte ∷ text) = is_ascii_digit byte ≡ false

-- a list of numbers can't go on in this text
abbrev pub EndsList : List ℕ → Type 0
EndsList text = EndsNumber text × (is_next 0x2C text ≡ false)

-- the items' texts, joined by commas
abbrev pub listed : {X : Type 0} → (X → List ℕ) → List X → List ℕ
listed spell [] = []
listed spell (x ∷ xs) = spell x ++ flat_map (λ y. 0x2C ∷ spell y) xs

-- a certificate number is below the bound in size
abbrev pub IsCertificate : ℤ → Type 0
IsCertificate z = unsigned_abs z < CERTIFICATE_BOUND

-- at least one item and at most `room`, each of them such as P says
pub record IsList {X : Type 0} (P : X → Type 0) (room : ℕ) (xs : List X) : Type 0 where
  pub some : 1 ≤ length xs
  pub most : length xs ≤ room
  pub each : All P xs
