-- What stands at the front of a text: the value of a field and the text after it, or none.
use Rattle.std.specs.Prelude.{◌≡◌, ℕ, zero, suc, ◌+◌, ◌-◌, ◌*◌, ◌≤◌, ◌==◌, nat_le, nat_eq, not, ◌&&◌, Bool, false, List, [], ◌∷◌, length, take, drop, Option, Some, None, if◌then◌else◌, ℤ, pos, negsuc}
use Rattle.std.specs.Char.{is_ascii_digit}
use Rattle.std.specs.List.{starts_with}
use Rattle.text_fields.specs.declared.limits.TheConstants.{CERTIFICATE_BOUND}
use Rattle.text_fields.specs.Spelling.{is_next}

-- a step that may find nothing, and the next on what it found
infixl 10 ◌>>=◌
abbrev pub ◌>>=◌ : {A B : Type 0} → Option A → (A → Option B) → Option B
None >>= f = None
(Some x) >>= f = f x

-- what was read and the text that is left are what stands at the front; or nothing was read, since nothing stands there
abbrev pub ReadsAs : {X : Type 0} → Option X → List ℕ → Option (X × List ℕ) → Type 0
ReadsAs None left found = found ≡ None
ReadsAs (Some x) left found = found ≡ Some (x, left)

-- the first `count` cells and the text that is left are the list that stands at the front
abbrev pub ReadsListAs : {X : Type 0} → Option ℕ → List X → List ℕ → Option (List X × List ℕ) → Type 0
ReadsListAs None cells left found = found ≡ None
ReadsListAs (Some count) cells left found = (count ≤ length cells) × (found ≡ Some (take count cells, left))

-- the text after this word
abbrev pub read_word : List ℕ → List ℕ → Option (Unit {0} × List ℕ)
read_word word text = if starts_with nat_eq text word then Some (tt, drop (length word) text) else None

-- the number that n and the digits at the front make together, and the text after them
abbrev pub digits_after : ℕ → List ℕ → ℕ × List ℕ
digits_after n [] = (n, [])
digits_after n (byte ∷ text) = if is_ascii_digit byte then digits_after (n * 10 + (byte - 48)) text else (n, byte ∷ text)

-- digits stand at the front, the first of them no 0 unless it is the only one
abbrev pub begins_number : List ℕ → Bool
begins_number [] = false
begins_number (first ∷ []) = is_ascii_digit first
begins_number (first ∷ second ∷ text) = if first == 48 then not (is_ascii_digit second) else is_ascii_digit first

-- a number up to `most` in its one spelling
unfoldable pub read_number : ℕ → List ℕ → Option (ℕ × List ℕ)
read_number most text =
    if begins_number text && nat_le ((digits_after 0 text).0) most then Some (digits_after 0 text) else None

-- a number that isn't 0, turned to its negative
abbrev pub negated : ℕ × List ℕ → Option (ℤ × List ℕ)
negated (zero, text) = None
negated (suc n, text) = Some (negsuc n, text)

-- a certificate number in its one spelling
unfoldable pub read_certificate : List ℕ → Option (ℤ × List ℕ)
read_certificate text =
    if is_next 45 text
    then read_number (CERTIFICATE_BOUND - 1) (drop 1 text) >>= negated
    else (read_number (CERTIFICATE_BOUND - 1) text >>= λ found. Some (pos found.0, found.1))

-- up to `room` further items, each after a comma
unfoldable pub read_more : {X : Type 0} → (List ℕ → Option (X × List ℕ)) → ℕ → List ℕ → Option (List X × List ℕ)
read_more item zero text = Some ([], text)
read_more item (suc room) text =
    if is_next 0x2C text
    then (item (drop 1 text) >>= λ first. read_more item room first.1 >>= λ others. Some (first.0 ∷ others.0, others.1))
    else Some ([], text)

-- up to `room` items joined by commas, and at least one
unfoldable pub read_list : {X : Type 0} → (List ℕ → Option (X × List ℕ)) → ℕ → List ℕ → Option (List X × List ℕ)
read_list item zero text = None
read_list item (suc room) text =
    item text >>= λ first. read_more item room first.1 >>= λ others. Some (first.0 ∷ others.0, others.1)
