-- Digits that are read one by one.
use Rattle.std.proofs.Common.{◌≡◌, ℕ, zero, suc, ◌+◌, ◌-◌, ◌*◌, ◌<◌, ◌≤◌, Bool, true, false, cond, List, [], ◌∷◌, length, get_or, drop, refl, sym, subst, Option, Some, None, nat_le, ◌&&◌, ◌∙◌, arith, drop-cons}
use Rattle.std.proofs.lemmas.Bool.{lt-leb}
use Rattle.std.specs.Char.{is_ascii_digit}
use Rattle.text_fields.specs.Reading.{digits_after, begins_number, read_number}

-- a digit more
pub digits_after-drop : (n i : ℕ) (text : List ℕ) → i < length text → is_ascii_digit (get_or text i 0) ≡ true → digits_after n (drop i text) ≡ digits_after (n * 10 + (get_or text i 0 - 48)) (drop (suc i) text)
digits_after-drop n i text lt digit = rw (drop-cons text i 0, digit) refl

-- no digit more
pub digits_after_stop : (n i : ℕ) (text : List ℕ) → (i < length text → is_ascii_digit (get_or text i 0) ≡ false) → i ≤ length text → digits_after n (drop i text) ≡ (n, drop i text)
digits_after_stop n zero [] h le = refl
digits_after_stop n (suc i) [] h le = absurd (omega arith)
digits_after_stop n zero (b ∷ text) h le = rw (h (omega arith)) refl
digits_after_stop n (suc i) (b ∷ text) h le = digits_after_stop n i text (λ lt. h (omega arith)) (omega arith)

-- the number only grows
pub digits_after_le : (n : ℕ) (text : List ℕ) → n ≤ (digits_after n text).0
digits_after_le n [] = omega arith
digits_after_le n (b ∷ text) =
    elim (is_ascii_digit b) as (λ v. n ≤ (cond v (digits_after (n * 10 + (b - 48)) text) (n, b ∷ text)).0) [
      | true ↦ omega (arith, digits_after_le (n * 10 + (b - 48)) text)
      | false ↦ omega arith
    ]

both_false : {A : Type 0} (a b : Bool) (x : Option A) → b ≡ false → cond (a && b) x None ≡ None
both_false true true x e = absurd cc
both_false true false x e = refl
both_false false b x e = refl

-- a number above the limit is none
pub number_at_above : (most : ℕ) (text : List ℕ) → most < (digits_after 0 text).0 → read_number most text ≡ None
unfolding read_number
number_at_above most text above =
    both_false (begins_number text) (nat_le ((digits_after 0 text).0) most) (Some (digits_after 0 text)) (lt-leb _ _ above)

-- digits that already make more than the limit
pub digits_above : (most n i : ℕ) (text : List ℕ) → i < length text → is_ascii_digit (get_or text i 0) ≡ true → digits_after n (drop i text) ≡ digits_after 0 text → most < n * 10 + (get_or text i 0 - 48) → most < (digits_after 0 text).0
digits_above most n i text lt digit same above =
    let e : digits_after (n * 10 + (get_or text i 0 - 48)) (drop (suc i) text) ≡ digits_after 0 text = sym (digits_after-drop n i text lt digit) ∙ same in
    let le = digits_after_le (n * 10 + (get_or text i 0 - 48)) (drop (suc i) text) in
    let le' : n * 10 + (get_or text i 0 - 48) ≤ (digits_after 0 text).0 = subst (λ (r : ℕ × List ℕ). n * 10 + (get_or text i 0 - 48) ≤ r.0) e le in
    omega arith
