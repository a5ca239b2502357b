-- What is read is spelled so, and what is spelled so is read.
use Rattle.std.proofs.Common.{◌≡◌, ◌≢◌, ℕ, zero, suc, ◌+◌, ◌-◌, ◌*◌, ◌/◌, ◌%◌, ◌^◌, ◌<◌, ◌≤◌, Bool, true, false, cond, nat_le, ◌&&◌, ◌==◌, not, List, [], ◌∷◌, ◌++◌, drop, refl, sym, ap, subst, ◌∙◌, arith, append_assoc, Option, Some, None, inl, inr, ℤ, pos, negsuc, lit<}
use Rattle.std.specs.Char.{is_ascii_digit}
use Rattle.std.specs.Fmt.{decimal, signed_decimal}
use Rattle.std.proofs.lemmas.Fmt.{decimal_digit, decimal_step_wide, decimal_by_steps_wide}
use Rattle.std.proofs.lemmas.Bool.{leb-true, le-leb, cases_eq}
use Rattle.std.proofs.lemmas.Bool.Decides.{nat_tests}
use Rattle.std.proofs.lemmas.Option.{cond_some}
use Rattle.text_fields.specs.declared.limits.TheConstants.{CERTIFICATE_BOUND}
use Rattle.text_fields.specs.Spelling.{is_next, EndsNumber, IsCertificate}
use Rattle.text_fields.specs.Reading.{◌>>=◌, digits_after, begins_number, read_number, read_certificate, negated}
use Rattle.text_fields.specs.Laws.{IsField}
use Rattle.text_fields.proofs.Numerals.{digits_after_le}

-- ---- digits

is_digit : (n : ℕ) → n < 10 → is_ascii_digit (48 + n) ≡ true
is_digit n lt = grind (arith, nat_tests)

digit_range : (b : ℕ) → is_ascii_digit b ≡ true → (48 ≤ b) × (b ≤ 57)
digit_range b h = grind (arith, nat_tests)

digit_from_range : (b : ℕ) → 48 ≤ b → b ≤ 57 → is_ascii_digit b ≡ true
digit_from_range b low high = grind (arith, nat_tests)

-- a digit after a number
decimal_more : (n b : ℕ) → 0 < n → is_ascii_digit b ≡ true → n * 10 + (b - 48) < 10 ^ 64 → decimal (n * 10 + (b - 48)) ≡ decimal n ++ b ∷ []
decimal_more n b some digit lt =
    let r = digit_range b digit in
    let e = decimal_step_wide (n * 10 + (b - 48)) (omega arith) lt in
    let front : (n * 10 + (b - 48)) / 10 ≡ n = omega arith in
    let last : 48 + (n * 10 + (b - 48)) % 10 ≡ b = omega arith in
    e ∙ rw (front, last) refl

-- digits after a number
digits_spell : (n : ℕ) (text : List ℕ) → 0 < n → (digits_after n text).0 < 10 ^ 64 → decimal n ++ text ≡ decimal (digits_after n text).0 ++ (digits_after n text).1
digits_spell n [] some lt = refl
digits_spell n (b ∷ text) some lt =
    elim (is_ascii_digit b) as (λ v. is_ascii_digit b ≡ v → (cond v (digits_after (n * 10 + (b - 48)) text) (n, b ∷ text)).0 < 10 ^ 64 → decimal n ++ b ∷ text ≡ decimal (cond v (digits_after (n * 10 + (b - 48)) text) (n, b ∷ text)).0 ++ (cond v (digits_after (n * 10 + (b - 48)) text) (n, b ∷ text)).1) [
      | true ↦ λ digit lt'.
          let le = digits_after_le (n * 10 + (b - 48)) text in
          let more = decimal_more n b some digit (omega arith) in
          let e : decimal n ++ b ∷ text ≡ decimal (n * 10 + (b - 48)) ++ text = rw more (sym (append_assoc (decimal n) (b ∷ []) text)) in
          e ∙ digits_spell (n * 10 + (b - 48)) text (omega arith) lt'
      | false ↦ λ _ _. refl
    ] refl lt

-- what is left begins with no digit
digits_end : (n : ℕ) (text : List ℕ) → EndsNumber (digits_after n text).1
digits_end n [] = tt
digits_end n (b ∷ text) =
    elim (is_ascii_digit b) as (λ v. is_ascii_digit b ≡ v → EndsNumber (cond v (digits_after (n * 10 + (b - 48)) text) (n, b ∷ text)).1) [
      | true ↦ λ _. digits_end (n * 10 + (b - 48)) text
      | false ↦ λ none. none
    ] refl

digits_after_ends : (n : ℕ) (text : List ℕ) → EndsNumber text → digits_after n text ≡ (n, text)
digits_after_ends n [] h = refl
digits_after_ends n (b ∷ text) h = rw h refl

-- the digits of a number, from the front
Folds : ℕ → List ℕ → Type 0
Folds n digits = (rest : List ℕ) → digits_after 0 (digits ++ rest) ≡ digits_after n rest

digits_fold : (n : ℕ) → n < 10 ^ 64 → Folds n (decimal n)
unfolding Folds
digits_fold n lt = decimal_by_steps_wide Folds
    (λ k small rest.
    let digit = is_digit k small in
    let e : 0 * 10 + (48 + k - 48) ≡ k = omega arith in
    rw (digit, e) refl)
    (λ k digits big before rest.
    let digit = is_digit (k % 10) (omega arith) in
    let e : k / 10 * 10 + (48 + k % 10 - 48) ≡ k = omega arith in
    rw append_assoc (before ((48 + k % 10) ∷ rest) ∙ rw (digit, e) refl))
    n lt

-- the first digit of a number that isn't 0
record Leads (n : ℕ) (digits : List ℕ) : Type 0 where
  first : ℕ
  others : List ℕ
  cells : digits ≡ first ∷ others
  least : 48 ≤ first
  low : 0 < n → 48 < first
  high : first ≤ 57

leads : (n : ℕ) → n < 10 ^ 64 → Leads n (decimal n)
leads n lt = decimal_by_steps_wide Leads
    (λ k small. record { first = 48 + k; others = []; cells = refl; least = omega arith; low = omega arith; high = omega arith })
    (λ k digits big before. record {
      first = before.first;
      others = before.others ++ (48 + k % 10) ∷ [];
      cells = rw before.cells refl;
      least = before.least;
      low = λ _. before.low (omega arith);
      high = before.high;
    })
    n lt

begins_from : (first : ℕ) (text : List ℕ) → 48 < first → first ≤ 57 → begins_number (first ∷ text) ≡ true
begins_from first [] low high = digit_from_range first (omega arith) high
begins_from first (second ∷ text) low high =
    let other : first == 48 ≡ false = grind (arith, nat_tests) in
    rw (other, digit_from_range first (omega arith) high) refl

begins_zero : (text : List ℕ) → EndsNumber text → begins_number (48 ∷ text) ≡ true
begins_zero [] h = refl
begins_zero (b ∷ text) h = rw h refl

begins_decimal : (n : ℕ) (rest : List ℕ) → n < 10 ^ 64 → EndsNumber rest → begins_number (decimal n ++ rest) ≡ true
begins_decimal zero rest lt ends = rw (decimal_digit 0 (omega arith)) (begins_zero rest ends)
begins_decimal (suc n) rest lt ends =
    let h = leads (suc n) lt in
    rw h.cells (begins_from h.first (h.others ++ rest) (h.low (omega arith)) h.high)

-- a number that is spelled at the front is read
pub number_again : (most n : ℕ) (rest : List ℕ) → most < 10 ^ 64 → n ≤ most → EndsNumber rest → read_number most (decimal n ++ rest) ≡ Some (n, rest)
unfolding read_number Folds
number_again most n rest wide le ends =
    let lt : n < 10 ^ 64 = omega arith in
    let e : digits_after 0 (decimal n ++ rest) ≡ (n, rest) = digits_fold n lt rest ∙ digits_after_ends n rest ends in
    rw (begins_decimal n rest lt ends, e, le-leb n most le) refl

-- ---- what is read is spelled so

and_true : (a b : Bool) → (a && b) ≡ true → (a ≡ true) × (b ≡ true)
and_true true b e = (refl, e)
and_true false b e = absurd cc

not_true : (a : Bool) → not a ≡ true → a ≡ false
not_true true e = absurd cc
not_true false e = refl

abbrev IsSpelled : List ℕ → ℕ × List ℕ → Type 0
IsSpelled text found = text ≡ decimal found.0 ++ found.1

spelled_digit : (b : ℕ) (text : List ℕ) → is_ascii_digit b ≡ true → b ≢ 48 → (digits_after 0 (b ∷ text)).0 < 10 ^ 64 → IsSpelled (b ∷ text) (digits_after 0 (b ∷ text))
spelled_digit b text digit other lt =
    let r = digit_range b digit in
    let n : 0 * 10 + (b - 48) ≡ b - 48 = omega arith in
    let e : digits_after 0 (b ∷ text) ≡ digits_after (b - 48) text = rw (digit, n) refl in
    let one : decimal (b - 48) ≡ b ∷ [] = decimal_digit (b - 48) (omega arith) ∙ (let same : 48 + (b - 48) ≡ b = omega arith in rw same refl) in
    let some : 0 < b - 48 = omega arith in
    rw e (rw one at (digits_spell (b - 48) text some (rw e at lt)))

spelled_zero : (text : List ℕ) → EndsNumber text → IsSpelled (48 ∷ text) (digits_after 0 (48 ∷ text))
spelled_zero text ends = rw (digits_after_ends 0 text ends, decimal_digit 0 (omega arith)) refl

-- text that begins a number
spelled : (text : List ℕ) → begins_number text ≡ true → (digits_after 0 text).0 < 10 ^ 64 → IsSpelled text (digits_after 0 text)
spelled [] begins lt = absurd cc
spelled (b ∷ []) begins lt =
    elim (cases_eq b 48) [
      | inl is ↦ subst (λ (x : ℕ). IsSpelled (x ∷ []) (digits_after 0 (x ∷ []))) (sym is) (spelled_zero [] tt)
      | inr other ↦ spelled_digit b [] begins other lt
    ]
spelled (b ∷ c ∷ text) begins lt =
    elim (cases_eq b 48) [
      | inl is ↦ subst (λ (x : ℕ). IsSpelled (x ∷ c ∷ text) (digits_after 0 (x ∷ c ∷ text))) (sym is) (spelled_zero (c ∷ text) (not_true (is_ascii_digit c) (rw is at begins)))
      | inr other ↦ let no : b == 48 ≡ false = grind (arith, nat_tests) in spelled_digit b (c ∷ text) (rw no at begins) other lt
    ]

pub number_takes : (most : ℕ) (text : List ℕ) (n : ℕ) (rest : List ℕ) → most < 10 ^ 64 → read_number most text ≡ Some (n, rest) → (text ≡ decimal n ++ rest) × (n ≤ most)
unfolding read_number
number_takes most text n rest wide e =
    let t = cond_some (begins_number text && nat_le ((digits_after 0 text).0) most) (digits_after 0 text) (n, rest) e in
    let both = and_true (begins_number text) (nat_le ((digits_after 0 text).0) most) t.0 in
    let le : (digits_after 0 text).0 ≤ most = leb-true _ _ both.1 in
    subst (λ (found : ℕ × List ℕ). IsSpelled text found × (found.0 ≤ most)) t.1 (spelled text both.0 (omega arith), le)

-- ---- fields

pub numbers_field : (most : ℕ) → most < 10 ^ 64 → IsField (read_number most) decimal (λ n. n ≤ most) EndsNumber
numbers_field most wide = record {
  takes = λ text n rest e. number_takes most text n rest wide e;
  again = λ n rest le ends. number_again most n rest wide le ends;
}

pub bind_some : {A B : Type 0} (r : Option A) (f : A → Option B) (y : B) → (r >>= f) ≡ Some y → (x : A) × (r ≡ Some x) × (f x ≡ Some y)
bind_some (Some x) f y e = (x, refl, e)
bind_some None f y e = absurd cc

pub some_is : {A : Type 0} (x y : A) → Some x ≡ Some y → x ≡ y
some_is x y e = cc

pub starts_minus : (text : List ℕ) → is_next 45 text ≡ true → text ≡ 45 ∷ drop 1 text
starts_minus [] e = absurd cc
starts_minus (b ∷ text) e = let same : b ≡ 45 = grind (arith, nat_tests) in ap (λ (x : ℕ). x ∷ text) same

wide_certificate : CERTIFICATE_BOUND - 1 < 10 ^ 64
wide_certificate = lit< tt

IsCertificateAt : List ℕ → ℤ × List ℕ → Type 0
IsCertificateAt text found = (text ≡ signed_decimal found.0 ++ found.1) × IsCertificate found.0

negative_takes : (text : List ℕ) (found : ℕ × List ℕ) (z : ℤ × List ℕ) → text ≡ decimal found.0 ++ found.1 → found.0 ≤ CERTIFICATE_BOUND - 1 → negated found ≡ Some z → IsCertificateAt (45 ∷ text) z
unfolding IsCertificateAt
negative_takes text (zero, left) z e le n = absurd cc
negative_takes text (suc k, left) z e le n =
    subst (IsCertificateAt (45 ∷ text)) (some_is _ _ n) (ap (λ (t : List ℕ). 45 ∷ t) e, omega arith)

certificate_is : (text : List ℕ) (z : ℤ × List ℕ) → read_certificate text ≡ Some z → IsCertificateAt text z
unfolding read_certificate IsCertificateAt
certificate_is text z e =
    elim (is_next 45 text) as (λ v. is_next 45 text ≡ v → cond v (read_number (CERTIFICATE_BOUND - 1) (drop 1 text) >>= negated) (read_number (CERTIFICATE_BOUND - 1) text >>= λ found. Some (pos found.0, found.1)) ≡ Some z → IsCertificateAt text z) [
      | true ↦ λ minus e'.
          let b = bind_some (read_number (CERTIFICATE_BOUND - 1) (drop 1 text)) negated z e' in
          let t = number_takes (CERTIFICATE_BOUND - 1) (drop 1 text) b.0.0 b.0.1 wide_certificate b.1 in
          rw (starts_minus text minus) (negative_takes (drop 1 text) b.0 z t.0 t.1 b.2)
      | false ↦ λ _ e'.
          let b = bind_some (read_number (CERTIFICATE_BOUND - 1) text) (λ found. Some (pos found.0, found.1)) z e' in
          let t = number_takes (CERTIFICATE_BOUND - 1) text b.0.0 b.0.1 wide_certificate b.1 in
          subst (IsCertificateAt text) (some_is _ _ b.2) (t.0, omega (arith, t.1))
    ] refl e

certificate_again : (z : ℤ) (rest : List ℕ) → IsCertificate z → EndsNumber rest → read_certificate (signed_decimal z ++ rest) ≡ Some (z, rest)
unfolding read_certificate
certificate_again (pos n) rest h ends =
    let lead = leads n (omega arith) in
    let none : is_next 45 (lead.first ∷ (lead.others ++ rest)) ≡ false = let low = lead.least in grind (arith, nat_tests) in
    let same : decimal n ++ rest ≡ lead.first ∷ (lead.others ++ rest) = rw lead.cells refl in
    let none' : is_next 45 (decimal n ++ rest) ≡ false = rw same none in
    rw (none', number_again (CERTIFICATE_BOUND - 1) n rest wide_certificate (omega arith) ends) refl
certificate_again (negsuc n) rest h ends =
    rw (number_again (CERTIFICATE_BOUND - 1) (suc n) rest wide_certificate (omega arith) ends) refl

pub certificates_field : IsField read_certificate signed_decimal IsCertificate EndsNumber
unfolding IsCertificateAt
certificates_field = record {
  takes = λ text z rest e. certificate_is text (z, rest) e;
  again = λ z rest h ends. certificate_again z rest h ends;
}
