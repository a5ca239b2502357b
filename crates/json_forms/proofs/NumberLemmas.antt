-- The texts of numbers stand in a string as they are.
use Rattle.std.proofs.Common.{◌≡◌, ℕ, zero, suc, ◌+◌, ◌/◌, ◌%◌, ◌<◌, ◌≤◌, ◌==◌, Bool, true, false, if◌then◌else◌, List, [], ◌∷◌, ◌++◌, decimal, ℤ, pos, negsuc, refl, ap, arith}
use Rattle.std.specs.Fmt.{digits, digits_onto, digit_glyph, signed_decimal}
use Rattle.std.proofs.lemmas.Bool.Decides.{nat_tests}
use Rattle.std.proofs.lemmas.List.Concat.{flat_map-cons}
use Rattle.json.specs.Print.{escape_byte, escape, quoted}

escape_byte-digit : (c : ℕ) → 48 ≤ c → c ≤ 57 → escape_byte c ≡ c ∷ []
unfolding escape_byte
escape_byte-digit c low high = grind arith

glyph-is : (d : ℕ) → d < 10 → digit_glyph false d ≡ 48 + d
glyph-is d small = grind (arith, nat_tests)

escape_byte-glyph : (d : ℕ) → d < 10 → escape_byte (digit_glyph false d) ≡ digit_glyph false d ∷ []
escape_byte-glyph d small = rw (glyph-is d small) (escape_byte-digit (48 + d) (omega arith) (omega arith))

either : (b : Bool) (xs ys : List ℕ) → escape xs ≡ xs → escape ys ≡ ys → escape (if b then xs else ys) ≡ (if b then xs else ys)
either true xs ys h k = h
either false xs ys h k = k

escape-digits_onto : (k n : ℕ) (acc : List ℕ) → escape acc ≡ acc → escape (digits_onto k 10 false n acc) ≡ digits_onto k 10 false n acc
escape-digits_onto zero n acc h = h
escape-digits_onto (suc k) n acc h =
    let d = digit_glyph false (n % 10) in
    let here : escape (d ∷ acc) ≡ d ∷ acc = rw (flat_map-cons escape_byte d acc, escape_byte-glyph (n % 10) (omega arith), h) refl in
    either (n / 10 == 0) (d ∷ acc) (digits_onto k 10 false (n / 10) (d ∷ acc)) here (escape-digits_onto k (n / 10) (d ∷ acc) here)

escape-decimal : (n : ℕ) → escape (decimal n) ≡ decimal n
unfolding digits
escape-decimal n = escape-digits_onto 64 n [] refl

escape-minus : escape_byte 45 ≡ 45 ∷ []
unfolding escape_byte
escape-minus = refl

escape-signed : (z : ℤ) → escape (signed_decimal z) ≡ signed_decimal z
escape-signed (pos n) = escape-decimal n
escape-signed (negsuc n) = rw (flat_map-cons escape_byte 45 (decimal (suc n)), escape-minus, escape-decimal (suc n)) refl

-- a certificate number stands in its string as it is
pub quoted-signed : (z : ℤ) → quoted (signed_decimal z) ≡ 34 ∷ (signed_decimal z ++ 34 ∷ [])
quoted-signed z = ap (λ text. 34 ∷ (text ++ 34 ∷ [])) (escape-signed z)
