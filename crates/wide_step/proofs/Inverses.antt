-- Inverses modulo 2 ^ 64: how a round doubles the bits that are right, and how a product divides.
use Rattle.std.proofs.Common.{◌≡◌, ◌∙◌, ℕ, ◌+◌, ◌-◌, ◌*◌, ◌/◌, ◌%◌, ◌<◌, ◌≤◌, ◌^◌, ℤ, pos, negsuc, neg_ℤ, ◌+ℤ◌, ◌-ℤ◌, ◌*ℤ◌, unsigned_abs, to_z, FitsSigned, zero, suc, ap, sym, refl, arith}
use Rattle.std.proofs.lemmas.Int.{ints, int_wrap-mul_left, int_wrap-mul_right, int_wrap-sub_right, int_wrap_fits, fits_signed_from_abs}
use Rattle.std.proofs.lemmas.Nat.{div-add-mod', pow-add}
use Rattle.std.proofs.Math.IntN.{*ℤ_comm}
use Rattle.std.specs.Int.{Width, w64, w128, int_wrap}
use mir.Val.{bits, hbits}
use Rattle.row_laws.proofs.Integers.{mul_assoc, sub-mul}
use Rattle.wide_step.proofs.Integers.{same_quotient}
use Rattle.wide_step.specs.Inverse.{IsInverseUpTo}
use Rattle.std.proofs.Math.Pow.{pow_mono}
use lib.Signed.{shr_z, mag_shr}

record IsFloor (x : ℤ) (m : ℕ) (q : ℤ) : Type 0 where
  pub rest : ℕ
  pub sum : q *ℤ pos m +ℤ pos rest ≡ x
  pub below : rest < m

-- a shift to the right rounds down
shr_floor : (x : ℤ) (m : ℕ) → 0 < m → IsFloor x m (shr_z x m)
shr_floor (pos n) m h = record { rest = n % m; sum = ap pos (div-add-mod' n m); below = omega arith }
shr_floor (negsuc n) m h = record {
  rest = m - 1 - n % m;
  sum = omega (arith, ints, div-add-mod' n m);
  below = omega arith;
}

-- so of a multiple it gives the factor
pub shr_multiple : (z : ℤ) (m : ℕ) → 0 < m → shr_z (z *ℤ pos m) m ≡ z
shr_multiple z m h =
    let f = shr_floor (z *ℤ pos m) m h in
    same_quotient (shr_z (z *ℤ pos m) m) z (pos m) (omega (arith, ints, f.sum, f.below))

-- a multiple divided by an inverse of the divisor's odd part
pub divided_by_inverse : (w : Width) (odd number q x : ℤ) (twos : ℕ) (inverse : ℤ) → odd *ℤ pos (2 ^ twos) ≡ number → int_wrap w (odd *ℤ inverse) ≡ pos 1 → q *ℤ number ≡ x → 0 < 2 ^ twos
    → FitsSigned w q → int_wrap w (shr_z x (2 ^ twos) *ℤ inverse) ≡ q
divided_by_inverse w odd number q x twos inverse product inverse_is e some fits =
    let m = 2 ^ twos in
    let x_is : x ≡ (q *ℤ odd) *ℤ pos m = sym e ∙ ap (λ (n : ℤ). q *ℤ n) (sym product) ∙ sym (mul_assoc q odd (pos m)) in
    let shifted : shr_z x m ≡ q *ℤ odd = ap (λ (n : ℤ). shr_z n m) x_is ∙ shr_multiple (q *ℤ odd) m some in
    ap (λ (n : ℤ). int_wrap w (n *ℤ inverse)) shifted
    ∙ ap (int_wrap w) (mul_assoc q odd inverse)
    ∙ sym (int_wrap-mul_right w q (odd *ℤ inverse))
    ∙ ap (λ (n : ℤ). int_wrap w (q *ℤ n)) inverse_is
    ∙ ap (int_wrap w) (times_one q)
    ∙ int_wrap_fits w q fits
  where
    times_one : (n : ℤ) → n *ℤ pos 1 ≡ n
    times_one n = omega (arith, ints)

pub shr_fits : (w : Width) (x : ℤ) (m : ℕ) → FitsSigned w x → FitsSigned w (shr_z x m)
shr_fits w x m h = record { sfits = omega (arith, mag_shr x m, h.sfits) }

-- ---- a round of Newton's

-- the round's product, with all that is wrapped on the way
pub round_is : (w : Width) (odd x : ℤ) → int_wrap w (x *ℤ int_wrap w (pos 2 -ℤ int_wrap w (odd *ℤ x))) ≡ int_wrap w (x *ℤ (pos 2 -ℤ odd *ℤ x))
round_is w odd x = ap (λ (n : ℤ). int_wrap w (x *ℤ n)) (int_wrap-sub_right w (pos 2) (odd *ℤ x)) ∙ int_wrap-mul_right w x (pos 2 -ℤ odd *ℤ x)

-- what a product lacks to 1 is squared by the round
squared : (p : ℤ) → pos 1 -ℤ p *ℤ (pos 2 -ℤ p) ≡ (pos 1 -ℤ p) *ℤ (pos 1 -ℤ p)
squared p =
    omega (arith, ints, sub-mul (pos 1) p (pos 1 -ℤ p), *ℤ_comm p (pos 1 -ℤ p), sub-mul (pos 1) p p, *ℤ_comm p (pos 2 -ℤ p), sub-mul (pos 2) p p)

square_of_multiple : (k m : ℤ) → (k *ℤ m) *ℤ (k *ℤ m) ≡ (k *ℤ k) *ℤ (m *ℤ m)
square_of_multiple k m =
    mul_assoc k m (k *ℤ m)
    ∙ ap (λ (n : ℤ). k *ℤ n) (*ℤ_comm m (k *ℤ m) ∙ mul_assoc k m m)
    ∙ sym (mul_assoc k k (m *ℤ m))

wrapped_square : (w : Width) (a b : ℤ) → int_wrap w a ≡ int_wrap w b → int_wrap w (a *ℤ a) ≡ int_wrap w (b *ℤ b)
wrapped_square w a b h =
    sym (int_wrap-mul_left w a a) ∙ sym (int_wrap-mul_right w (int_wrap w a) a)
    ∙ ap (λ (n : ℤ). int_wrap w (n *ℤ n)) h
    ∙ int_wrap-mul_right w (int_wrap w b) b ∙ int_wrap-mul_left w b b

pub round_squares : (w : Width) (odd x y : ℤ) (modulus : ℕ) → y ≡ int_wrap w (x *ℤ (pos 2 -ℤ odd *ℤ x)) → IsInverseUpTo w odd x modulus → IsInverseUpTo w odd y (modulus * modulus)
round_squares w odd x y modulus is h =
    let p = odd *ℤ x in
    let k = h.times in
    record {
      times = k *ℤ k;
      rest =
          ap (λ (n : ℤ). int_wrap w (pos 1 -ℤ odd *ℤ n)) is
          ∙ sym (int_wrap-sub_right w (pos 1) (odd *ℤ int_wrap w (x *ℤ (pos 2 -ℤ p))))
          ∙ ap (λ (n : ℤ). int_wrap w (pos 1 -ℤ n)) (int_wrap-mul_right w odd (x *ℤ (pos 2 -ℤ p)))
          ∙ int_wrap-sub_right w (pos 1) (odd *ℤ (x *ℤ (pos 2 -ℤ p)))
          ∙ ap (λ (n : ℤ). int_wrap w (pos 1 -ℤ n)) (sym (mul_assoc odd x (pos 2 -ℤ p)))
          ∙ ap (int_wrap w) (squared p)
          ∙ wrapped_square w (pos 1 -ℤ p) (k *ℤ pos modulus) h.rest
          ∙ ap (int_wrap w) (square_of_multiple k (pos modulus));
    }

-- ---- the first round and the last

pub odd_up_to : (odd : ℤ) → unsigned_abs odd % 2 ≡ 1 → IsInverseUpTo w64 odd (pos 1) 2
odd_up_to (pos n) h = record { times = neg_ℤ (pos (n / 2)); rest = ap (int_wrap w64) (omega (arith, ints)) }
odd_up_to (negsuc n) h = record { times = pos (n / 2 + 1); rest = ap (int_wrap w64) (omega (arith, ints)) }

pub short_turn : int_wrap w64 (pos (2 ^ 64)) ≡ pos 0
unfolding int_wrap
short_turn = refl

pub long_turn : int_wrap w128 (pos (2 ^ 128)) ≡ pos 0
unfolding int_wrap
long_turn = refl

pub inverse_is : (w : Width) (odd x : ℤ) → int_wrap w (pos (2 ^ bits w)) ≡ pos 0 → 1 < 2 ^ hbits w → IsInverseUpTo w odd x (2 ^ bits w) → int_wrap w (odd *ℤ x) ≡ pos 1
inverse_is w odd x turn wide h =
    let p = odd *ℤ x in
    let rest : int_wrap w (pos 1 -ℤ p) ≡ pos 0 =
    h.rest ∙ sym (int_wrap-mul_right w h.times (pos (2 ^ bits w))) ∙ ap (λ (n : ℤ). int_wrap w (h.times *ℤ n)) turn ∙ ap (int_wrap w) (none h.times)
    ∙ int_wrap_fits w (pos 0) (fits_signed_from_abs w (pos 0) (omega arith)) in
    ap (int_wrap w) (turned p) ∙ sym (int_wrap-sub_right w (pos 1) (pos 1 -ℤ p)) ∙ ap (λ (n : ℤ). int_wrap w (pos 1 -ℤ n)) rest
    ∙ int_wrap_fits w (pos 1) (fits_signed_from_abs w (pos 1) wide)
  where
    none : (n : ℤ) → n *ℤ pos 0 ≡ pos 0
    none n = omega (arith, ints)

    turned : (n : ℤ) → n ≡ pos 1 -ℤ (pos 1 -ℤ n)
    turned n = omega (arith, ints)

-- ---- from 64 bits to 128

record IsWrapped (z wrapped : ℤ) : Type 0 where
  pub times : ℤ
  pub sum : z ≡ wrapped +ℤ times *ℤ pos (2 ^ 64)

-- what is wrapped differs by a multiple
read_above : (n : ℕ) → pos n ≡ to_z w64 (n % 2 ^ 64) +ℤ pos ((n + 2 ^ 63) / 2 ^ 64) *ℤ pos (2 ^ 64)
read_above n = grind (arith, ints)

read_below : (n : ℕ) → negsuc n ≡ to_z w64 (2 ^ 64 - 1 - n % 2 ^ 64) +ℤ neg_ℤ (pos ((n + 2 ^ 63) / 2 ^ 64)) *ℤ pos (2 ^ 64)
read_below n = grind (arith, ints)

wrapped_apart : (z : ℤ) → IsWrapped z (int_wrap w64 z)
unfolding int_wrap
wrapped_apart (pos n) = record { times = pos ((n + 2 ^ 63) / 2 ^ 64); sum = read_above n }
wrapped_apart (negsuc n) = record { times = neg_ℤ (pos ((n + 2 ^ 63) / 2 ^ 64)); sum = read_below n }

pub short_up_to : (odd x : ℤ) → int_wrap w64 (odd *ℤ x) ≡ pos 1 → IsInverseUpTo w128 odd x (2 ^ 64)
short_up_to odd x h =
    let apart = wrapped_apart (odd *ℤ x) in
    record {
      times = neg_ℤ apart.times;
      rest = ap (int_wrap w128) (lacks (odd *ℤ x) apart.times (apart.sum ∙ ap (λ (n : ℤ). n +ℤ apart.times *ℤ pos (2 ^ 64)) h));
    }
  where
    lacks : (p t : ℤ) → p ≡ pos 1 +ℤ t *ℤ pos (2 ^ 64) → pos 1 -ℤ p ≡ neg_ℤ t *ℤ pos (2 ^ 64)
    lacks p t e = omega (arith, ints)

-- ---- how often a number is halved

pub halved_often : (odd twos : ℕ) → 0 < odd → odd * 2 ^ twos < 2 ^ 63 → twos < 63
halved_often odd twos some h =
    let many : 63 ≤ twos → 2 ^ 63 ≤ 2 ^ twos = λ far. pow_mono far in
    let less = least_once odd (2 ^ twos) some in
    grind (arith, many, less)
  where
    least_once : (n m : ℕ) → 0 < n → m ≤ n * m
    least_once zero m h = absurd (omega arith)
    least_once (suc n) m h = omega arith

pub halved_once : (odd twos number : ℕ) → odd % 2 ≡ 0 → odd * 2 ^ twos ≡ number → odd / 2 * 2 ^ (twos + 1) ≡ number
halved_once odd twos number even h =
    let twice : odd ≡ 2 * (odd / 2) = omega arith in
    let double : 2 ^ (twos + 1) ≡ 2 ^ twos * 2 = pow-add 2 twos 1 in
    ap (λ (n : ℕ). odd / 2 * n) double ∙ regroup (odd / 2) (2 ^ twos) ∙ ap (λ (n : ℕ). n * 2 ^ twos) (sym twice) ∙ h
  where
    regroup : (n m : ℕ) → n * (m * 2) ≡ 2 * n * m
    regroup n m = omega arith

-- the rounds' moduli: the bits double
pub bits_double : (round : ℕ) → 2 ^ 2 ^ round * 2 ^ 2 ^ round ≡ 2 ^ 2 ^ (round + 1)
bits_double round =
    sym (pow-add 2 (2 ^ round) (2 ^ round)) ∙ ap (λ (n : ℕ). 2 ^ n) (twice (2 ^ round) ∙ sym (pow-add 2 round 1))
  where
    twice : (n : ℕ) → n + n ≡ n * 2
    twice n = omega arith
