-- Laws of whole numbers that quotients rest on: multiples closer than the divisor are equal, and exact quotients and differences come back from bits.
use Rattle.std.proofs.Common.{◌≡◌, ◌∙◌, ℕ, ◌+◌, ◌*◌, ◌<◌, ◌≤◌, ◌^◌, ℤ, pos, ◌-ℤ◌, ◌*ℤ◌, zero, suc, refl, unsigned_abs, ap, sym, arith, to_z, of_z, FitsSigned}
use Rattle.std.proofs.lemmas.Int.{ints, unsigned_abs-mul, fits_signed_from_abs, quot-rem, rem_below}
use Rattle.std.proofs.lemmas.Nat.{mul-lt}
use Rattle.std.specs.Int.{Width}
use Rattle.std.specs.Int.RustNames.{int_div}
use Rattle.row_laws.proofs.Integers.{sub-mul, zero_of_abs, read_back, unsigned_abs-sub}
use Rattle.wide_step.specs.Quotient.{HasQuotient}
use mir.Val.{hbits}

zero_factor : (m n : ℕ) → m * n < n → m ≡ 0
zero_factor zero n h = refl
zero_factor (suc m) n h = absurd (omega arith)

-- a multiple that is smaller than what it is a multiple of is 0
zero_from_small : (k e : ℤ) → unsigned_abs (k *ℤ e) < unsigned_abs e → k ≡ pos 0
zero_from_small k e h = zero_of_abs k (zero_factor (unsigned_abs k) (unsigned_abs e) (omega (arith, unsigned_abs-mul k e)))

-- two multiples that are closer than the divisor are equal
pub same_quotient : (p q e : ℤ) → unsigned_abs (p *ℤ e -ℤ q *ℤ e) < unsigned_abs e → p ≡ q
same_quotient p q e h =
    let z = zero_from_small (p -ℤ q) e (omega (arith, ap unsigned_abs (sub-mul p q e))) in omega (arith, ints)

pub has_quotient_along : (x y e f : ℤ) → y ≡ x → f ≡ e → HasQuotient x e → HasQuotient y f
has_quotient_along x y e f p q h = rw (p, q) h

pub abs-mul-lt : (a b : ℤ) (m n : ℕ) → unsigned_abs a < m → unsigned_abs b < n → unsigned_abs (a *ℤ b) < m * n
abs-mul-lt a b m n h k = omega (arith, unsigned_abs-mul a b, mul-lt (unsigned_abs a) (unsigned_abs b) m n h k)

-- the division of a multiple gives the factor
pub divided_is : (x e q : ℤ) → q *ℤ e ≡ x → 0 < unsigned_abs e → int_div x e ≡ q
divided_is x e q h p =
    same_quotient (int_div x e) q e (let r = rem_below x e p in let s = quot-rem x e in omega (arith, ints))

factor_le : (m n : ℕ) → 0 < n → m ≤ m * n
factor_le m zero h = absurd (omega arith)
factor_le m (suc n) h = omega arith

pub factor-abs-le : (q e : ℤ) → 0 < unsigned_abs e → unsigned_abs q ≤ unsigned_abs (q *ℤ e)
factor-abs-le q e h = omega (arith, unsigned_abs-mul q e, factor_le (unsigned_abs q) (unsigned_abs e) h)

-- what the code's division of a multiple gives
pub divided_back : (w : Width) (x e q : ℤ) → q *ℤ e ≡ x → 0 < unsigned_abs e → unsigned_abs x < 2 ^ hbits w → unsigned_abs e < 2 ^ hbits w → to_z w (of_z w (int_div (to_z w (of_z w x)) (to_z w (of_z w e)))) ≡ q
divided_back w x e q h p x_size e_size =
    rw (read_back w x x_size, read_back w e e_size, divided_is x e q h p)
    (read_back w q (omega (arith, factor-abs-le q e p, ap unsigned_abs h)))

-- the difference of two products, whose factors are read from their bits
pub products_back : (w : Width) (a b c d : ℤ) → unsigned_abs a < 2 ^ hbits w → unsigned_abs b < 2 ^ hbits w → unsigned_abs c < 2 ^ hbits w → unsigned_abs d < 2 ^ hbits w → to_z w (of_z w a) *ℤ to_z w (of_z w b) -ℤ to_z w (of_z w c) *ℤ to_z w (of_z w d) ≡ a *ℤ b -ℤ c *ℤ d
products_back w a b c d h k l m = rw (read_back w a h, read_back w b k, read_back w c l, read_back w d m) refl

-- a difference, whose two numbers are read from their bits
pub difference_back : (w : Width) (x y : ℤ) → unsigned_abs x + unsigned_abs y < 2 ^ hbits w → to_z w (of_z w (to_z w (of_z w x) -ℤ to_z w (of_z w y))) ≡ x -ℤ y
difference_back w x y h =
    rw (read_back w x (omega arith), read_back w y (omega arith))
    (read_back w (x -ℤ y) (omega (arith, unsigned_abs-sub x y)))

pub difference_fits : (w : Width) (x y : ℤ) → unsigned_abs x + unsigned_abs y < 2 ^ hbits w → FitsSigned w (to_z w (of_z w x) -ℤ to_z w (of_z w y))
difference_fits w x y h =
    rw (read_back w x (omega arith), read_back w y (omega arith))
    (fits_signed_from_abs w (x -ℤ y) (omega (arith, unsigned_abs-sub x y)))

pub products_difference : (x y p q : ℤ) → x ≡ p → y ≡ q → x -ℤ y ≡ p -ℤ q
products_difference x y p q e f = rw (e, f) refl

-- the quotient of a difference is no larger than its two numbers are together
pub quotient_size : (q e x y d : ℤ) (bound : ℕ) → 0 < unsigned_abs e → q *ℤ e ≡ d → x -ℤ y ≡ d → unsigned_abs x + unsigned_abs y < bound → unsigned_abs q < bound
quotient_size q e x y d bound some exact is size =
    omega (arith, factor-abs-le q e some, ap unsigned_abs (exact ∙ sym is), unsigned_abs-sub x y)
