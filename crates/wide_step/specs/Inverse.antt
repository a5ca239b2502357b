-- Inverses modulo powers of two, by which a multiple is divided without a division.
use Rattle.std.specs.Prelude.{◌≡◌, ◌<◌, ◌^◌, ℕ, ℤ, pos, ◌-ℤ◌, ◌*ℤ◌, ◌≤ℤ◌, unsigned_abs, Option, IfSome}
use Rattle.std.specs.Int.{Width, w64, w128, int_wrap}
use Rattle.wide_step.specs.declared.limits.TheConstants.{FACTOR_BOUND}
use Rattle.wide_step.specs.declared.inverse.Inverse.{Inverse}

-- an odd number times a power of two is the number, and the odd number has these inverses modulo 2 ^ 64 and 2 ^ 128
pub record HasInverse (number : ℤ) (twos : ℕ) (short long : ℤ) : Type 0 where
  pub odd : ℤ
  pub twos_below : twos < 64
  pub product : odd *ℤ pos (2 ^ twos) ≡ number
  pub short_is : int_wrap w64 (odd *ℤ short) ≡ pos 1
  pub long_is : int_wrap w128 (odd *ℤ long) ≡ pos 1

-- the product with the inverse is 1 but for a multiple of the modulus, all at a width
pub record IsInverseUpTo (w : Width) (number inverse : ℤ) (modulus : ℕ) : Type 0 where
  pub times : ℤ
  pub rest : int_wrap w (pos 1 -ℤ number *ℤ inverse) ≡ int_wrap w (times *ℤ pos modulus)

-- what a divisor keeps: an inverse of the number, or none
pub record IsDivisor (number : ℤ) (inverse : Option Inverse) : Type 0 where
  pub positive : pos 1 ≤ℤ number
  pub size : unsigned_abs number < FACTOR_BOUND
  pub inverse_is : IfSome inverse (λ i. HasInverse number i.twos i.short i.long)
