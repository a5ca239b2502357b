-- A whole number of any size by its quotient and remainder, where of the quotient only the low 128 bits are kept.
use Rattle.std.specs.Prelude.{◌≡◌, ◌<◌, ◌^◌, ℕ, ℤ, pos, ◌+ℤ◌, ◌*ℤ◌}
use Rattle.wide_step.specs.declared.divided.Divided.{Divided}

-- the number is a quotient times the divisor plus the remainder, and the kept quotient differs by a multiple of 2 ^ 128
pub record IsDivided (number : ℤ) (divisor : ℕ) (divided : Divided) : Type 0 where
  pub quotient : ℤ
  pub wraps : ℤ
  pub kept : pos divided.quotient ≡ quotient +ℤ wraps *ℤ pos (2 ^ 128)
  pub exact : quotient *ℤ pos divisor +ℤ pos divided.remainder ≡ number
  pub below : divided.remainder < divisor
