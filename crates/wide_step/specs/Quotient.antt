-- What `step` asks of its numbers: the division leaves no remainder, and what it gives is small enough.
use Rattle.std.specs.Prelude.{◌≡◌, ◌<◌, ◌^◌, ℤ, ◌*ℤ◌, unsigned_abs}
use Rattle.wide_step.specs.declared.limits.TheConstants.{QUOTIENT_BOUND}

-- a whole number times the divisor gives the dividend, and it is below the bound of quotients in size
pub record HasQuotient (dividend divisor : ℤ) : Type 0 where
  pub quotient : ℤ
  pub exact : quotient *ℤ divisor ≡ dividend
  pub size : unsigned_abs quotient < QUOTIENT_BOUND

-- the four factors are below 2 ^ 62 in size
pub record AreSmall (a b c d : ℤ) : Type 0 where
  pub a_size : unsigned_abs a < 2 ^ 62
  pub b_size : unsigned_abs b < 2 ^ 62
  pub c_size : unsigned_abs c < 2 ^ 62
  pub d_size : unsigned_abs d < 2 ^ 62

-- the four factors are below 2 ^ 31 in size
pub record AreShort (a b c d : ℤ) : Type 0 where
  pub a_size : unsigned_abs a < 2 ^ 31
  pub b_size : unsigned_abs b < 2 ^ 31
  pub c_size : unsigned_abs c < 2 ^ 31
  pub d_size : unsigned_abs d < 2 ^ 31
