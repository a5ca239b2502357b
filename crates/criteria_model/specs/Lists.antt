-- The lists that tuples, rows and vectors hold.
use Rattle.std.specs.Prelude.{ℕ, ◌<◌, ◌≤◌, List, length, All, ℤ, unsigned_abs}
use Rattle.criteria_model.specs.declared.limits.TheConstants.{MAX_INCREMENTS, MAX_LEVEL, CERTIFICATE_BOUND}

-- a list that a `Tuple` holds: 1 to `MAX_INCREMENTS` levels, or 0 where there is none
pub record IsTuple (items : List ℕ) : Type 0 where
  pub some : 1 ≤ length items
  pub most : length items ≤ MAX_INCREMENTS
  pub within : All (λ x. x ≤ MAX_LEVEL) items

-- a list that a `Vector` holds: 1 to `MAX_INCREMENTS` whole numbers below `CERTIFICATE_BOUND` in size
pub record IsVector (items : List ℤ) : Type 0 where
  pub some : 1 ≤ length items
  pub most : length items ≤ MAX_INCREMENTS
  pub within : All (λ x. unsigned_abs x < CERTIFICATE_BOUND) items

-- a list that a `Row` holds: 1 to `MAX_INCREMENTS` of -1, 0 and 1
pub record IsRow (items : List ℤ) : Type 0 where
  pub some : 1 ≤ length items
  pub most : length items ≤ MAX_INCREMENTS
  pub within : All (λ x. unsigned_abs x ≤ 1) items
