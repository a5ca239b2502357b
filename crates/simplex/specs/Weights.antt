-- Weighted rows.
use Rattle.std.specs.Prelude.{ℕ, zero, suc, ◌<◌, ◌≤◌, Bool, true, false, List, [], ◌∷◌, length, map, All, ℤ, pos, negsuc, ◌+ℤ◌, ◌*ℤ◌, ◌<ℤ◌, unsigned_abs}
use Rattle.std.specs.List.Sorted.{IsStrictlyIncreasing}
use Rattle.criteria_model.specs.declared.limits.TheConstants.{CERTIFICATE_BOUND}
use Rattle.simplex.specs.declared.row_weights.TheConstants.{MAX_ROW_WEIGHTS}
use Rattle.simplex.specs.declared.row_weights.RowWeight.{RowWeight}

-- the weight isn't 0
abbrev pub is_weight : ℤ → Bool
is_weight (pos zero) = false
is_weight (pos (suc n)) = true
is_weight (negsuc n) = true

-- the number of a row, and a positive weight below the bound of certificate numbers
pub record IsRowWeight (item : RowWeight) : Type 0 where
  pub numbered : 1 ≤ item.row
  pub positive : pos 0 <ℤ item.weight
  pub within : unsigned_abs item.weight < CERTIFICATE_BOUND

-- a list that `RowWeights` holds: few rows, each once and in ascending order
pub record AreRowWeights (items : List RowWeight) : Type 0 where
  pub most : length items ≤ MAX_ROW_WEIGHTS
  pub each : All IsRowWeight items
  pub ascending : IsStrictlyIncreasing (map (λ item. item.row) items)

-- what stands in a cell that holds no row
abbrev pub no_weight : RowWeight
no_weight = record { row = 0; weight = pos 0 }

-- the sum of weight times what a row has
abbrev pub weighted : (ℕ → ℤ) → List RowWeight → ℤ
weighted of [] = pos 0
weighted of (item ∷ items) = item.weight *ℤ of item.row +ℤ weighted of items
