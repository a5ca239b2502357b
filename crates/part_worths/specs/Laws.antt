-- Laws of values and shares, each proved as the contract of a public function.
use Rattle.std.specs.Prelude.{◌≡◌, ℕ, ◌≤◌, List, sum, unsigned_abs, ℤ}
use Rattle.criteria_model.specs.Worth.{IsValueVector}
use Rattle.part_worths.specs.declared.apportionment.TheConstants.{WHOLE}
use Rattle.part_worths.specs.Apportionment.{shares_of}
use Rattle.part_worths.specs.Values.{total, best_values}

-- the shares of a list whose sum is positive add up to the whole
abbrev pub SharesAddUp : Type 0
SharesAddUp = (values : List ℕ) → 1 ≤ sum values → sum (shares_of values) ≡ WHOLE

-- the best levels of all criteria are together worth what all increments are worth
abbrev pub BestValuesAddUp : Type 0
BestValuesAddUp = (levels : List ℕ) (values : List ℤ) → IsValueVector levels values → sum (best_values levels values) ≡ unsigned_abs (total values)
