-- What levels are worth under a value vector. Criteria and levels count from 1.
use Rattle.std.specs.Prelude.{ℕ, ◌-◌, List, length, map, take, drop, fold, slice_index, ℤ, pos, ◌+ℤ◌, unsigned_abs}
use Rattle.std.specs.List.{range_with_len}
use Rattle.criteria_model.specs.Worth.{increments}

-- the sum of whole numbers
abbrev pub total : List ℤ → ℤ
total values = fold ◌+ℤ◌ (pos 0) values

-- how many increments the criteria before this one have
abbrev pub increments_before : List ℕ → ℕ → ℕ
increments_before levels criterion = increments (take (criterion - 1) levels)

-- the value of a level: the sum of the values of its criterion's increments below it
abbrev pub value_of_level : List ℕ → List ℤ → ℕ → ℕ → ℤ
value_of_level levels values criterion level = total (take (level - 1) (drop (increments_before levels criterion) values))

-- the value of a criterion's best level
abbrev pub best_value : List ℕ → List ℤ → ℕ → ℕ
best_value levels values criterion = unsigned_abs (value_of_level levels values criterion (slice_index levels (criterion - 1)))

-- the values of all criteria's best levels
abbrev pub best_values : List ℕ → List ℤ → List ℕ
best_values levels values = map (best_value levels values) (range_with_len 1 (length levels))
