-- Why level counts and a degree limit make no model.
use Rattle.std.specs.Prelude.{ℕ, ◌+◌, List, length, nat_lt, ◌==◌, ◌||◌, if◌then◌else◌, Option, Some, None}
use Rattle.std.specs.List.{position_or_len}
use Rattle.criteria_model.specs.declared.faults.ModelFault.{ModelFault}
use Rattle.criteria_model.specs.declared.faults.ModelFault.TheVariants.{NoCriteria, Levels, Increments, Degree, Classes}
use Rattle.criteria_model.specs.declared.limits.TheConstants.{MAX_INCREMENTS, MAX_CLASSES}
use Rattle.criteria_model.specs.Worth.{increments}
use Rattle.criteria_model.specs.Counts.{class_count}

-- the number of criteria before the first with fewer than 2 levels
abbrev pub first_low : List ℕ → ℕ
first_low levels = position_or_len (λ n. nat_lt n 2) levels

-- the first fault that holds, or none
abbrev pub model_fault : List ℕ → ℕ → Option ModelFault
model_fault levels degree =
    if length levels == 0 then Some NoCriteria else
    if nat_lt (first_low levels) (length levels) then Some (Levels (first_low levels + 1)) else
    if nat_lt MAX_INCREMENTS (increments levels) then Some (Increments (increments levels)) else
    if nat_lt degree 1 || nat_lt (length levels) degree then Some Degree else
    if nat_lt MAX_CLASSES (class_count levels degree) then Some (Classes (class_count levels degree)) else
    None
