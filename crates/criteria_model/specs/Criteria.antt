-- Models: the criteria's level counts and the degree limit, within this project's limits.
use Rattle.std.specs.Prelude.{ℕ, ◌≤◌, List, length, All}
use Rattle.criteria_model.specs.declared.limits.TheConstants.{MAX_INCREMENTS, MAX_CLASSES}
use Rattle.criteria_model.specs.Worth.{increments}
use Rattle.criteria_model.specs.Counts.{class_count}

-- the number of levels of each criterion, and the greatest degree of a question
pub record Criteria : Type 0 where
  pub levels : List ℕ
  pub degree : ℕ

-- the limits that a model keeps
pub record IsModel (criteria : Criteria) : Type 0 where
  pub some : 1 ≤ length criteria.levels
  pub two_levels : All (λ n. 2 ≤ n) criteria.levels
  pub few_increments : increments criteria.levels ≤ MAX_INCREMENTS
  pub degree_from_one : 1 ≤ criteria.degree
  pub degree_within : criteria.degree ≤ length criteria.levels
  pub few_classes : class_count criteria.levels criteria.degree ≤ MAX_CLASSES
