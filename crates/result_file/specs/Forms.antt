-- Which values the fields of a line may have.
use Rattle.std.specs.Prelude.{◌≡◌, ℕ, ◌≤◌, List, length, All}
use Rattle.criteria_model.specs.declared.pairs.Pair.{Pair}
use Rattle.criteria_model.specs.Criteria.{Criteria}
use Rattle.criteria_model.specs.Worth.{increments}
use Rattle.text_fields.specs.Spelling.{IsCertificate}
use Rattle.farkas_check.specs.declared.combination.Combination.{Combination}
use Rattle.farkas_check.specs.Cited.{AreCites}
use Rattle.survey_core.specs.declared.limits.TheConstants.{MAX_EVENTS, MAX_WORKERS}
use Rattle.result_file.specs.declared.limits.TheConstants.{MAX_MODEL_NUMBER}
use Rattle.result_file.specs.declared.eliminations.Elimination.{Elimination}

-- numbers that a model line may have: at least one level count, and each number at most 999
pub record HasModelForm (criteria : Criteria) : Type 0 where
  pub some : 1 ≤ length criteria.levels
  pub levels : All (λ n. n ≤ MAX_MODEL_NUMBER) criteria.levels
  pub degree : criteria.degree ≤ MAX_MODEL_NUMBER

-- a list that a pair may have: one number up to 25 for each criterion
pub record HasSideForm (criteria : Criteria) (levels : List ℕ) : Type 0 where
  pub len : length levels ≡ length criteria.levels
  pub each : All (λ n. n ≤ 25) levels

-- a pair of two such lists
pub record HasPairForm (criteria : Criteria) (pair : Pair) : Type 0 where
  pub left : HasSideForm criteria pair.left
  pub right : HasSideForm criteria pair.right

-- a combination with a weight for each increment, and with cites in order
pub record HasCombinationForm (criteria : Criteria) (combination : Combination) : Type 0 where
  pub scale : IsCertificate combination.scale
  pub len : length combination.increments ≡ increments criteria.levels
  pub weights : All IsCertificate combination.increments
  pub cites : AreCites combination.answers
  pub numbers : All (λ cite. cite.answer ≤ MAX_EVENTS) combination.answers

-- an elimination by a worker from 0 (a session's own call) to 16
pub record HasEliminationForm (criteria : Criteria) (elimination : Elimination) : Type 0 where
  pub worker : elimination.worker ≤ MAX_WORKERS
  pub pair : HasPairForm criteria elimination.pair
  pub combination : HasCombinationForm criteria elimination.combination
