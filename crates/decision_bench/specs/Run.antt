-- A run of decisions on the classes of a model, in order.
use Rattle.std.specs.Prelude.{ℕ, ◌≤◌, length}
use Rattle.criteria_model.specs.Criteria.{Criteria}
use Rattle.decider.specs.declared.tools.Tools.{Tools}
use Rattle.decider.specs.ToolDecisions.{AreReady}

-- the first classes, up to this number, are decided, and at most as many are answered
pub record IsUnderway (criteria : Criteria) (decided : ℕ) (tools : Tools) : Type 0 where
  pub ready : AreReady criteria tools
  pub most : length tools.snapshot.answers.answers ≤ decided
