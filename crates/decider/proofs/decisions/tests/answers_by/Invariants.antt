-- The answers' pairs fit.
use Rattle.std.specs.Prelude.{All}
use Rattle.criteria_model.specs.Pairs.{IsFit}
use Rattle.decider.proofs.decisions.tests.answers_by.Given as goal

abbrev pub invariant-loop-number : goal.invariant-loop-number
invariant-loop-number g l = All (λ answer. IsFit l.model.levels answer.pair) l.answers.answers
