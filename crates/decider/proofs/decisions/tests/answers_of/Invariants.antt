-- The answers' pairs fit.
use Rattle.std.specs.Prelude.{All}
use Rattle.criteria_model.specs.Pairs.{IsFit}
use Rattle.decider.proofs.decisions.tests.answers_of.Given as goal

abbrev pub invariant-loop-ranking : goal.invariant-loop-ranking
invariant-loop-ranking g l = All (λ answer. IsFit l.model.levels answer.pair) l.answers.answers
