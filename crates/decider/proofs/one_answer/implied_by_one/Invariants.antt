-- None of the answers so far suffices.
use Rattle.std.proofs.Common.{◌≡◌, ℕ, ◌<◌, Some}
use Rattle.std.specs.Prelude.{slice_get}
use Rattle.criteria_model.specs.declared.pairs.Answer.{Answer}
use Rattle.decider.specs.OneAnswer.{Suffices}
use Rattle.decider.proofs.one_answer.implied_by_one.Given as goal

abbrev pub invariant-loop-at : goal.invariant-loop-at
invariant-loop-at l = (k : ℕ) → k < l.at → (answer : Answer) → slice_get l.answers.answers k ≡ Some answer → ¬ Suffices l.model.levels answer l.pair l.verdict
