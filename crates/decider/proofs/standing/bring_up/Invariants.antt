-- The rows of the first `at` answers stand.
use Rattle.decider.proofs.Standings.{BroughtSoFar}
use Rattle.decider.proofs.standing.bring_up.Given as goal

abbrev pub invariant-loop-at : goal.invariant-loop-at
invariant-loop-at l = BroughtSoFar l.model.levels l.answers.answers l.initial.work l.work l.held l.at
