-- The rows so far are those of the first answers.
use Rattle.std.proofs.Common.{◌-◌, length}
use Rattle.decider.proofs.Standings.{HeldSoFar}
use Rattle.decider.proofs.standing.standing.Given as goal

abbrev pub invariant-answers : goal.invariant-answers
invariant-answers l = HeldSoFar l.model.levels l.answers.answers l.work.loaded l.row l.held

abbrev pub decreases-answers : goal.decreases-answers
decreases-answers l = length l.answers.answers - l.held
