-- The answers so far, and the weighted rows that are theirs.
use Rattle.decider.proofs.Citing.{CitedSoFar}
use Rattle.decider.proofs.combination.cited.Given as goal

abbrev pub invariant-loop-at : goal.invariant-loop-at
invariant-loop-at l = CitedSoFar l.answers.answers l.rows l.at l.row l.taken l.list
