-- The classes so far are decided.
use Rattle.decision_bench.specs.Run.{IsUnderway}
use Rattle.decision_bench.proofs.run.decide_all.Given as goal

abbrev pub invariant-loop-at : goal.invariant-loop-at
invariant-loop-at l = IsUnderway l.classes.criteria l.at l.tools
