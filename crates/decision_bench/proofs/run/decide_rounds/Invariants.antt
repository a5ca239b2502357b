-- The tools have room in each round.
use Rattle.decider.specs.Reserved.{IsReserved}
use Rattle.decision_bench.proofs.run.decide_rounds.Given as goal

abbrev pub invariant-loop : goal.invariant-loop
invariant-loop l = IsReserved l.classes.criteria l.tools
