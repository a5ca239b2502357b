use Rattle.std.proofs.Common.{◌≡◌}
use Rattle.pivot_bench.proofs.rounds.pivots.Given as goal

abbrev pub invariant-loop-col : goal.invariant-loop-col
invariant-loop-col l = l.work.columns ≡ l.initial.work.columns
