use Rattle.std.proofs.Common.{◌≡◌}
use mathlib.Core.List.{IsPrefix}
use Rattle.decider.specs.Reserved.{IsReserved}
use Rattle.desks_bench.specs.Runs.{IsOf}
use Rattle.desks_bench.proofs.alternation.eliminate_in.Given as goal

abbrev pub invariant-loop : goal.invariant-loop
invariant-loop g l = record {
  listed : l.state.listed ≡ l.fn.state.listed;
  of : IsOf l.model l.state.listed;
  longer : IsPrefix l.fn.state.journal l.state.journal;
  reserved : IsReserved l.model l.tools;
}
