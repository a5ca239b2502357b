use Rattle.std.proofs.Common.{◌≡◌}
use Rattle.desks_bench.specs.Runs.{IsOf}
use Rattle.desks_bench.proofs.leftovers.finish.Given as goal

abbrev pub invariant-loop : goal.invariant-loop
invariant-loop g l = record {
  same : g.D.Events.about l.desk ≡ g.D.Events.about l.fn.desk;
  of : IsOf l.person.model.now (g.D.Events.listed (g.D.Events.about l.desk));
}
