use Rattle.std.proofs.Common.{◌≡◌, ◌≤◌, length}
use Rattle.desks_bench.specs.Runs.{IsOf}
use Rattle.desks_bench.proofs.leftovers.answer_asked.Given as goal

abbrev pub invariant-loop-place : goal.invariant-loop-place
invariant-loop-place g l = record {
  same : g.D.Events.about l.desk ≡ g.D.Events.about l.fn.desk;
  of : IsOf l.person.model.now (g.D.Events.listed (g.D.Events.about l.desk));
  within : l.length ≤ length (g.D.Events.seen l.desk).journal;
}
