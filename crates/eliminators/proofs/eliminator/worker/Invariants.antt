use Rattle.std.proofs.Common.{◌≡◌}
use Rattle.std.specs.List.{AllZip}
use Rattle.survey_state.specs.Findings.{KeepsTools}
use Rattle.eliminators.specs.Work.{Stays}
use Rattle.eliminators.proofs.eliminator.worker.Given as goal

abbrev pub invariant-loop : goal.invariant-loop
invariant-loop g l = let b = g.B.Bench in record {
  each : AllZip (Stays b.about b.listed b.worker b.seen) l.fn.benches.list.items l.benches.list.items;
  jobs : l.jobs.surveys ≡ l.fn.jobs.surveys;
  rooms : KeepsTools l.fn.tools l.tools;
}
