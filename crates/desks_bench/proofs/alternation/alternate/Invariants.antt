use Rattle.std.proofs.Common.{◌≡◌, None}
use Rattle.decider.specs.Reserved.{IsReserved}
use Rattle.survey_state.specs.Solos.{held_state, journal_out}
use Rattle.desks_bench.specs.Runs.{IsOf}
use Rattle.desks_bench.proofs.alternation.alternate.Given as goal

abbrev pub invariant-loop : goal.invariant-loop
invariant-loop g l = record {
  free : journal_out l.access.state l.access.last.value ≡ None;
  of : IsOf l.person.model.now (held_state l.access.state l.access.last.value).listed;
  desk : IsReserved l.person.model.now l.desk_tools;
  worker : IsReserved l.person.model.now l.tools;
}
