use Rattle.std.proofs.Common.{sym, ◌∙◌}
use Rattle.survey_state.proofs.SoloLemmas.{held_longer}
use Rattle.desks_bench.proofs.timed_access.TimedAccessAccess.begin.Goals as goal

pub returns-clause-longer : goal.returns-clause-longer
returns-clause-longer g c = held_longer c.args.self.now.state c.args.self.now.last.value c.in-Some.state (sym c.take.ensures.value ∙ c.in-Some.is)
