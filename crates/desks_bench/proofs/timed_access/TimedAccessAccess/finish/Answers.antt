use Rattle.survey_state.proofs.SoloLemmas.{held_turn}
use Rattle.desks_bench.proofs.timed_access.TimedAccessAccess.finish.Goals as goal

pub returns-clause-turn : goal.returns-clause-turn
returns-clause-turn g c = held_turn c.args.self.now.state c.args.self.now.last.value c.args.state.journal c.requires.longer
