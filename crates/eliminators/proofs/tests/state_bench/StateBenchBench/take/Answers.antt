use Rattle.std.proofs.Common.{sym, subst}
use Rattle.survey_core.specs.Legal.{IsLegal}
use Rattle.survey_state.specs.States.{Surveyed}
use Rattle.eliminators.proofs.tests.state_bench.StateBenchBench.take.Goals as goal

pub returns-in-Some-clause-legal : goal.returns-in-Some-clause-legal
returns-in-Some-clause-legal c =
    subst (λ (s : Surveyed). IsLegal c.args.self.now.state.listed s.journal) (sym c.take_from-job.ensures.given) c.length-self.ensures.legal

pub returns-in-None-clause-legal : goal.returns-in-None-clause-legal
returns-in-None-clause-legal c =
    subst (λ (s : Surveyed). IsLegal c.args.self.now.state.listed s.journal) (sym c.take_from-job.ensures.given) c.length-self.ensures.legal
