use Rattle.std.proofs.Common.{ap, subst, ◌∙◌}
use Rattle.pair_enumeration.specs.Listed.{Listed}
use Rattle.survey_core.specs.Legal.{IsLegal}
use Rattle.eliminators.specs.Jobs.{JobCounts, with_handed_in}
use Rattle.eliminators.proofs.WorkLemmas.{job_done}
use Rattle.eliminators.proofs.work.work_once.Goals as goal

pub returns-clause-job : goal.returns-clause-job
returns-clause-job g c = let b = g.B.Bench in (
  job_done (b.listed (b.about c.args.bench.now)) (b.listed (b.about c.take.new.self)) (b.worker (b.about c.args.bench.now))
      (b.worker (b.about c.take.new.self)) c.args.model.now (b.seen c.args.bench.now) (b.seen c.take.new.self) (b.seen c.hand_in-answer.new.self)
      c.take.new.snapshot c.in_ok-job.job c.decide-decision.result c.hand_in-answer.result
      (ap b.listed c.take.ensures.same) (ap b.worker c.take.ensures.same) c.requires.model c.take.ensures.watches c.take.ensures.ready
      c.in_ok-job.ensures.job.0 c.decide-decision.ensures.decision c.hand_in-answer.ensures.handed_in,
  c.hand_in-answer.ensures.counts ∙ ap (λ (counts : JobCounts). with_handed_in counts) c.in_ok-job.ensures.job.1,
)

pub returns-clause-legal : goal.returns-clause-legal
returns-clause-legal g c = let b = g.B.Bench in
    subst (λ (l : Listed). IsLegal l (b.seen c.hand_in-answer.new.self).journal) (ap b.listed c.take.ensures.same) c.hand_in-answer.ensures.legal
