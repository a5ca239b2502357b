use Rattle.std.proofs.Common.{[], ◌∷◌, ◌++◌, ap, subst, ◌∙◌}
use Rattle.pair_enumeration.specs.Listed.{Listed}
use Rattle.survey_core.specs.Legal.{IsLegal}
use Rattle.survey_state.proofs.FindingLemmas.{tools_kept_on}
use Rattle.eliminators.specs.Jobs.{JobCounts, with_none_left}
use Rattle.eliminators.proofs.CountLemmas.{one_job_more, one_answer_more, adds_up_of}
use Rattle.eliminators.proofs.WorkLemmas.{job_same, work_more, work_watched}
use Rattle.eliminators.proofs.work.work_until_idle.Goals as goal

pub loop-preserved : goal.loop-preserved
loop-preserved g c =
    let b = g.B.Bench in
    let inv = c.loop.invariant in
    let answer = c.in-Some-work_once.answer in
    let does = c.in-Some-work_once.ensures.job in
    record {
      about = c.in-Some-work_once.ensures.same ∙ inv.about;
      answers = inv.answers ++ answer ∷ [];
      works =
          work_more (b.listed (b.about c.args.bench.now)) (b.worker (b.about c.args.bench.now)) (b.seen c.args.bench.now) (b.seen c.loop.bench)
          (b.seen c.work_once.new.bench) inv.answers answer inv.works
          (job_same (b.listed (b.about c.args.bench.now)) (b.listed (b.about c.loop.bench)) (b.worker (b.about c.args.bench.now))
          (b.worker (b.about c.loop.bench)) (b.seen c.loop.bench) (b.seen c.work_once.new.bench) answer (ap b.listed inv.about) (ap b.worker inv.about) does.0);
      counts = one_job_more (b.counts c.args.bench.now) (b.counts c.loop.bench) (b.counts c.work_once.new.bench) inv.answers answer inv.counts does.1;
      tallied = one_answer_more c.loop.tally c.count.new.self inv.answers answer inv.tallied c.count.ensures;
      rooms = tools_kept_on c.args.tools.now c.loop.tools c.work_once.new.tools inv.rooms c.in-Some-work_once.ensures.rooms;
    }

pub returns-in-None-work_once-clause-works : goal.returns-in-None-work_once-clause-works
returns-in-None-work_once-clause-works g c = let b = g.B.Bench in let inv = c.loop.invariant in record {
  answers = inv.answers;
  works =
      work_watched (b.listed (b.about c.args.bench.now)) (b.worker (b.about c.args.bench.now)) (b.seen c.args.bench.now) (b.seen c.loop.bench)
      (b.seen c.work_once.new.bench) inv.answers inv.works c.in-None-work_once.ensures.job.0;
  counts = c.in-None-work_once.ensures.job.1 ∙ ap (λ (counts : JobCounts). with_none_left counts) inv.counts;
  tallied = inv.tallied;
}

pub returns-in-None-work_once-clause-adds_up : goal.returns-in-None-work_once-clause-adds_up
returns-in-None-work_once-clause-adds_up g c = let b = g.B.Bench in let inv = c.loop.invariant in
    adds_up_of (b.counts c.args.bench.now) (b.counts c.work_once.new.bench) c.loop.tally inv.answers
    (c.in-None-work_once.ensures.job.1 ∙ ap (λ (counts : JobCounts). with_none_left counts) inv.counts) inv.tallied

pub returns-in-None-work_once-clause-legal : goal.returns-in-None-work_once-clause-legal
returns-in-None-work_once-clause-legal g c = let b = g.B.Bench in
    subst (λ (l : Listed). IsLegal l (b.seen c.work_once.new.bench).journal) (ap b.listed c.loop.invariant.about) c.in-None-work_once.ensures.legal
