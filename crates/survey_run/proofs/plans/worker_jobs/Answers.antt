use Rattle.std.proofs.Common.{◌≡◌, ◌+◌, [], rules, length}
use Rattle.survey_run.specs.Workers.{IsWorkFor, WorkAt}
use Rattle.survey_run.proofs.EachLemmas.{each_push}
use Rattle.survey_run.proofs.plans.worker_jobs.Goals as goal

pub loop-place-preserved : goal.loop-place-preserved
loop-place-preserved c =
    let inv = c.loop-place.invariant in
    let jobs = c.loop-place.jobs in
    let job = c.in_ok-worker_job.field-0 in
    let is : IsWorkFor c.args.model.now c.args.count [] (c.loop-place.place + 1) job = search rules in
    let long : 0 + length jobs.items ≡ c.loop-place.place = search rules in
    record {
      count = search rules;
      capacity = search rules;
      jobs = rw c.push_reserved.ensures.items (each_push (WorkAt c.args.model.now c.args.count []) 0 c.loop-place.place jobs.items job long inv.jobs is);
    }
