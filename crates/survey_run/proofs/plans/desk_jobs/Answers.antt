use Rattle.std.proofs.Common.{◌≡◌, ◌+◌, rules, arith, length}
use Rattle.survey_run.specs.Plans.{JobAt}
use Rattle.survey_run.proofs.EachLemmas.{each_push}
use Rattle.survey_run.proofs.plans.desk_jobs.Goals as goal

pub loop-place-preserved : goal.loop-place-preserved
loop-place-preserved c =
    let inv = c.loop-place.invariant in
    let jobs = c.loop-place.jobs in
    let long : 0 + length jobs.items ≡ c.loop-place.place = search rules in
    let whole = c.in_ok-desk_job.ensures.whole in
    record {
      pass = (whole.0, omega (arith, inv.pass.1, whole.1));
      seen = whole.2;
      count = search rules;
      capacity = search rules;
      jobs = rw c.push_reserved.ensures.items (each_push (JobAt c.args.survey.now c.args.respondent c.args.sessions.now) 0 c.loop-place.place jobs.items
          c.in_ok-desk_job.field-0 long inv.jobs c.in_ok-desk_job.ensures.job);
    }
