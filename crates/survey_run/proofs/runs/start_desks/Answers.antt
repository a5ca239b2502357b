use Rattle.std.proofs.Common.{◌≡◌, ◌+◌, ℕ, sym, subst, rules, length}
use Rattle.std.specs.Prelude.{vec_len}
use Rattle.survey_run.specs.Desks.{IsJobFor}
use Rattle.survey_run.specs.DeskRuns.{RunsFor}
use Rattle.survey_run.specs.Joins.{RunAt}
use Rattle.survey_run.proofs.EachLemmas.{each_push}
use Rattle.survey_run.proofs.runs.start_desks.Goals as goal

pub start-requires-clause-job : goal.start-requires-clause-job
start-requires-clause-job g c κs within =
    let each = rw c.in-Some.ensures.steps.0 at c.loop-job.invariant.jobs in
    let job = c.beside-job.ensures c.args.survey.now c.args.respondent (vec_len c.loop-job.running + 1) c.args.script.now.sessions each.0 in
    subst (λ (desk : ℕ). IsJobFor c.args.survey.now c.args.respondent desk c.args.script.now.sessions c.beside-job.result) (sym job.number) job

pub loop-job-preserved : goal.loop-job-preserved
loop-job-preserved g c =
    let inv = c.loop-job.invariant in
    let running = c.loop-job.running in
    let each = rw c.in-Some.ensures.steps.0 at inv.jobs in
    let job = c.beside-job.ensures c.args.survey.now c.args.respondent (vec_len running + 1) c.args.script.now.sessions each.0 in
    let starts : RunsFor c.args.survey.now c.args.respondent (vec_len running + 1) c.args.script.now.sessions c.start.result = rw job.number at c.start.ensures in
    let long : 0 + length running.items ≡ vec_len running = search rules in
    record {
      count = search rules;
      room = search rules;
      jobs = rw c.push_reserved.ensures.len each.1;
      runs = rw c.push_reserved.ensures.items (each_push (RunAt c.args.survey.now c.args.respondent c.args.script.now.sessions) 0 (vec_len running) running.items c.start.result long inv.runs starts);
    }
