use Rattle.std.proofs.Common.{◌≡◌, ◌+◌, ℕ, sym, subst, rules, length}
use Rattle.std.specs.Prelude.{vec_len}
use Rattle.survey_run.specs.Joins.{WorkingAt}
use Rattle.survey_run.specs.Workers.{IsWorkFor}
use Rattle.survey_run.specs.WorkerRuns.{WorksFor}
use Rattle.survey_run.proofs.EachLemmas.{each_push}
use Rattle.survey_run.proofs.runs.start_workers.Goals as goal

pub start_worker-requires-clause-job : goal.start_worker-requires-clause-job
start_worker-requires-clause-job g c κs within =
    let each = rw c.in-Some.ensures.steps.0 at c.loop-job.invariant.jobs in
    subst (λ (number : ℕ). IsWorkFor c.args.model.now (vec_len c.args.surveys.now) c.args.surveys.now.items number c.in-Some.job) (sym each.0.number) each.0

pub loop-job-preserved : goal.loop-job-preserved
loop-job-preserved g c =
    let inv = c.loop-job.invariant in
    let working = c.loop-job.working in
    let each = rw c.in-Some.ensures.steps.0 at inv.jobs in
    let starts : WorksFor c.args.surveys.now.items (vec_len working + 1) c.start_worker.result = rw each.0.number at c.start_worker.ensures in
    let long : 0 + length working.items ≡ vec_len working = search rules in
    record {
      count = search rules;
      room = search rules;
      jobs = rw c.push_reserved.ensures.len each.1;
      works = rw c.push_reserved.ensures.items (each_push (WorkingAt c.args.surveys.now.items) 0 (vec_len working) working.items c.start_worker.result long inv.works starts);
    }
