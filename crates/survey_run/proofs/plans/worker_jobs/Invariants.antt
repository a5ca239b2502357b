use Rattle.std.proofs.Common.{◌≡◌, ◌≤◌, []}
use Rattle.std.specs.Prelude.{vec_len, vec_capacity}
use Rattle.survey_run.specs.Each.{EachFrom}
use Rattle.survey_run.specs.Workers.{WorkAt}
use Rattle.survey_run.proofs.plans.worker_jobs.Given as goal

abbrev pub invariant-loop-place : goal.invariant-loop-place
invariant-loop-place l = record {
  count : vec_len l.jobs ≡ l.place;
  capacity : l.workers ≤ vec_capacity l.jobs;
  jobs : EachFrom (WorkAt l.model l.count []) 0 l.jobs.items;
}
