use Rattle.std.proofs.Common.{◌≡◌, ◌+◌, ◌≤◌}
use Rattle.std.specs.Prelude.{vec_len, vec_capacity}
use Rattle.survey_replies.specs.Calls.{unseen}
use Rattle.shared_survey.specs.Passes.{IsPassOf, pass_seen, pass_weight}
use Rattle.survey_run.specs.Each.{EachFrom}
use Rattle.survey_run.specs.Plans.{JobAt}
use Rattle.survey_run.proofs.plans.desk_jobs.Given as goal

abbrev pub invariant-loop-place : goal.invariant-loop-place
invariant-loop-place l = record {
  pass : IsPassOf l.survey l.whole × (pass_weight l.whole + l.place ≡ pass_weight l.fn.whole);
  seen : pass_seen l.whole ≡ unseen;
  count : vec_len l.jobs ≡ l.place;
  capacity : 4 ≤ vec_capacity l.jobs;
  jobs : EachFrom (JobAt l.survey l.respondent l.sessions) 0 l.jobs.items;
}
