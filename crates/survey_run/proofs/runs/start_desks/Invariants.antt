use Rattle.std.proofs.Common.{◌≡◌, ◌≤◌, ◌+◌}
use Rattle.std.specs.Prelude.{vec_len, vec_capacity}
use Rattle.std.specs.Vec.Iter.{into_iter_items, into_iter_len}
use Rattle.survey_run.specs.Each.{EachFrom}
use Rattle.survey_run.specs.Joins.{RunAt}
use Rattle.survey_run.specs.Plans.{JobAt}
use Rattle.survey_run.proofs.runs.start_desks.Given as goal

abbrev pub invariant-loop-job : goal.invariant-loop-job
invariant-loop-job g l = let rest = l.job-iterator in record {
  count : vec_len l.running + into_iter_len rest ≡ vec_len l.fn.desks;
  room : vec_len l.running + into_iter_len rest ≤ vec_capacity l.running;
  jobs : EachFrom (JobAt l.survey l.respondent l.script.sessions) (vec_len l.running) (into_iter_items rest);
  runs : EachFrom (RunAt l.survey l.respondent l.script.sessions) 0 l.running.items;
}
