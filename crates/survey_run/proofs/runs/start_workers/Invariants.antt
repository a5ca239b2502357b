use Rattle.std.proofs.Common.{◌≡◌, ◌≤◌, ◌+◌}
use Rattle.std.specs.Prelude.{vec_len, vec_capacity}
use Rattle.std.specs.Vec.Iter.{into_iter_items, into_iter_len}
use Rattle.survey_run.specs.Each.{EachFrom}
use Rattle.survey_run.specs.Joins.{WorkingAt}
use Rattle.survey_run.specs.Workers.{WorkAt}
use Rattle.survey_run.proofs.runs.start_workers.Given as goal

abbrev pub invariant-loop-job : goal.invariant-loop-job
invariant-loop-job g l = let rest = l.job-iterator in record {
  count : vec_len l.working + into_iter_len rest ≡ vec_len l.fn.works;
  room : vec_len l.working + into_iter_len rest ≤ vec_capacity l.working;
  jobs : EachFrom (WorkAt l.model (vec_len l.surveys) l.surveys.items) (vec_len l.working) (into_iter_items rest);
  works : EachFrom (WorkingAt l.surveys.items) 0 l.working.items;
}
