use Rattle.std.proofs.Common.{◌≡◌, ◌≤◌, ◌+◌, List}
use Rattle.std.specs.Prelude.{vec_len, vec_capacity}
use Rattle.std.specs.Vec.Iter.{into_iter_items, into_iter_len}
use Rattle.shared_survey.specs.declared.survey.Survey.{Survey}
use Rattle.survey_run.specs.Each.{EachFrom}
use Rattle.survey_run.specs.Joins.{WorkedAt, WorkingAt}
use Rattle.survey_run.proofs.runs.finish_workers.Given as goal

abbrev pub invariant-loop-one : goal.invariant-loop-one
invariant-loop-one g l = let rest = l.one-iterator in record {
  count : vec_len l.worked + into_iter_len rest ≡ vec_len l.fn.working;
  room : vec_len l.worked + into_iter_len rest ≤ vec_capacity l.worked;
  works : (surveys : List Survey) → EachFrom (WorkingAt surveys) 0 l.fn.working.items
      → EachFrom (WorkingAt surveys) (vec_len l.worked) (into_iter_items rest) × EachFrom (WorkedAt surveys) 0 l.worked.items;
}
