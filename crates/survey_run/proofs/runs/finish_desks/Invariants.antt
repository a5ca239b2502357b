use Rattle.std.proofs.Common.{◌≡◌, ℕ, ◌≤◌, ◌+◌, List}
use Rattle.std.specs.Prelude.{vec_len, vec_capacity}
use Rattle.std.specs.Vec.Iter.{into_iter_items, into_iter_len}
use Rattle.shared_survey.specs.declared.survey.Survey.{Survey}
use Rattle.survey_script.specs.ScriptViews.{ScriptSessionView}
use Rattle.survey_run.specs.Each.{EachFrom}
use Rattle.survey_run.specs.Joins.{RunAt, SpeechAt}
use Rattle.survey_run.proofs.runs.finish_desks.Given as goal

abbrev pub invariant-loop-one : goal.invariant-loop-one
invariant-loop-one g l = let rest = l.one-iterator in record {
  count : vec_len l.spoken + into_iter_len rest ≡ vec_len l.fn.running;
  room : vec_len l.spoken + into_iter_len rest ≤ vec_capacity l.spoken;
  runs : (survey : Survey) (respondent : ℕ) (sessions : List ScriptSessionView) → EachFrom (RunAt survey respondent sessions) 0 l.fn.running.items
      → EachFrom (RunAt survey respondent sessions) (vec_len l.spoken) (into_iter_items rest) × EachFrom (SpeechAt survey respondent sessions) 0 l.spoken.items;
}
