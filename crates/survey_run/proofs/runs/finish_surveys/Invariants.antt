use Rattle.std.proofs.Common.{ℕ, ◌≤◌, ◌+◌, List}
use Rattle.std.specs.Prelude.{vec_len, vec_capacity}
use Rattle.std.specs.List.{AllByRecursion}
use Rattle.criteria_model.specs.Criteria.{Criteria}
use Rattle.shared_survey.specs.declared.survey.Survey.{Survey}
use Rattle.survey_script.specs.ScriptViews.{ScriptSessionView}
use Rattle.survey_run.specs.Each.{EachZipFrom}
use Rattle.survey_run.specs.Joins.{HasRoomFor, RunningAt, SpokenAt}
use Rattle.survey_run.proofs.EachLemmas.{IsPartStacked}
use Rattle.survey_run.proofs.runs.finish_surveys.Given as goal

abbrev pub invariant-loop-one : goal.invariant-loop-one
invariant-loop-one g l = record {
  stacked : (criteria : Criteria) (workers : ℕ) (surveys : List Survey) (sessions : List ScriptSessionView)
      → EachZipFrom (RunningAt criteria workers sessions) 0 surveys l.fn.running.items
      → IsPartStacked (RunningAt criteria workers sessions) (SpokenAt criteria workers sessions) surveys l.running.items l.spoken.items;
  room : vec_len l.running + vec_len l.spoken ≤ vec_capacity l.spoken;
  rooms : AllByRecursion HasRoomFor l.running.items;
}

abbrev pub decreases-loop-one : goal.decreases-loop-one
decreases-loop-one g l = vec_len l.running
