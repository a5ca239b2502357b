-- What a run is begun with: its plan, and room for what comes of it and is left of it.
use Rattle.std.specs.Prelude.{◌≡◌, ℕ, ◌≤◌, [], length, vec_len, vec_capacity}
use Rattle.json_forms.specs.DefinitionViews.{model_of}
use Rattle.json_forms.specs.declared.definition_faults.TheConstants.{MAX_RESPONDENTS}
use Rattle.survey_script.specs.ScriptViews.{ScriptView, line_count}
use Rattle.survey_run.specs.declared.script_run.EndRooms.{EndRooms}
use Rattle.survey_run.specs.declared.script_run.Prepared.{Prepared}
use Rattle.survey_run.specs.Each.{EachFrom, EachZipFrom}
use Rattle.survey_run.specs.Joins.{HasRooms}
use Rattle.survey_run.specs.Plans.{PlanAt}
use Rattle.survey_run.specs.Workers.{WorkAt}

-- there is room for the ends of `surveys` surveys, and the replies to `lines` lines
pub record HasEndRooms (surveys lines : ℕ) (rooms : EndRooms) : Type 0 where
  pub ends : (rooms.ends.items ≡ []) × (surveys ≤ vec_capacity rooms.ends)
  pub states : (rooms.states.items ≡ []) × (surveys ≤ vec_capacity rooms.states)
  pub replies : (rooms.replies.items ≡ []) × (lines ≤ vec_capacity rooms.replies)

-- a survey and its plan for each respondent, the jobs of `workers` eliminators, and room for all
pub record IsPrepared (script : ScriptView) (workers : ℕ) (prepared : Prepared) : Type 0 where
  pub plans : EachZipFrom (PlanAt (model_of script.definition) (vec_len prepared.plan.works) script.sessions) 0 prepared.plan.surveys.items prepared.plan.plans.items
  pub works : EachFrom (WorkAt (model_of script.definition) (vec_len prepared.plan.surveys) prepared.plan.surveys.items) 0 prepared.plan.works.items
  pub surveys_are : (vec_len prepared.plan.surveys ≡ length script.definition.respondents) × (vec_len prepared.plan.surveys ≤ MAX_RESPONDENTS)
  pub plans_are : vec_len prepared.plan.plans ≡ vec_len prepared.plan.surveys
  pub workers_are : vec_len prepared.plan.works ≡ workers
  pub rooms : HasRooms (vec_len prepared.plan.plans) (vec_len prepared.plan.works) prepared.rooms
  pub flags : vec_len prepared.flags ≡ vec_len prepared.plan.works
  pub end_rooms : HasEndRooms (vec_len prepared.plan.surveys) (line_count script.sessions) prepared.end_rooms
