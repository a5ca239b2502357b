-- What a run is begun with: surveys, passes and rooms.
use Rattle.std.specs.Prelude.{◌≡◌, ℕ, ◌+◌, ◌≤◌, List, [], length, vec_capacity}
use Rattle.criteria_model.specs.Criteria.{Criteria}
use Rattle.json_forms.specs.DefinitionViews.{model_of}
use Rattle.pair_enumeration.specs.Listed.{IsListed}
use Rattle.survey_core.specs.declared.limits.TheConstants.{MAX_DESKS}
use Rattle.survey_replies.specs.Calls.{unseen}
use Rattle.shared_survey.specs.declared.survey.Survey.{Survey}
use Rattle.shared_survey.specs.Passes.{IsPassOf, pass_seen, pass_weight, survey_listed, survey_weight}
use Rattle.survey_script.specs.ScriptViews.{ScriptSessionView, ScriptView}
use Rattle.survey_run.specs.declared.desks.DeskJob.{DeskJob}
use Rattle.survey_run.specs.declared.plans.SurveyPlan.{SurveyPlan}
use Rattle.survey_run.specs.declared.workers.WorkerJob.{WorkerJob}
use Rattle.survey_run.specs.Desks.{IsJobFor}
use Rattle.survey_run.specs.Each.{EachFrom, EachZipFrom}
use Rattle.survey_run.specs.Workers.{WorkAt}

-- how many passes a survey is split into: one for each desk and each eliminator, and one that the others are joined into
abbrev pub pass_count : ℕ → ℕ
pass_count workers = 1 + MAX_DESKS + workers

-- a survey of the model, beside `workers` eliminators
pub record IsSharedSurveyOf (criteria : Criteria) (workers : ℕ) (survey : Survey) : Type 0 where
  pub model : (survey_listed survey).criteria ≡ criteria
  pub listed : IsListed (survey_listed survey)
  pub weight : survey_weight survey ≡ pass_count workers

-- the job of the desk with this number, counted from 0
abbrev pub JobAt : Survey → ℕ → List ScriptSessionView → ℕ → DeskJob → Type 0
JobAt survey respondent sessions n job = IsJobFor survey respondent (n + 1) sessions job

-- a job for each desk, and room for what comes of them
pub record IsPlanFor (survey : Survey) (respondent : ℕ) (sessions : List ScriptSessionView) (plan : SurveyPlan) : Type 0 where
  pub whole : IsPassOf survey plan.whole
  pub weight : pass_weight plan.whole ≡ 1
  pub seen : pass_seen plan.whole ≡ unseen
  pub desks : EachFrom (JobAt survey respondent sessions) 0 plan.desks.items
  pub count : length plan.desks.items ≡ MAX_DESKS
  pub running : (plan.running.items ≡ []) × (MAX_DESKS ≤ vec_capacity plan.running)
  pub spoken : (plan.spoken.items ≡ []) × (MAX_DESKS ≤ vec_capacity plan.spoken)
  pub told : (plan.told.items ≡ []) × (MAX_DESKS ≤ vec_capacity plan.told)

-- a survey and its plan, of the respondent with this number, counted from 0
pub record PlanAt (criteria : Criteria) (workers : ℕ) (sessions : List ScriptSessionView) (n : ℕ) (survey : Survey) (plan : SurveyPlan) : Type 0 where
  pub survey_is : IsSharedSurveyOf criteria workers survey
  pub plan_is : IsPlanFor survey (n + 1) sessions plan

-- the surveys of a script's respondents, with their plans, and the jobs of `workers` eliminators
pub record IsPlan (script : ScriptView) (workers : ℕ) (surveys : List Survey) (plans : List SurveyPlan) (works : List WorkerJob) : Type 0 where
  pub plans_are : EachZipFrom (PlanAt (model_of script.definition) workers script.sessions) 0 surveys plans
  pub count : length surveys ≡ length script.definition.respondents
  pub works_are : EachFrom (WorkAt (model_of script.definition) (length script.definition.respondents) surveys) 0 works
  pub workers_are : length works ≡ workers
