-- A run, from its plan to its ends.
use Rattle.std.proofs.Common.{◌≡◌, ◌∙◌, ℕ, List, length, map, sym, subst, arith}
use Rattle.std.specs.List.{flat_map}
use Rattle.criteria_model.specs.Criteria.{Criteria}
use Rattle.json_forms.specs.DefinitionViews.{model_of}
use Rattle.shared_survey.specs.declared.survey.Survey.{Survey}
use Rattle.survey_script.specs.ScriptViews.{IsWholeScript, ScriptSessionView, ScriptView}
use Rattle.survey_run.specs.declared.ends.SurveyEnd.{SurveyEnd}
use Rattle.survey_run.specs.declared.plans.SurveyPlan.{SurveyPlan}
use Rattle.survey_run.specs.declared.runs.SurveySpoken.{SurveySpoken}
use Rattle.survey_run.specs.declared.workers.WorkerJob.{WorkerJob}
use Rattle.survey_run.specs.Collecting.{AreEndsOf}
use Rattle.survey_run.specs.Collects.{runs_from}
use Rattle.survey_run.specs.Each.{EachFrom, EachZipFrom, StackFrom}
use Rattle.survey_run.specs.Ends.{DeskPart, EndAt}
use Rattle.survey_run.specs.Joins.{SpokenAt}
use Rattle.survey_run.specs.Plans.{IsPlan, PlanAt}
use Rattle.survey_run.specs.RunViews.{RunView}
use Rattle.survey_run.specs.Runs.{IsRun, count_of}
use Rattle.survey_run.specs.Sessions.{replies_of}
use Rattle.survey_run.specs.Workers.{WorkAt}
use Rattle.survey_run.proofs.EachLemmas.{zip_length}
use Rattle.survey_run.proofs.RunByLemmas.{run_by}

module _ (script : ScriptView) (workers : ℕ) (surveys : List Survey) (plans : List SurveyPlan) (works : List WorkerJob) (plan : IsPlan script workers surveys plans works) where
  pub plans_given : (count : ℕ) → count ≡ length works → EachZipFrom (PlanAt (model_of script.definition) count script.sessions) 0 surveys plans
  plans_given count same =
      subst (λ (n : ℕ). EachZipFrom (PlanAt (model_of script.definition) n script.sessions) 0 surveys plans) (sym (same ∙ plan.workers_are)) plan.plans_are

  pub plan_count : length plans ≡ length script.definition.respondents
  plan_count =
      let same = zip_length (PlanAt (model_of script.definition) workers script.sessions) 0 surveys plans plan.plans_are in omega (arith, same, plan.count)

  pub works_given : (count : ℕ) → count ≡ length surveys → EachFrom (WorkAt (model_of script.definition) count surveys) 0 works
  works_given count same = subst (λ (n : ℕ). EachFrom (WorkAt (model_of script.definition) n surveys) 0 works) (sym (same ∙ plan.count)) plan.works_are

-- the ends of all surveys
pub record AllEnded (script : ScriptView) (workers : ℕ) (ends : List SurveyEnd) : Type 0 where
  pub parts : List (List DeskPart)
  pub each : EachZipFrom (EndAt (model_of script.definition) workers script.sessions) 0 parts ends
  pub count : length ends ≡ length script.definition.respondents

-- what closing the surveys gave
pub all_ended : (script : ScriptView) (workers many : ℕ) (surveys : List Survey) (spoken : List SurveySpoken) (ends : List SurveyEnd)
    → many ≡ length script.definition.respondents → StackFrom (SpokenAt (model_of script.definition) workers script.sessions) 0 surveys spoken
    → ((criteria : Criteria) (sessions : List ScriptSessionView) → StackFrom (SpokenAt criteria workers sessions) 0 surveys spoken
    → (parts : List (List DeskPart)) × (length parts ≡ many) × EachZipFrom (EndAt criteria workers sessions) 0 parts ends) → AllEnded script workers ends
all_ended script workers many surveys spoken ends all said close =
    let criteria = model_of script.definition in
    let closed = close criteria script.sessions said in
    let both = zip_length (EndAt criteria workers script.sessions) 0 closed.0 ends closed.2 in
    record { parts = closed.0; each = closed.2; count = omega (arith, both, closed.1, all) }

pub ends_are : (script : ScriptView) (workers : ℕ) (ends : List SurveyEnd) → IsWholeScript script → AllEnded script workers ends → AreEndsOf script ends
ends_are script workers ends whole ended = record { whole = whole; workers = workers; parts = ended.parts; each = ended.each; count = ended.count }

-- the run, by what was collected of the ends
pub script_ran : (script : ScriptView) (workers : ℕ) (ends : List SurveyEnd) (end : RunView) (whole : IsWholeScript script) (ended : AllEnded script workers ends)
    → end.states ≡ map (λ (one : SurveyEnd). one.state) ends
    → end.replies ≡ flat_map (replies_of (count_of (model_of script.definition))) (runs_from ended.parts 0 script.sessions) → IsRun script workers end
script_ran script workers ends end whole ended states replies =
    (runs_from ended.parts 0 script.sessions, run_by script workers ended.parts ends end whole ended.each ended.count states replies)
