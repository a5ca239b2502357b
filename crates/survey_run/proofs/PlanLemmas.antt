-- What plans come to.
use Rattle.std.proofs.Common.{◌≡◌, ℕ, ◌+◌, ◌<◌, List, [], ◌∷◌, ◌++◌, All, length, arith}
use Rattle.std.specs.Prelude.{vec_capacity}
use Rattle.std.specs.List.{AllByRecursion}
use Rattle.std.proofs.lemmas.List.Elements.{All-nil, All-cons}
use Rattle.criteria_model.specs.Criteria.{Criteria}
use Rattle.shared_survey.specs.declared.survey.Survey.{Survey}
use Rattle.shared_survey.specs.Passes.{survey_listed}
use Rattle.survey_script.specs.ScriptViews.{ScriptSessionView}
use Rattle.survey_run.specs.declared.plans.SurveyPlan.{SurveyPlan}
use Rattle.survey_run.specs.declared.runs.SurveyRunning.{SurveyRunning}
use Rattle.survey_run.specs.declared.workers.WorkerJob.{WorkerJob}
use Rattle.survey_run.specs.Each.{EachFrom, EachZipFrom}
use Rattle.survey_run.specs.Joins.{HasRoomFor, RunningAt}
use Rattle.survey_run.specs.Plans.{PlanAt}
use Rattle.survey_run.specs.Workers.{IsFreshPass, WorkAt}
use Rattle.survey_run.proofs.EachLemmas.{all_zip_length}

-- eliminators that don't have all passes have room for one more
pub rooms_of : (criteria : Criteria) (count : ℕ) (surveys : List Survey) (n : ℕ) (works : List WorkerJob) → length surveys < count
    → EachFrom (WorkAt criteria count surveys) n works
    → AllByRecursion (λ (job : WorkerJob). length job.passes.items < vec_capacity job.passes) works
rooms_of criteria count surveys n [] less each = tt
rooms_of criteria count surveys n (w ∷ ws) less each =
    let long = all_zip_length IsFreshPass surveys w.passes.items each.0.passes in
    (omega (arith, long, less, each.0.room), rooms_of criteria count surveys (n + 1) ws less each.1)

-- all surveys are of the model
pub plans_models : (criteria : Criteria) (workers : ℕ) (sessions : List ScriptSessionView) (n : ℕ) (surveys : List Survey) (plans : List SurveyPlan)
    → EachZipFrom (PlanAt criteria workers sessions) n surveys plans → All (λ (survey : Survey). (survey_listed survey).criteria ≡ criteria) surveys
plans_models criteria workers sessions n [] [] each = All-nil (λ (survey : Survey). (survey_listed survey).criteria ≡ criteria)
plans_models criteria workers sessions n [] (p ∷ ps) each = absurd each
plans_models criteria workers sessions n (s ∷ ss) [] each = absurd each
plans_models criteria workers sessions n (s ∷ ss) (p ∷ ps) each =
    All-cons (λ (survey : Survey). (survey_listed survey).criteria ≡ criteria) s ss each.0.survey_is.model (plans_models criteria workers sessions (n + 1) ss ps each.1)

-- all that run have room for what comes of them
pub running_rooms : (criteria : Criteria) (workers : ℕ) (sessions : List ScriptSessionView) (n : ℕ) (surveys : List Survey) (running : List SurveyRunning)
    → EachZipFrom (RunningAt criteria workers sessions) n surveys running → AllByRecursion HasRoomFor running
running_rooms criteria workers sessions n [] [] each = tt
running_rooms criteria workers sessions n [] (r ∷ rs) each = absurd each
running_rooms criteria workers sessions n (s ∷ ss) [] each = absurd each
running_rooms criteria workers sessions n (s ∷ ss) (r ∷ rs) each = (each.0.running_is.room, running_rooms criteria workers sessions (n + 1) ss rs each.1)

pub each_front : {X : Type 0} (P : X → Type 0) (xs ys : List X) → AllByRecursion P (xs ++ ys) → AllByRecursion P xs
each_front P [] ys each = tt
each_front P (x ∷ xs) ys each = (each.0, each_front P xs ys each.1)
