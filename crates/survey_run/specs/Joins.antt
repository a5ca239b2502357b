-- What threads are given, and bring back.
use Rattle.std.specs.Prelude.{◌≡◌, ℕ, ◌+◌, ◌≤◌, List, [], length, vec_capacity}
use Rattle.std.specs.Global.{Vec}
use Rattle.criteria_model.specs.Criteria.{Criteria}
use Rattle.survey_core.specs.declared.limits.TheConstants.{MAX_DESKS}
use Rattle.survey_replies.specs.Calls.{unseen}
use Rattle.shared_survey.specs.declared.pass.Pass.{Pass}
use Rattle.shared_survey.specs.declared.survey.Survey.{Survey}
use Rattle.shared_survey.specs.Passes.{IsPassOf, pass_seen, pass_weight}
use Rattle.survey_script.specs.ScriptViews.{ScriptSessionView}
use Rattle.survey_run.specs.declared.desks.Running.{Running}
use Rattle.survey_run.specs.declared.desks.Spoken.{Spoken}
use Rattle.survey_run.specs.declared.runs.Rooms.{Rooms}
use Rattle.survey_run.specs.declared.runs.SurveyRunning.{SurveyRunning}
use Rattle.survey_run.specs.declared.runs.SurveySpoken.{SurveySpoken}
use Rattle.survey_run.specs.declared.workers.Working.{Working}
use Rattle.survey_run.specs.Desks.{HasSpoken}
use Rattle.survey_run.specs.DeskRuns.{RunsFor}
use Rattle.survey_run.specs.Each.{EachFrom}
use Rattle.survey_run.specs.Plans.{IsSharedSurveyOf}
use Rattle.survey_run.specs.Workers.{IsStack}
use Rattle.survey_run.specs.WorkerRuns.{WorksFor}

-- the desk with this number, counted from 0, runs
abbrev pub RunAt : Survey → ℕ → List ScriptSessionView → ℕ → Running → Type 0
RunAt survey respondent sessions n run = RunsFor survey respondent (n + 1) sessions run

-- it has spoken
abbrev pub SpeechAt : Survey → ℕ → List ScriptSessionView → ℕ → Spoken → Type 0
SpeechAt survey respondent sessions n spoken = HasSpoken survey respondent (n + 1) sessions spoken

-- there is room for what comes of the desks
pub record HasRoomFor (running : SurveyRunning) : Type 0 where
  pub spoken : (running.spoken.items ≡ []) × (length running.running.items ≤ vec_capacity running.spoken)

-- the desks of a survey run
pub record IsRunningOf (survey : Survey) (respondent : ℕ) (sessions : List ScriptSessionView) (running : SurveyRunning) : Type 0 where
  pub whole : IsPassOf survey running.whole
  pub weight : pass_weight running.whole ≡ 1
  pub seen : pass_seen running.whole ≡ unseen
  pub runs : EachFrom (RunAt survey respondent sessions) 0 running.running.items
  pub count : length running.running.items ≡ MAX_DESKS
  pub room : HasRoomFor running
  pub told : (running.told.items ≡ []) × (MAX_DESKS ≤ vec_capacity running.told)

-- they have spoken
pub record IsSpokenOf (survey : Survey) (respondent : ℕ) (sessions : List ScriptSessionView) (spoken : SurveySpoken) : Type 0 where
  pub whole : IsPassOf survey spoken.whole
  pub weight : pass_weight spoken.whole ≡ 1
  pub seen : pass_seen spoken.whole ≡ unseen
  pub speeches : EachFrom (SpeechAt survey respondent sessions) 0 spoken.spoken.items
  pub count : length spoken.spoken.items ≡ MAX_DESKS
  pub told : (spoken.told.items ≡ []) × (MAX_DESKS ≤ vec_capacity spoken.told)

-- the same of the survey of the respondent with this number, counted from 0
pub record RunningAt (criteria : Criteria) (workers : ℕ) (sessions : List ScriptSessionView) (n : ℕ) (survey : Survey) (running : SurveyRunning) : Type 0 where
  pub survey_is : IsSharedSurveyOf criteria workers survey
  pub running_is : IsRunningOf survey (n + 1) sessions running

pub record SpokenAt (criteria : Criteria) (workers : ℕ) (sessions : List ScriptSessionView) (n : ℕ) (survey : Survey) (spoken : SurveySpoken) : Type 0 where
  pub survey_is : IsSharedSurveyOf criteria workers survey
  pub spoken_is : IsSpokenOf survey (n + 1) sessions spoken

-- the eliminator with this number, counted from 0, works
abbrev pub WorkingAt : List Survey → ℕ → Working → Type 0
WorkingAt surveys n working = WorksFor surveys (n + 1) working

-- it has worked
abbrev pub WorkedAt : List Survey → ℕ → Vec Pass → Type 0
WorkedAt surveys n passes = IsStack (n + 1) surveys passes

-- there is room for what `surveys` surveys and `workers` eliminators bring back
pub record HasRooms (surveys workers : ℕ) (rooms : Rooms) : Type 0 where
  pub running : (rooms.running.items ≡ []) × (surveys ≤ vec_capacity rooms.running)
  pub spoken : (rooms.spoken.items ≡ []) × (surveys ≤ vec_capacity rooms.spoken)
  pub working : (rooms.working.items ≡ []) × (workers ≤ vec_capacity rooms.working)
  pub worked : (rooms.worked.items ≡ []) × (workers ≤ vec_capacity rooms.worked)
