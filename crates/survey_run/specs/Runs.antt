-- What a run of a script leaves: over the one journal of each respondent's survey, what its desks and the eliminators did.
use Rattle.std.specs.Prelude.{◌≡◌, ℕ, ◌≤◌, List, length, flat_map, All, Any, Some}
use Rattle.std.specs.List.{AllZip}
use Rattle.criteria_model.specs.Counts.{class_count}
use Rattle.criteria_model.specs.Criteria.{Criteria}
use Rattle.json_forms.specs.DefinitionViews.{model_of}
use Rattle.pair_enumeration.specs.Listed.{IsListed}
use Rattle.row_laws.specs.Items.{item_at}
use Rattle.survey_core.specs.Legal.{IsLegal}
use Rattle.survey_replies.specs.JournalLaws.{DeskRun, WorkerRun, MakesJournal}
use Rattle.survey_script.specs.ScriptViews.{ScriptView}
use Rattle.survey_state.specs.States.{Surveyed}
use Rattle.survey_run.specs.RunViews.{RunView}
use Rattle.survey_run.specs.Sessions.{SessionRun, IsRunOf, replies_of, of_respondent, of_desk, all_exchanges}

-- a respondent's survey after these sessions, beside `workers` eliminators
pub record IsSurveyRun (criteria : Criteria) (workers : ℕ) (sessions : List SessionRun) (state : Surveyed) : Type 0 where
  pub model : state.listed.criteria ≡ criteria
  pub listed : IsListed state.listed
  -- the journal is a legal history
  pub legal : IsLegal state.listed state.journal
  -- what each desk did: all its sessions, in input order, are one conversation, whose replies are right in this journal, in order,
  -- and with their events in it. A desk is here exactly where it has a session
  pub desks : List DeskRun
  pub said : All (λ run. run.exchanges ≡ all_exchanges (of_desk run.desk sessions)) desks
  pub each : All (λ session. Any (λ run. run.desk ≡ session.desk) desks) sessions
  pub only : All (λ run. Any (λ session. session.desk ≡ run.desk) sessions) desks
  -- what each eliminator did
  pub eliminators : List WorkerRun
  pub numbered : All (λ run. run.worker ≤ workers) eliminators
  -- each event of the journal was made by one of them, once
  pub makes : MakesJournal state.listed state.journal desks eliminators

-- how many classes a model has
abbrev pub count_of : Criteria → ℕ
count_of criteria = class_count criteria.levels criteria.degree

-- the run of a script beside `workers` eliminators, with what came of each session, in input order
pub record IsRunBy (script : ScriptView) (workers : ℕ) (end : RunView) (sessions : List SessionRun) : Type 0 where
  pub runs : AllZip IsRunOf script.sessions sessions
  -- a survey for each respondent
  pub surveys : length end.states ≡ length script.definition.respondents
  pub each : (respondent : ℕ) (state : Surveyed) → item_at end.states respondent ≡ Some state
      → IsSurveyRun (model_of script.definition) workers (of_respondent respondent sessions) state
  -- the replies, line by line
  pub replies : end.replies ≡ flat_map (replies_of (count_of (model_of script.definition))) sessions

-- the same, whatever came of each
abbrev pub IsRun : ScriptView → ℕ → RunView → Type 0
IsRun script workers end = (sessions : List SessionRun) × IsRunBy script workers end sessions
