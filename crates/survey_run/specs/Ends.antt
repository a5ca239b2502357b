-- What is left of a survey when all have spoken and worked.
use Rattle.std.specs.Prelude.{◌≡◌, ℕ, ◌+◌, ◌≤◌, List, ◌++◌, length, map, flat_map, All}
use Rattle.std.specs.List.{AllByRecursion}
use mathlib.Core.List.{IsPrefix}
use Rattle.criteria_model.specs.Criteria.{Criteria}
use Rattle.pair_enumeration.specs.Listed.{Listed, IsListed}
use Rattle.survey_core.specs.declared.events.Event.{Event}
use Rattle.survey_core.specs.declared.limits.TheConstants.{MAX_DESKS}
use Rattle.survey_core.specs.Legal.{IsLegal}
use Rattle.survey_replies.specs.Calls.{Seen, unseen, HasEliminateOf, Conversation}
use Rattle.survey_replies.specs.JournalLaws.{DeskRun, WorkerRun, MakesJournal}
use Rattle.survey_script.specs.ScriptViews.{ScriptSessionView}
use Rattle.survey_run.specs.declared.plans.DeskTold.{DeskTold}
use Rattle.survey_run.specs.declared.ends.SurveyEnd.{SurveyEnd}
use Rattle.survey_run.specs.Desks.{DeskSession, IsSaidBy, lists_of, said_exchanges}
use Rattle.survey_run.specs.Each.{EachZipFrom}

-- what a desk said, and what it has seen and made
pub record DeskPart : Type 0 where
  pub desk : ℕ
  pub said : List DeskSession
  pub seen : Seen

-- all its sessions, one after another
abbrev pub desk_run : DeskPart → DeskRun
desk_run part = record { desk = part.desk; exchanges = said_exchanges part.said; seen = part.seen }

-- the part of the desk with this number, counted from 0, and the replies that show it
pub record IsPartOf (listed : Listed) (respondent : ℕ) (sessions : List ScriptSessionView) (journal : List Event) (n : ℕ) (part : DeskPart) (told : DeskTold) : Type 0 where
  pub number : part.desk ≡ n + 1
  pub each : AllByRecursion (IsSaidBy (length listed.classes) respondent (n + 1)) part.said
  pub of : map (λ one. one.session) part.said ≡ sessions
  pub shown : map (λ one. one.replies) part.said ≡ lists_of told.sessions
  pub talk : Conversation listed (n + 1) unseen part.seen (said_exchanges part.said)
  pub within : IsPrefix part.seen.journal journal

-- what the eliminator made stands in the journal
abbrev pub HasMade : List Event → WorkerRun → Type 0
HasMade journal run = All (HasEliminateOf run.worker journal) run.own

-- the places of all desks and eliminators
abbrev pub all_places : List DeskPart → List WorkerRun → List ℕ
all_places parts workers = flat_map (λ part. part.seen.own) parts ++ flat_map (λ run. run.own) workers

-- the parts of desks and eliminators, joined into one pass
pub record Gathers (listed : Listed) (respondent : ℕ) (sessions : List ScriptSessionView) (seen : Seen) (parts : List DeskPart) (workers : List WorkerRun) (told : List DeskTold) : Type 0 where
  pub each : EachZipFrom (IsPartOf listed respondent sessions seen.journal) 0 parts told
  pub made : AllByRecursion (HasMade seen.journal) workers
  pub own : seen.own ≡ all_places parts workers

-- the eliminators are numbered up to this number
abbrev pub AreNumbered : ℕ → List WorkerRun → Type 0
AreNumbered count workers = All (λ run. (1 ≤ run.worker) × (run.worker ≤ count)) workers

-- the survey's end: its state, and the replies of each desk
pub record IsEndOf (criteria : Criteria) (respondent workers : ℕ) (sessions : List ScriptSessionView) (parts : List DeskPart) (end : SurveyEnd) : Type 0 where
  pub model : end.state.listed.criteria ≡ criteria
  pub listed : IsListed end.state.listed
  pub legal : IsLegal end.state.listed end.state.journal
  pub each : EachZipFrom (IsPartOf end.state.listed respondent sessions end.state.journal) 0 parts end.told.items
  pub count : length parts ≡ MAX_DESKS
  pub eliminators : List WorkerRun
  pub numbered : AreNumbered workers eliminators
  pub makes : MakesJournal end.state.listed end.state.journal (map desk_run parts) eliminators

-- that of the respondent with this number, counted from 0
abbrev pub EndAt : Criteria → ℕ → List ScriptSessionView → ℕ → List DeskPart → SurveyEnd → Type 0
EndAt criteria workers sessions n parts end = IsEndOf criteria (n + 1) workers sessions parts end
