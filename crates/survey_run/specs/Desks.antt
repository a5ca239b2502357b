-- What a desk says in the sessions of a script.
use Rattle.std.specs.Prelude.{◌≡◌, ◌≢◌, ℕ, ◌+◌, ◌≤◌, ◌==◌, ◌&&◌, Bool, true, false, IsTrue, List, [], ◌∷◌, map, length, flat_map, vec_capacity, IfOk}
use Rattle.std.specs.List.{AllZip, AllByRecursion, list_any}
use Rattle.std.specs.Option.{ForSome}
use Rattle.std.specs.Global.{Vec}
use Rattle.json_forms.specs.declared.replies.Reply.{Reply}
use Rattle.json_forms.specs.declared.replies.Reply.TheVariants.{Welcome}
use Rattle.pair_enumeration.specs.Listed.{Listed}
use Rattle.survey_core.specs.Legal.{IsDesk}
use Rattle.survey_replies.specs.Outcomes.{Exchange}
use Rattle.survey_replies.specs.Calls.{Seen, unseen, Conversation}
use Rattle.shared_survey.specs.declared.survey.Survey.{Survey}
use Rattle.shared_survey.specs.Passes.{IsPassOf, desk_of, pass_seen, pass_weight, survey_listed}
use Rattle.survey_script.specs.ScriptViews.{ScriptSessionView}
use Rattle.survey_run.specs.declared.desks.DeskJob.{DeskJob}
use Rattle.survey_run.specs.declared.desks.Spoken.{Spoken}
use Rattle.survey_run.specs.Sessions.{MessageRun, message_exchanges, message_reply}

-- the session is one of this respondent at this desk
abbrev pub is_at : ℕ → ℕ → ScriptSessionView → Bool
is_at respondent desk session = (session.respondent == respondent) && (session.desk == desk)

-- what a desk says in a session of the script
pub record DeskSession : Type 0 where
  pub session : ScriptSessionView
  pub messages : List MessageRun
  pub replies : List Reply

-- in one of its own, a reply to each line; in another desk's, nothing
abbrev pub IsSaid : ℕ → ℕ → Bool → DeskSession → Type 0
IsSaid classes desk true one =
    (map (λ m. m.message) one.messages ≡ one.session.messages) × (one.replies ≡ Welcome classes desk ∷ map message_reply one.messages)
IsSaid classes desk false one = (one.messages ≡ []) × (one.replies ≡ [])

-- the same of a desk by its number
abbrev pub IsSaidBy : ℕ → ℕ → ℕ → DeskSession → Type 0
IsSaidBy classes respondent desk one = IsSaid classes desk (is_at respondent desk one.session) one

-- all that was asked, and what came of it
abbrev pub said_exchanges : List DeskSession → List Exchange
said_exchanges said = flat_map (λ one. message_exchanges one.messages) said

-- what the desk says in these sessions, one after another
pub record SaysAll (listed : Listed) (respondent desk : ℕ) (before after : Seen) (sessions : List ScriptSessionView) (told : List (List Reply)) : Type 0 where
  pub said : List DeskSession
  pub each : AllByRecursion (IsSaidBy (length listed.classes) respondent desk) said
  pub of : map (λ one. one.session) said ≡ sessions
  pub shown : map (λ one. one.replies) said ≡ told
  pub talk : Conversation listed desk before after (said_exchanges said)

-- what the desk says in one session
pub record SaysOne (listed : Listed) (respondent desk : ℕ) (before after : Seen) (session : ScriptSessionView) (replies : List Reply) : Type 0 where
  pub messages : List MessageRun
  pub is : IsSaidBy (length listed.classes) respondent desk (record { session = session; messages = messages; replies = replies })
  pub talk : Conversation listed desk before after (message_exchanges messages)

-- the replies of each session
abbrev pub lists_of : Vec (Vec Reply) → List (List Reply)
lists_of told = map (λ replies. replies.items) told.items

-- there is room for the replies of a session of the desk
pub record HasSessionRoom (respondent desk : ℕ) (session : ScriptSessionView) (room : Vec Reply) : Type 0 where
  pub empty : room.items ≡ []
  pub fits : IsTrue (is_at respondent desk session) → length session.messages + 1 ≤ vec_capacity room

-- no session is the desk's
abbrev pub HasNoSession : ℕ → ℕ → List ScriptSessionView → Type 0
HasNoSession respondent desk sessions = list_any (is_at respondent desk) sessions ≡ false

-- a desk's job: by a pass of the survey that has seen nothing; without sessions the pass is of no desk
pub record IsJobFor (survey : Survey) (respondent desk : ℕ) (sessions : List ScriptSessionView) (job : DeskJob) : Type 0 where
  pub pass : IsPassOf survey job.pass
  pub weight : pass_weight job.pass ≡ 1
  pub seen : pass_seen job.pass ≡ unseen
  pub number : job.desk ≡ desk
  pub is_desk : IsDesk desk
  pub sits : desk_of job.pass ≢ 0 → desk_of job.pass ≡ desk
  pub idle : desk_of job.pass ≡ 0 → HasNoSession respondent desk sessions
  pub rooms : AllZip (HasSessionRoom respondent desk) sessions job.rooms.items
  pub told : (job.told.items ≡ []) × (length sessions ≤ vec_capacity job.told)
  pub jobs : ForSome job.jobs (λ end. (1 ≤ respondent) × (respondent ≤ end.surveys))

-- the desk has said all, unless it was out of memory
pub record HasSpoken (survey : Survey) (respondent desk : ℕ) (sessions : List ScriptSessionView) (spoken : Spoken) : Type 0 where
  pub pass : IsPassOf survey spoken.pass
  pub weight : pass_weight spoken.pass ≡ 1
  pub said : IfOk spoken.told (λ told. SaysAll (survey_listed survey) respondent desk unseen (pass_seen spoken.pass) sessions (lists_of told))
