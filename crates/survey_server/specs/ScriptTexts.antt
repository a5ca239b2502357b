-- The texts of the replies to a script.
use Rattle.std.specs.Prelude.{◌≡◌, ℕ, ◌+◌, ◌≤◌, List, [], ◌∷◌, ◌++◌, length, map, flat_map, take, drop, All, Option, Some, None}
use Rattle.std.specs.List.{concat}
use Rattle.criteria_model.specs.Criteria.{Criteria}
use Rattle.json_forms.specs.declared.replies.Reply.{Reply}
use Rattle.row_laws.specs.Items.{item_at}
use Rattle.session_protocol.specs.Sessions.{CanBeWritten, text_of}
use Rattle.survey_run.specs.Sessions.{SessionRun, replies_of}
use Rattle.survey_script.specs.ScriptViews.{ScriptSessionView}
use Rattle.survey_state.specs.States.{Surveyed}

-- the text of replies, one after another, by the final state of their respondent's survey
abbrev pub replies_text : Option Surveyed → List Reply → List ℕ
replies_text (Some state) replies = concat (map (text_of state.listed state.journal) replies)
replies_text None replies = []

-- the text of the replies to the lines of a session, where there is this number of classes and these are the final states
abbrev pub session_text : ℕ → List Surveyed → SessionRun → List ℕ
session_text classes states run = replies_text (item_at states run.respondent) (replies_of classes run)

-- that of all sessions, in input order
abbrev pub sessions_text : ℕ → List Surveyed → List SessionRun → List ℕ
sessions_text classes states runs = flat_map (session_text classes states) runs

-- how many lines a session has, with its hello
abbrev pub session_lines : ScriptSessionView → ℕ
session_lines session = length session.messages + 1

-- the same text, where only the replies are known: each session takes as many of them as it has lines
abbrev pub text_by_lines : List Surveyed → List ScriptSessionView → List Reply → List ℕ
text_by_lines states [] replies = []
text_by_lines states (session ∷ sessions) replies =
    replies_text (item_at states session.respondent) (take (session_lines session) replies) ++ text_by_lines states sessions (drop (session_lines session) replies)

-- there is a state of this model, in whose journal each reply can be written
pub record AreWritable (criteria : Criteria) (given : Option Surveyed) (replies : List Reply) : Type 0 where
  pub state : Surveyed
  pub is : given ≡ Some state
  pub model : state.listed.criteria ≡ criteria
  pub each : All (CanBeWritten state.listed state.journal) replies

-- each session has as many replies as it has lines, and they can be written
abbrev pub EachHasReplies : Criteria → List Surveyed → List ScriptSessionView → List Reply → Type 0
EachHasReplies criteria states [] replies = Unit {0}
EachHasReplies criteria states (session ∷ sessions) replies =
    (session_lines session ≤ length replies) × AreWritable criteria (item_at states session.respondent) (take (session_lines session) replies)
    × EachHasReplies criteria states sessions (drop (session_lines session) replies)
