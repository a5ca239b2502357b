-- What contracts see of a script.
use Rattle.std.specs.Prelude.{◌≡◌, ℕ, ◌+◌, ◌≤◌, Bool, true, false, List, [], ◌∷◌, ◌++◌, length, All, Option, Some}
use Rattle.json_forms.specs.declared.messages.Message.{Message}
use Rattle.json_forms.specs.declared.messages.Message.TheVariants.{Hello, Bye}
use Rattle.json_forms.specs.DefinitionViews.{DefinitionView}
use Rattle.survey_core.specs.Legal.{IsDesk}
use Rattle.survey_script.specs.declared.limits.TheConstants.{MAX_SCRIPT_LINES, MAX_SESSIONS}

-- a session: its respondent's number, its desk, and of each line after the hello the message that it is, if it is one
pub record ScriptSessionView : Type 0 where
  pub respondent : ℕ
  pub desk : ℕ
  pub messages : List (Option Message)

-- a definition, and sessions one after another
pub record ScriptView : Type 0 where
  pub definition : DefinitionView
  pub sessions : List ScriptSessionView

abbrev pub script_view : DefinitionView → List ScriptSessionView → ScriptView
script_view definition sessions = record { definition = definition; sessions = sessions }

-- a session of which only the hello has come
abbrev pub begun_session : ℕ → ℕ → ScriptSessionView
begun_session respondent desk = record { respondent = respondent; desk = desk; messages = [] }

-- the session after one more line
abbrev pub with_message : ScriptSessionView → Option Message → ScriptSessionView
with_message session message = record session { messages = session.messages ++ message ∷ [] }

-- the line is a hello
abbrev pub is_hello : Option Message → Bool
is_hello (Some (Hello hello)) = true
is_hello _ = false

-- the line is a bye
abbrev pub is_bye : Option Message → Bool
is_bye (Some Bye) = true
is_bye _ = false

-- a line with which a session neither begins nor ends
abbrev pub IsBetween : Option Message → Type 0
IsBetween message = (is_hello message ≡ false) × (is_bye message ≡ false)

-- the last message is a bye; before it there is none, nor a hello
pub record IsUpToBye (messages : List (Option Message)) : Type 0 where
  pub earlier : List (Option Message)
  pub whole : messages ≡ earlier ++ Some Bye ∷ []
  pub between : All IsBetween earlier

-- a session of one of so many respondents, from its hello to its bye
pub record IsWholeSession (respondents : ℕ) (session : ScriptSessionView) : Type 0 where
  pub respondent : (1 ≤ session.respondent) × (session.respondent ≤ respondents)
  pub desk : IsDesk session.desk
  pub messages : IsUpToBye session.messages

-- how many lines the sessions have, with their hellos
abbrev pub line_count : List ScriptSessionView → ℕ
line_count [] = 0
line_count (session ∷ sessions) = (length session.messages + 1) + line_count sessions

-- whole sessions of the definition's respondents, within the limits
pub record IsWholeScript (script : ScriptView) : Type 0 where
  pub sessions : All (IsWholeSession (length script.definition.respondents)) script.sessions
  pub few : length script.sessions ≤ MAX_SESSIONS
  pub lines : line_count script.sessions ≤ MAX_SCRIPT_LINES
