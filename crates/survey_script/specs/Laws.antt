-- What the lines of a script are.
use Rattle.std.specs.Prelude.{◌≡◌, ◌↔◌, ℕ, ◌<◌, ◌≤◌, List, [], ◌∷◌, ◌++◌, length, map, flat_map, All, Some, Ok, Err}
use Rattle.std.specs.List.{AllZip}
use Rattle.edges.specs.Line.{HasNoLineEnd, Splits}
use Rattle.json_forms.specs.declared.definition_faults.TheConstants.{MAX_DEFINITION}
use Rattle.json_forms.specs.declared.messages.Message.TheVariants.{Hello}
use Rattle.json_forms.specs.DefinitionViews.{DefinitionView}
use Rattle.json_forms.specs.Definitions.{definition_of}
use Rattle.json_forms.specs.HelloView.{HelloView}
use Rattle.json_forms.specs.Messages.{message_of}
use Rattle.result_file.specs.declared.limits.TheConstants.{MAX_LINE}
use Rattle.survey_script.specs.declared.limits.TheConstants.{MAX_SCRIPT_LINES, MAX_SESSIONS}
use Rattle.survey_script.specs.declared.stops.ScriptPart.{ScriptPart}
use Rattle.survey_script.specs.declared.stops.ScriptStop.TheVariants.{Script}
use Rattle.survey_script.specs.Hellos.{admission_of}
use Rattle.survey_script.specs.ScriptViews.{IsUpToBye, ScriptSessionView, ScriptView}
use Rattle.survey_script.specs.Scripts.{NoneFails, lines_in, script_of}

-- what is left after the last line end is a line where it isn't empty
abbrev pub last_line : List ℕ → List (List ℕ)
last_line [] = []
last_line (byte ∷ rest) = (byte ∷ rest) ∷ []

-- the lines of a text are those that it is split into, and then what is left
abbrev pub LinesAreSplit : Type 0
LinesAreSplit =
    (text : List ℕ) (lines : List (List ℕ)) (rest : List ℕ) → Splits text lines rest → HasNoLineEnd rest → lines_in text ≡ lines ++ last_line rest

-- the first line of a text, which is empty where the text is, and those after it
abbrev pub first_and_others : List ℕ → List (List ℕ)
first_and_others [] = [] ∷ []
first_and_others (byte ∷ text) = lines_in (byte ∷ text)

-- the lines of a session: its hello, and those after it
pub record SessionLines : Type 0 where
  pub first : List ℕ
  pub others : List (List ℕ)

abbrev pub lines_of_session : SessionLines → List (List ℕ)
lines_of_session lines = lines.first ∷ lines.others

-- the first is a hello that admits the session's respondent to its desk; the others are its messages, of which the last is a bye, and
-- none before it is a bye or a hello
pub record AreSessionLines (definition : DefinitionView) (session : ScriptSessionView) (lines : SessionLines) : Type 0 where
  pub hello : HelloView
  pub said : message_of lines.first ≡ Some (Hello hello)
  pub admitted : admission_of definition hello ≡ Ok (record { respondent = session.respondent; desk = session.desk })
  pub messages : session.messages ≡ map message_of lines.others
  pub ended : IsUpToBye session.messages

-- the lines are that of the script's definition, and then those of its sessions, one after another, all within the limits
pub record AreScriptLines (lines : List (List ℕ)) (script : ScriptView) : Type 0 where
  pub first : List ℕ
  pub sessions : List SessionLines
  pub whole : lines ≡ first ∷ flat_map lines_of_session sessions
  pub definition : definition_of first ≡ Ok script.definition
  pub each : AllZip (AreSessionLines script.definition) script.sessions sessions
  pub first_fits : length first ≤ MAX_DEFINITION
  pub others_fit : All (λ line. length line ≤ MAX_LINE) (flat_map lines_of_session sessions)
  pub few_sessions : length script.sessions ≤ MAX_SESSIONS
  pub few_lines : length (flat_map lines_of_session sessions) ≤ MAX_SCRIPT_LINES

-- a text is a script exactly where its lines are the script's
abbrev pub ScriptsAreLines : Type 0
ScriptsAreLines = (text : List ℕ) (script : ScriptView) → (script_of text ≡ Ok script) ↔ AreScriptLines (first_and_others text) script

-- whole lines at the front of a text that come before the line at which it fails don't fail, whatever follows them
abbrev pub EarlierLinesPass : Type 0
EarlierLinesPass =
    (text : List ℕ) (number : ℕ) (part : ScriptPart) (lines : List (List ℕ)) (rest : List ℕ) → script_of text ≡ Err (Script number part)
    → Splits text lines rest → length lines < number → NoneFails lines
