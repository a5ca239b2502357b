-- Which script a text is, or the first line of it that fails.
use Rattle.std.specs.Prelude.{◌≡◌, ℕ, ◌+◌, ◌<◌, ◌==◌, nat_le, nat_lt, List, [], ◌∷◌, ◌++◌, length, All, if◌then◌else◌, Option, Some, None, IfSome, Result, Ok, Err}
use Rattle.edges.specs.Line.{HasNoLineEnd, line_end, unlines}
use Rattle.json_forms.specs.declared.definition_faults.TheConstants.{MAX_DEFINITION}
use Rattle.json_forms.specs.declared.definition_faults.DefinitionFault.{DefinitionFault}
use Rattle.json_forms.specs.declared.definition_faults.DefinitionFault.TheVariants as fault
use Rattle.json_forms.specs.declared.messages.Message.{Message}
use Rattle.json_forms.specs.declared.messages.Message.TheVariants as message
use Rattle.json_forms.specs.DefinitionViews.{DefinitionView}
use Rattle.json_forms.specs.Definitions.{definition_of}
use Rattle.json_forms.specs.Messages.{message_of}
use Rattle.result_file.specs.declared.limits.TheConstants.{MAX_LINE}
use Rattle.survey_script.specs.declared.hellos.Admitted.{Admitted}
use Rattle.survey_script.specs.declared.hellos.HelloFault.{HelloFault}
use Rattle.survey_script.specs.declared.hellos.HelloFault.TheVariants as hello
use Rattle.survey_script.specs.declared.limits.TheConstants.{MAX_SCRIPT_LINES, MAX_SESSIONS}
use Rattle.survey_script.specs.declared.stops.ScriptPart.{ScriptPart}
use Rattle.survey_script.specs.declared.stops.ScriptPart.TheVariants.{Long, Lines, Hello, Sessions, Name, Code, Desk, Bye}
use Rattle.survey_script.specs.declared.stops.ScriptStop.{ScriptStop}
use Rattle.survey_script.specs.declared.stops.ScriptStop.TheVariants.{Definition, Script, ReadFault, NoMemory}
use Rattle.survey_script.specs.Hellos.{admission_of}
use Rattle.survey_script.specs.ScriptViews.{ScriptSessionView, ScriptView, begun_session, is_bye, is_hello, script_view, with_message}

-- ---- lines

-- a byte before the first of these lines
abbrev pub begin_with : ℕ → List (List ℕ) → List (List ℕ)
begin_with byte [] = (byte ∷ []) ∷ []
begin_with byte (line ∷ lines) = (byte ∷ line) ∷ lines

-- the lines of a text, without their line ends, which the last may lack
abbrev pub lines_in : List ℕ → List (List ℕ)
lines_in [] = []
lines_in (byte ∷ text) = if byte == line_end then [] ∷ lines_in text else begin_with byte (lines_in text)

-- ---- what a line after the definition comes to

-- the sessions that have ended, and the one that is running
pub record SessionsView : Type 0 where
  pub ended : List ScriptSessionView
  pub running : Option ScriptSessionView

abbrev pub sessions_view : List ScriptSessionView → Option ScriptSessionView → SessionsView
sessions_view ended running = record { ended = ended; running = running }

-- no line has come
abbrev pub no_sessions : SessionsView
no_sessions = sessions_view [] None

-- the part of a fault of a hello
abbrev pub hello_part : HelloFault → ScriptPart
hello_part hello.Name = Name
hello_part hello.Code = Code
hello_part hello.Desk = Desk

-- a session begins where the hello passes its tests
abbrev pub begun_by : List ScriptSessionView → Result Admitted HelloFault → Result SessionsView ScriptPart
begun_by ended (Ok admitted) = Ok (sessions_view ended (Some (begun_session admitted.respondent admitted.desk)))
begun_by ended (Err fault) = Err (hello_part fault)

-- where no session is running a hello begins one, and all else fails
abbrev pub after_hello : DefinitionView → List ScriptSessionView → Option Message → Result SessionsView ScriptPart
after_hello definition ended (Some (message.Hello hello)) =
    if nat_le MAX_SESSIONS (length ended) then Err Sessions else begun_by ended (admission_of definition hello)
after_hello definition ended _ = Err Hello

-- where one is running a bye ends it, and a hello fails
abbrev pub after_request : List ScriptSessionView → ScriptSessionView → Option Message → Result SessionsView ScriptPart
after_request ended session message =
    if is_hello message then Err Bye else
    if is_bye message then Ok (sessions_view (ended ++ with_message session message ∷ []) None) else
    Ok (sessions_view ended (Some (with_message session message)))

abbrev pub after_message : DefinitionView → List ScriptSessionView → Option ScriptSessionView → Option Message → Result SessionsView ScriptPart
after_message definition ended None message = after_hello definition ended message
after_message definition ended (Some session) message = after_request ended session message

-- the sessions after the line of this number, or the first part that it fails
abbrev pub after_line : DefinitionView → ℕ → SessionsView → List ℕ → Result SessionsView ScriptPart
after_line definition number sessions line =
    if nat_lt MAX_LINE (length line) then Err Long else
    if nat_lt (MAX_SCRIPT_LINES + 1) number then Err Lines else
    after_message definition sessions.ended sessions.running (message_of line)

-- ---- whole texts

-- what follows of the sessions after a line, or the stop at the line of this number
abbrev pub go_on : {X : Type 0} → ℕ → Result SessionsView ScriptPart → (SessionsView → Result X ScriptStop) → Result X ScriptStop
go_on number (Ok sessions) next = next sessions
go_on number (Err part) next = Err (Script number part)

-- where the text ends before the line of this number, no session may be running
abbrev pub ended_at : ℕ → List ScriptSessionView → Option ScriptSessionView → Result (List ScriptSessionView) ScriptStop
ended_at number ended None = Ok ended
ended_at number ended (Some session) = Err (Script number Bye)

-- the sessions that lines come to after these, the first of which has this number; or the first that fails
abbrev pub sessions_after : DefinitionView → ℕ → SessionsView → List (List ℕ) → Result (List ScriptSessionView) ScriptStop
sessions_after definition number sessions [] = ended_at number sessions.ended sessions.running
sessions_after definition number sessions (line ∷ lines) =
    go_on number (after_line definition number sessions line) (λ next. sessions_after definition (number + 1) next lines)

-- a definition, or the stop at its fault
abbrev pub defined : Result DefinitionView DefinitionFault → Result DefinitionView ScriptStop
defined (Ok definition) = Ok definition
defined (Err fault) = Err (Definition fault)

-- the definition of the first line
abbrev pub first_definition : List ℕ → Result DefinitionView ScriptStop
first_definition line = if nat_lt MAX_DEFINITION (length line) then Err (Definition fault.Long) else defined (definition_of line)

-- the script of a definition and sessions
abbrev pub script_with : DefinitionView → Result (List ScriptSessionView) ScriptStop → Result ScriptView ScriptStop
script_with definition (Ok sessions) = Ok (script_view definition sessions)
script_with definition (Err stop) = Err stop

-- the script of a definition and the lines after it, of which the first has the number 2
abbrev pub script_by : Result DefinitionView ScriptStop → List (List ℕ) → Result ScriptView ScriptStop
script_by (Ok definition) lines = script_with definition (sessions_after definition 2 no_sessions lines)
script_by (Err stop) lines = Err stop

-- the script of these lines; an empty text has an empty first line
abbrev pub script_in : List (List ℕ) → Result ScriptView ScriptStop
script_in [] = script_by (first_definition []) []
script_in (line ∷ lines) = script_by (first_definition line) lines

-- the script that the text is, or why it is none
abbrev pub script_of : List ℕ → Result ScriptView ScriptStop
script_of text = script_in (lines_in text)

-- the text is known, and is a script
abbrev pub IsScript : Option (List ℕ) → Type 0
IsScript told = (text : List ℕ) × (script : ScriptView) × (told ≡ Some text) × (script_of text ≡ Ok script)

-- the stop is the one of the text; a fault of the source and want of memory say nothing of it
abbrev pub IsStopOf : {X : Type 0} → Result X ScriptStop → ScriptStop → Type 0
IsStopOf outcome (Definition fault) = outcome ≡ Err (Definition fault)
IsStopOf outcome (Script line part) = outcome ≡ Err (Script line part)
IsStopOf outcome ReadFault = Unit {0}
IsStopOf outcome NoMemory = Unit {0}

-- ---- where the source fails

-- a text that begins with these lines fails, if at all, at a later line
pub record NoneFails (lines : List (List ℕ)) : Type 0 where
  pub definition : (rest : List ℕ) (fault : DefinitionFault) → script_of (unlines lines ++ rest) ≡ Err (Definition fault) → lines ≡ []
  pub later : (rest : List ℕ) (number : ℕ) (part : ScriptPart) → script_of (unlines lines ++ rest) ≡ Err (Script number part) → length lines < number

-- so much of a text was taken: whole lines of which P holds, and then no whole line
pub record IsCutAfter (P : List (List ℕ) → Type 0) (text left : List ℕ) : Type 0 where
  pub lines : List (List ℕ)
  pub each : All HasNoLineEnd lines
  pub piece : List ℕ
  pub unbroken : HasNoLineEnd piece
  pub taken : text ≡ unlines lines ++ piece ++ left
  pub holds : P lines

-- where the source failed, it did so before a line that fails had come whole
abbrev pub NoneFailsBeforeCut : Option (List ℕ) → Option (List ℕ) → Type 0
NoneFailsBeforeCut told left = IfSome told (λ text. (rest : List ℕ) × (left ≡ Some rest) × IsCutAfter NoneFails text rest)
