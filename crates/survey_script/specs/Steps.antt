-- What reading a script keeps from line to line.
use Rattle.std.specs.Prelude.{◌≡◌, ◌⊎◌, ℕ, ◌+◌, ◌≤◌, List, [], ◌∷◌, ◌++◌, length, All, Option, Some, None, IfSome, Result, Ok, Err}
use Rattle.edges.specs.Line.{HasNoLineEnd, line_end, unlines}
use Rattle.json_forms.specs.DefinitionViews.{DefinitionView}
use Rattle.survey_core.specs.Legal.{IsDesk}
use Rattle.survey_script.specs.declared.limits.TheConstants.{MAX_SCRIPT_LINES, MAX_SESSIONS}
use Rattle.survey_script.specs.declared.sessions_so_far.LineStop.{LineStop}
use Rattle.survey_script.specs.declared.sessions_so_far.LineStop.TheVariants.{Wrong, NoMemory}
use Rattle.survey_script.specs.declared.stops.ScriptPart.{ScriptPart}
use Rattle.survey_script.specs.declared.stops.ScriptStop.{ScriptStop}
use Rattle.survey_script.specs.declared.stops.ScriptStop.TheVariants.{Script}
use Rattle.survey_script.specs.ScriptViews.{IsBetween, IsWholeSession, ScriptSessionView, line_count}
use Rattle.survey_script.specs.Scripts.{IsStopOf, SessionsView, after_line, first_definition, go_on, lines_in, no_sessions, sessions_after}

-- a stop at a line that isn't for want of memory is its wrong part
abbrev pub IsLineStop : Result SessionsView ScriptPart → LineStop → Type 0
IsLineStop read (Wrong part) = read ≡ Err part
IsLineStop read NoMemory = Unit {0}

-- the same, at the line of this number
abbrev pub IsStopAt : ℕ → Result SessionsView ScriptPart → ScriptStop → Type 0
IsStopAt number read stop = IsStopOf (go_on number read (λ sessions. Ok sessions)) stop

-- a session of one of so many respondents, which has begun and not ended
pub record IsBegunSession (respondents : ℕ) (session : ScriptSessionView) : Type 0 where
  pub respondent : (1 ≤ session.respondent) × (session.respondent ≤ respondents)
  pub desk : IsDesk session.desk
  pub messages : All IsBetween session.messages

-- the session that is running, if one is
abbrev pub running_list : Option ScriptSessionView → List ScriptSessionView
running_list None = []
running_list (Some session) = session ∷ []

-- all sessions, also the one that is running
abbrev pub all_sessions : SessionsView → List ScriptSessionView
all_sessions sessions = sessions.ended ++ running_list sessions.running

-- sessions within the limits, before the line of this number
pub record AreWithin (respondents number : ℕ) (sessions : SessionsView) : Type 0 where
  pub ended : All (IsWholeSession respondents) sessions.ended
  pub running : All (IsBegunSession respondents) (running_list sessions.running)
  pub few : length (all_sessions sessions) ≤ MAX_SESSIONS
  pub lines : line_count (all_sessions sessions) + 2 ≡ number
  pub short : number ≤ MAX_SCRIPT_LINES + 2

-- a text, where it is known, has a rest of which P holds
abbrev pub LeavesRest : Option (List ℕ) → Option (List ℕ) → (List ℕ → List ℕ → Type 0) → Type 0
LeavesRest before now P = IfSome before (λ text. (rest : List ℕ) × (now ≡ Some rest) × P text rest)

-- a text is a line of which P holds, and then the rest
pub record HasLine (P : List ℕ → Type 0) (text rest : List ℕ) : Type 0 where
  pub line : List ℕ
  pub unbroken : HasNoLineEnd line
  pub whole : text ≡ line ++ line_end ∷ rest
  pub holds : P line

-- a text is a piece without a line end, and then the rest
pub record HasPiece (text rest : List ℕ) : Type 0 where
  pub piece : List ℕ
  pub unbroken : HasNoLineEnd piece
  pub whole : text ≡ piece ++ rest

-- the sessions before and after the line at the front of the text
abbrev pub GoesOnBy : DefinitionView → ℕ → SessionsView → SessionsView → Option (List ℕ) → Option (List ℕ) → Type 0
GoesOnBy definition number old new before now = LeavesRest before now (HasLine (λ line. after_line definition number old line ≡ Ok new))

-- a text is the lines that these sessions come from, and then the rest, whose first line has this number
pub record AreOfLines (definition : DefinitionView) (number : ℕ) (sessions : SessionsView) (text rest : List ℕ) : Type 0 where
  pub lines : List (List ℕ)
  pub each : All HasNoLineEnd lines
  pub whole : text ≡ unlines lines ++ rest
  pub count : number ≡ length lines + 2
  pub same : (more : List (List ℕ)) → sessions_after definition 2 no_sessions (lines ++ more) ≡ sessions_after definition number sessions more

-- the sessions of the lines that were taken from the text after the definition's line
abbrev pub GoesTo : DefinitionView → ℕ → SessionsView → Option (List ℕ) → Option (List ℕ) → Type 0
GoesTo definition number sessions before now = LeavesRest before now (AreOfLines definition number sessions)

-- the text ends, and no session is running
abbrev pub EndsWith : DefinitionView → ℕ → SessionsView → SessionsView → Option (List ℕ) → Type 0
EndsWith definition number old new before = IfSome before (λ text. sessions_after definition number old (lines_in text) ≡ Ok new.ended)

-- of these lines after the definition's none fails, whatever follows them
abbrev pub NoneFailsUnder : DefinitionView → List (List ℕ) → Type 0
NoneFailsUnder definition lines =
    (more : List (List ℕ)) (number : ℕ) (part : ScriptPart) → sessions_after definition 2 no_sessions (lines ++ more) ≡ Err (Script number part) → length lines + 2 ≤ number

-- a text is the line of this definition and then the rest, or ends with it
abbrev pub IsDefinedBy : DefinitionView → List ℕ → List ℕ → Type 0
IsDefinedBy definition text rest = HasLine (λ line. first_definition line ≡ Ok definition) text rest ⊎ (HasNoLineEnd text × (rest ≡ []))
