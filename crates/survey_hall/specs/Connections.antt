-- How a connection is served.
use Rattle.std.specs.Prelude.{◌≡◌, ◌⊎◌, ℕ, List, [], ◌∷◌, ◌++◌, All, Option, Some, None, Ok, Err}
use Rattle.std.specs.Io.KnownBytes.{prepend_known}
use Rattle.edges.specs.Faults.{CountsFaults}
use Rattle.edges.specs.Line.{unlines}
use Rattle.edges.specs.Told.{Appends, AppendsPrefix, IsAtEnd}
use Rattle.json_forms.specs.declared.replies.Word.{Word}
use Rattle.json_forms.specs.declared.replies.Word.TheVariants.{Line}
use Rattle.json_forms.specs.DefinitionViews.{DefinitionView, model_of}
use Rattle.json_forms.specs.Replies.{json_line, refused_json}
use Rattle.session_protocol.specs.declared.sessions.SessionEnd.{SessionEnd}
use Rattle.session_protocol.specs.declared.sessions.SessionEnd.TheVariants.{Bye, EndOfInput, LineTooLong, ReadFault, WriteFault, NoMemory}
use Rattle.session_protocol.specs.declared.sessions.TheConstants.{MAX_MESSAGES}
use Rattle.session_protocol.specs.Sessions.{EndsAfter, IsLine, IsOverlong}
use Rattle.shared_survey.specs.declared.pass.Front.{Front}
use Rattle.survey_script.specs.declared.hellos.Admitted.{Admitted}
use Rattle.survey_hall.specs.declared.served.Served.{Served}
use Rattle.survey_hall.specs.declared.served.Served.TheVariants.{Refused, Early, Ran}
use Rattle.survey_hall.specs.Admissions.{admission_by_line}
use Rattle.survey_hall.specs.ConnectionViews.{ConnectionView, connection_view}
use Rattle.survey_hall.specs.Visits.{IsVisit}
use Rattle.survey_hall.specs.Greetings.{EndsGreeting, GreetsWith}

-- the line by which a first line is refused with this word
abbrev pub refusal_text : Word → List ℕ
refusal_text word = json_line (refused_json word)

-- the first line fails a test, and the word of the first one was written
pub record IsTurnedAway (definition : DefinitionView) (before after : ConnectionView) (word : Word) : Type 0 where
  pub greets : GreetsWith definition before.ahead after.ahead (Err word)
  pub put : Appends before.written after.written (refusal_text word)

-- the first line is refused with this word: it fails a test, or is too long
abbrev pub MustRefuse : DefinitionView → List ℕ → Option (List ℕ) → Option (List ℕ) → Word → Type 0
MustRefuse definition kept before after word =
    GreetsWith definition before after (Err word) ⊎ ((word ≡ Line) × EndsGreeting LineTooLong kept before after)

-- the sink failed at the line of a refusal
pub record IsCutRefusal (definition : DefinitionView) (kept : List ℕ) (before after : ConnectionView) : Type 0 where
  pub word : Word
  pub refused : MustRefuse definition kept before.ahead after.ahead word
  pub put : AppendsPrefix before.written after.written (refusal_text word)

-- a connection that ends before it is at a desk. Only the line of a refusal is written. There was no memory to begin, and nothing was
-- taken from the source, or none to read a whole first line
abbrev pub EndsEarly : DefinitionView → List ℕ → ConnectionView → ConnectionView → SessionEnd → Type 0
EndsEarly definition kept before after LineTooLong =
    EndsGreeting LineTooLong kept before.ahead after.ahead × Appends before.written after.written (refusal_text Line)
EndsEarly definition kept before after WriteFault = IsCutRefusal definition kept before after
EndsEarly definition kept before after NoMemory =
    (((kept ≡ []) × (after.ahead ≡ before.ahead)) ⊎ EndsGreeting NoMemory kept before.ahead after.ahead) × (after.written ≡ before.written)
EndsEarly definition kept before after end = EndsGreeting end kept before.ahead after.ahead × (after.written ≡ before.written)

-- the first line passes its tests, and the rest of the connection is at that desk of a survey of the definition's model
pub record IsVisited (definition : DefinitionView) (before after : ConnectionView) (began : ℕ) (front : Front) (replies : ℕ) (end : SessionEnd) : Type 0 where
  pub admitted : Admitted
  pub ahead : Option (List ℕ)
  pub greets : GreetsWith definition before.ahead ahead (Ok admitted)
  pub run : IsVisit (model_of definition) admitted.desk (connection_view ahead before.written) after began front (record { end = end; replies = replies })

-- what was read and written, by what it was served
abbrev pub ServedBy : DefinitionView → List ℕ → ConnectionView → ConnectionView → Served → Type 0
ServedBy definition kept before after (Refused word) = IsTurnedAway definition before after word
ServedBy definition kept before after (Early end) = EndsEarly definition kept before after end
ServedBy definition kept before after (Ran began front replies end) = IsVisited definition before after began front replies end

-- the end, where the first line wasn't refused
abbrev pub end_of_connection : Served → Option SessionEnd
end_of_connection (Refused word) = None
end_of_connection (Early end) = Some end
end_of_connection (Ran began front replies end) = Some end

-- a connection was served. Some bytes may have been taken ahead of what was read, and are dropped
pub record IsServed (definition : DefinitionView) (before after : ConnectionView) (served : Served) : Type 0 where
  pub kept : List ℕ
  pub by : ServedBy definition kept before (connection_view (prepend_known kept after.ahead) after.written) served
  pub at_end : end_of_connection served ≡ Some EndOfInput → IsAtEnd (prepend_known kept after.ahead)
  pub too_long : end_of_connection served ≡ Some LineTooLong → IsOverlong kept

-- the text of a connection without fault: a hello that passes its tests, and then lines up to the first bye, within the limits
pub record IsWholeConnection (definition : DefinitionView) (text : Option (List ℕ)) : Type 0 where
  pub hello : List ℕ
  pub is_line : IsLine hello
  pub admitted : Admitted
  pub passes : admission_by_line definition hello ≡ Ok admitted
  pub lines : List (List ℕ)
  pub each : All IsLine lines
  pub ends : EndsAfter MAX_MESSAGES Bye lines
  pub rest : List ℕ
  pub told : text ≡ Some (unlines (hello ∷ lines) ++ rest)

-- it was served up to its bye, or as far as there was memory
abbrev pub IsServedToBye : Served → Type 0
IsServedToBye (Ran began front replies Bye) = Unit {0}
IsServedToBye (Ran began front replies NoMemory) = Unit {0}
IsServedToBye (Early NoMemory) = Unit {0}
IsServedToBye _ = ⊥

-- a type of sources and one of sinks, with what they show: the text to come, what was written, and their faults
module _ {I O : Type 0} (left : I → Option (List ℕ)) (read_faults : I → ℕ) (written : O → Option (List ℕ)) (write_faults : O → ℕ) where
  -- a connection over these ends was served, and left the ends as they were then
  pub record WasServed (definition : DefinitionView) (source : I) (sink : O) (served : Served) : Type 0 where
    pub source_then : I
    pub sink_then : O
    pub by : IsServed definition (connection_view (left source) (written sink)) (connection_view (left source_then) (written sink_then)) served
    pub read : CountsFaults (end_of_connection served ≡ Some ReadFault) (read_faults source) (read_faults source_then)
    pub write : CountsFaults (end_of_connection served ≡ Some WriteFault) (write_faults sink) (write_faults sink_then)
