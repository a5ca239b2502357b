-- What the first line of a connection comes to.
use Rattle.std.specs.Prelude.{◌≡◌, ℕ, List, [], ◌∷◌, ◌++◌, Option, Result, Ok, Err}
use Rattle.edges.specs.Line.{HasNoLineEnd, line_end}
use Rattle.edges.specs.Told.{IsAtEnd, Takes}
use Rattle.json_forms.specs.declared.replies.Word.{Word}
use Rattle.json_forms.specs.DefinitionViews.{DefinitionView}
use Rattle.session_protocol.specs.declared.sessions.SessionEnd.{SessionEnd}
use Rattle.session_protocol.specs.declared.sessions.SessionEnd.TheVariants.{EndOfInput, LineTooLong, ReadFault, NoMemory}
use Rattle.session_protocol.specs.Sessions.{IsLine, IsOverlong}
use Rattle.survey_script.specs.declared.hellos.Admitted.{Admitted}
use Rattle.survey_hall.specs.declared.greetings.Greeting.{Greeting}
use Rattle.survey_hall.specs.declared.greetings.Greeting.TheVariants.{Admits, Refuses, Ends}
use Rattle.survey_hall.specs.Admissions.{admission_by_line}

-- a whole line came, and the tests on it come to this
pub record GreetsWith (definition : DefinitionView) (before after : Option (List ℕ)) (outcome : Result Admitted Word) : Type 0 where
  pub line : List ℕ
  pub is_line : IsLine line
  pub read : Takes before after (line ++ line_end ∷ [])
  pub tested : admission_by_line definition line ≡ outcome

-- no whole line came: input ended within it, or it is too long, or the source failed before its end; or there was no memory for it.
-- `kept` are the bytes that were taken from the source and not read, `before` and `after` the text that lay ahead and lies ahead
abbrev pub EndsGreeting : SessionEnd → List ℕ → Option (List ℕ) → Option (List ℕ) → Type 0
EndsGreeting EndOfInput kept before after = IsAtEnd after × ((piece : List ℕ) × IsLine piece × Takes before after piece)
EndsGreeting LineTooLong kept before after = IsOverlong kept × (after ≡ before)
EndsGreeting ReadFault kept before after = HasNoLineEnd kept × (after ≡ before)
EndsGreeting NoMemory kept before after = (line : List ℕ) × IsLine line × Takes before after (line ++ line_end ∷ [])
EndsGreeting _ kept before after = ⊥

-- what the greeting says of these
abbrev pub Greets : DefinitionView → List ℕ → Option (List ℕ) → Option (List ℕ) → Greeting → Type 0
Greets definition kept before after (Admits admitted) = GreetsWith definition before after (Ok admitted)
Greets definition kept before after (Refuses word) = GreetsWith definition before after (Err word)
Greets definition kept before after (Ends end) = EndsGreeting end kept before after
