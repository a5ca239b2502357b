-- Whom a first line admits, by the tests in their order: it is a hello, and then those on the name, the code and the desk.
use Rattle.std.specs.Prelude.{List, ℕ, Option, Some, Result, Ok, Err}
use Rattle.json_forms.specs.declared.messages.Message.{Message}
use Rattle.json_forms.specs.declared.messages.Message.TheVariants.{Hello}
use Rattle.json_forms.specs.declared.replies.Word.{Word}
use Rattle.json_forms.specs.declared.replies.Word.TheVariants as word
use Rattle.json_forms.specs.DefinitionViews.{DefinitionView}
use Rattle.json_forms.specs.Messages.{message_of}
use Rattle.survey_script.specs.declared.hellos.Admitted.{Admitted}
use Rattle.survey_script.specs.declared.hellos.HelloFault.{HelloFault}
use Rattle.survey_script.specs.declared.hellos.HelloFault.TheVariants.{Name, Code, Desk}
use Rattle.survey_script.specs.Hellos.{admission_of}

-- the word by which a hello that fails this test is refused
abbrev pub word_of : HelloFault → Word
word_of Name = word.Name
word_of Code = word.Code
word_of Desk = word.Desk

-- who is admitted, or the word of the first test that is failed
abbrev pub in_words : Result Admitted HelloFault → Result Admitted Word
in_words (Ok admitted) = Ok admitted
in_words (Err fault) = Err (word_of fault)

-- the same by the message that a line is, if it is one
abbrev pub admission_by_message : DefinitionView → Option Message → Result Admitted Word
admission_by_message definition (Some (Hello hello)) = in_words (admission_of definition hello)
admission_by_message definition _ = Err word.Hello

-- whom the line admits to which desk, or the word by which it is refused
abbrev pub admission_by_line : DefinitionView → List ℕ → Result Admitted Word
admission_by_line definition line = admission_by_message definition (message_of line)
