use Rattle.std.proofs.Common.{◌≡◌, ◌++◌, take, drop, map}
use Rattle.survey_core.specs.Marked.{left_question}
use Rattle.survey_core.proofs.marks.reopen.Given as goal

abbrev pub invariant-loop-question : goal.invariant-loop-question
invariant-loop-question l = l.questions ≡ map (left_question l.answer) (take l.question-index l.initial.questions) ++ drop l.question-index l.initial.questions
