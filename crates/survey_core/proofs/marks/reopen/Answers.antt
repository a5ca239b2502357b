use Rattle.std.proofs.Common.{get_or, slice_set, ap, ◌∙◌, arith}
use Rattle.std.proofs.lemmas.List.{get_or_default}
use Rattle.std.proofs.lemmas.List.Edits.{map_over_more}
use Rattle.survey_core.specs.declared.marks.Question.{Question}
use Rattle.survey_core.specs.declared.marks.Ending.{Ending}
use Rattle.survey_core.specs.declared.marks.Ending.TheVariants.{Open}
use Rattle.survey_core.specs.Marked.{left_question}
use Rattle.survey_core.proofs.marks.reopen.Goals as goal

abbrev none : Question
none = record { place = 0; ending = Open }

pub loop-question-preserved : goal.loop-question-preserved
loop-question-preserved c =
    let old : Question = get_or c.loop-question.questions c.loop-question.question-index none in
    ap (λ (left : Ending). slice_set c.loop-question.questions c.loop-question.question-index (record { place = old.place; ending = left })) c.without-question.ensures
    ∙ map_over_more (left_question c.args.answer) c.args.questions.now c.loop-question.questions c.loop-question.question-index old c.loop-question-test.true c.loop-question.invariant
    (get_or_default c.loop-question.questions c.loop-question.question-index none old (omega arith))
