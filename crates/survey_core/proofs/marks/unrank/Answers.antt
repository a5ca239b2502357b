use Rattle.std.proofs.Common.{get_or, slice_set, ap, ◌∙◌, arith}
use Rattle.std.proofs.lemmas.List.{get_or_default}
use Rattle.std.proofs.lemmas.List.Edits.{map_over_more}
use Rattle.survey_core.specs.declared.marks.Mark.{Mark}
use Rattle.survey_core.specs.declared.marks.Ranking.{Ranking}
use Rattle.survey_core.specs.Marked.{unmarked, left_mark}
use Rattle.survey_core.proofs.marks.unrank.Goals as goal

pub loop-mark-preserved : goal.loop-mark-preserved
loop-mark-preserved c =
    let old : Mark = get_or c.loop-mark.classes c.loop-mark.mark-index unmarked in
    ap (λ (left : Ranking). slice_set c.loop-mark.classes c.loop-mark.mark-index (record { ranking = left; issued = old.issued })) c.without-mark.ensures
    ∙ map_over_more (left_mark c.args.answer) c.args.classes.now c.loop-mark.classes c.loop-mark.mark-index old c.loop-mark-test.true c.loop-mark.invariant
    (get_or_default c.loop-mark.classes c.loop-mark.mark-index unmarked old (omega arith))
