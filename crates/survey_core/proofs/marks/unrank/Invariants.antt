use Rattle.std.proofs.Common.{◌≡◌, ◌++◌, take, drop, map}
use Rattle.survey_core.specs.Marked.{left_mark}
use Rattle.survey_core.proofs.marks.unrank.Given as goal

abbrev pub invariant-loop-mark : goal.invariant-loop-mark
invariant-loop-mark l = l.classes ≡ map (left_mark l.answer) (take l.mark-index l.initial.classes) ++ drop l.mark-index l.initial.classes
