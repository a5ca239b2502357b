use Rattle.survey_core.specs.Marked.{AreSettled}
use Rattle.survey_core.proofs.marks.settled_from.Given as goal

abbrev pub invariant-loop-place : goal.invariant-loop-place
invariant-loop-place l = AreSettled l.classes l.place
