use Rattle.fraction_free.proofs.LineSteps.{IsLeftTo}
use Rattle.fraction_free.proofs.lines.Line.leave.Given as goal

abbrev pub invariant-loop-place : goal.invariant-loop-place
invariant-loop-place l = IsLeftTo l.column l.initial.self l.self l.place
