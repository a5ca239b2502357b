use Rattle.fraction_free.proofs.LineSteps.{AreExchangedTo}
use Rattle.fraction_free.proofs.lines.exchange_lines.Given as goal

abbrev pub invariant-loop-row : goal.invariant-loop-row
invariant-loop-row l = AreExchangedTo l.scale l.at l.column l.initial.lines l.lines l.row
