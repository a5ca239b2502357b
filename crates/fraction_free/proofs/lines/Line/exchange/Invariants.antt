use Rattle.fraction_free.proofs.LineSteps.{IsExchangedTo}
use Rattle.fraction_free.proofs.lines.Line.exchange.Given as goal

abbrev pub invariant-loop-place : goal.invariant-loop-place
invariant-loop-place l = IsExchangedTo l.scale l.column l.pivot l.initial.self l.self l.place
