-- The divisor of the scale, of the increments' weights and of the cites so far.
use Rattle.decider.proofs.CommonDivisors.{DividesSoFar}
use Rattle.decider.proofs.combination.divisor_of.Given as goal

abbrev pub invariant-loop-cite : goal.invariant-loop-cite
invariant-loop-cite l = DividesSoFar l.scale l.increments l.weighted l.cite-index l.divisor
