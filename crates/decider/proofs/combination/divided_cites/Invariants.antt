-- The cites so far, over the divisor.
use Rattle.decider.proofs.CommonDivisors.{DividedSoFar}
use Rattle.decider.proofs.combination.divided_cites.Given as goal

abbrev pub invariant-loop-cite : goal.invariant-loop-cite
invariant-loop-cite l = DividedSoFar l.divisor l.weighted l.cite-index l.list
