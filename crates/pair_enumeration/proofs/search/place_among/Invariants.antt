use Rattle.std.proofs.Common.{◌-◌}
use Rattle.pair_enumeration.proofs.SearchLemmas.{IsNotOutside}
use Rattle.pair_enumeration.proofs.search.place_among.Given as goal

abbrev pub invariant-loop-low : goal.invariant-loop-low
invariant-loop-low l = IsNotOutside l.pairs l.pair l.low l.high

abbrev pub decreases-loop-low : goal.decreases-loop-low
decreases-loop-low l = l.high - l.low
