use Rattle.pair_enumeration.proofs.SearchLemmas.{SameSoFar}
use Rattle.pair_enumeration.proofs.search.levels_before.Given as goal

abbrev pub invariant-loop-place : goal.invariant-loop-place
invariant-loop-place l = SameSoFar l.left l.right l.other_left l.other_right l.place
