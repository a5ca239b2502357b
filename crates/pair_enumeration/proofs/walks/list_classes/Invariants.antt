use Rattle.pair_enumeration.proofs.WalkLemmas.{ListsDegrees}
use Rattle.pair_enumeration.proofs.walks.list_classes.Given as goal

abbrev pub invariant-loop-degree : goal.invariant-loop-degree
invariant-loop-degree l = ListsDegrees l.counts l.degree l.classes.items
