use Rattle.std.proofs.Common.{◌-◌, ◌*◌, length}
use Rattle.pair_enumeration.proofs.WalkLemmas.{ListsLevels, ListsRow}
use Rattle.pair_enumeration.proofs.walks.+walk.Given as goal

abbrev pub decreases-extend : goal.decreases-extend
decreases-extend l = 2 * (length l.counts.now - l.walk.place)

abbrev pub decreases-extend_with : goal.decreases-extend_with
decreases-extend_with l = 2 * (length l.counts.now - l.walk.place) - 1

abbrev pub invariant-extend-loop-level : goal.invariant-extend-loop-level
invariant-extend-loop-level l = ListsLevels l.counts l.walk l.level l.initial.classes.items l.classes.items

abbrev pub invariant-extend_with-loop-right : goal.invariant-extend_with-loop-right
invariant-extend_with-loop-right l = ListsRow l.counts l.walk l.left l.right l.initial.classes.items l.classes.items
