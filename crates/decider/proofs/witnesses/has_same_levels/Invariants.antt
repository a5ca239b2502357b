-- The levels so far are the same.
use Rattle.std.proofs.Common.{◌≡◌, take}
use Rattle.decider.proofs.witnesses.has_same_levels.Given as goal

abbrev pub invariant-loop-at : goal.invariant-loop-at
invariant-loop-at l = take l.at l.one.levels ≡ take l.at l.other.levels
