use Rattle.std.proofs.Common.{◌≡◌, length, take}
use Rattle.pair_enumeration.specs.Places.{cancelled}
use Rattle.pair_enumeration.proofs.search.cancel.Given as goal

abbrev pub invariant-loop-place : goal.invariant-loop-place
invariant-loop-place l = record {
  len : length l.cells ≡ 24;
  same : take l.place l.cells ≡ take l.place (cancelled l.levels l.others);
}
