use Rattle.std.proofs.Common.{◌≡◌, length, take}
use Rattle.pair_enumeration.proofs.classes.level_counts.Given as goal

abbrev pub invariant-loop-place : goal.invariant-loop-place
invariant-loop-place l = record {
  len : length l.counts ≡ 24;
  same : take l.place l.counts ≡ take l.place l.model.levels;
}
