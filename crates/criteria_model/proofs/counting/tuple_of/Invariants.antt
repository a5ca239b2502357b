use Rattle.std.proofs.Common.{◌≡◌, length, take}
use Rattle.criteria_model.proofs.counting.tuple_of.Given as goal

abbrev pub invariant-loop-place : goal.invariant-loop-place
invariant-loop-place l = record {
  len : length l.cells ≡ 24;
  same : take l.place l.cells ≡ take l.place l.levels;
}
