use Rattle.std.proofs.Common.{◌≡◌, length, map, take}
use Rattle.std.specs.List.{range_with_len}
use Rattle.part_worths.specs.Values.{best_value}
use Rattle.part_worths.proofs.values.shares.Given as goal

abbrev pub invariant-loop-place : goal.invariant-loop-place
invariant-loop-place l = record {
  len : length l.values ≡ 24;
  written : take l.place l.values ≡ map (best_value l.model.levels l.vector) (range_with_len 1 l.place);
}
