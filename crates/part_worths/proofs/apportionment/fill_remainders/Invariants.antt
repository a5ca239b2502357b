use Rattle.std.proofs.Common.{◌≡◌, length, map, take}
use Rattle.part_worths.specs.Apportionment.{remainder}
use Rattle.part_worths.proofs.apportionment.fill_remainders.Given as goal

abbrev pub invariant-loop-place : goal.invariant-loop-place
invariant-loop-place l = record {
  len : length l.left_over ≡ length l.values;
  written : take l.place l.left_over ≡ map (remainder l.total) (take l.place l.values);
}
