use Rattle.std.proofs.Common.{◌≡◌, length, map, take}
use Rattle.std.specs.List.{range_with_len}
use Rattle.part_worths.specs.Apportionment.{share_at}
use Rattle.part_worths.proofs.apportionment.Shares.of.Given as goal

abbrev pub invariant-loop-place : goal.invariant-loop-place
invariant-loop-place l = record {
  len : length l.items ≡ 24;
  written : take l.place l.items ≡ map (share_at l.values) (range_with_len 0 l.place);
}
