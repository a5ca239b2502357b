use Rattle.std.proofs.Common.{◌≡◌, ℕ, ◌≤◌, ◌<◌, length, drop, slice_index}
use Rattle.criteria_model.specs.Counts.{level_pairs}
use Rattle.criteria_model.proofs.counting.level_pairs.Given as goal

abbrev pub invariant-loop-left : goal.invariant-loop-left
invariant-loop-left l = record {
  within : l.left ≤ length l.counts;
  len : length l.table ≡ 25;
  counted : (d : ℕ) → d < 25 → slice_index l.table d ≡ level_pairs d (drop l.left l.counts);
}

abbrev pub decreases-loop-left : goal.decreases-loop-left
decreases-loop-left l = l.left
