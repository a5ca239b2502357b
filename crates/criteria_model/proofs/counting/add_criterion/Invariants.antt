use Rattle.std.proofs.Common.{◌≡◌, ℕ, ◌+◌, ◌-◌, ◌*◌, ◌≤◌, ◌<◌, length, slice_index}
use Rattle.criteria_model.proofs.counting.add_criterion.Given as goal

abbrev pub invariant-loop-size : goal.invariant-loop-size
invariant-loop-size l = record {
  within : l.size ≤ 24;
  len : length l.table ≡ 25;
  kept : (d : ℕ) → d ≤ l.size → slice_index l.table d ≡ slice_index l.initial.table d;
  added : (d : ℕ) → l.size < d → d < 25 → slice_index l.table d ≡ slice_index l.initial.table d + l.pairs * slice_index l.initial.table (d - 1);
}

abbrev pub decreases-loop-size : goal.decreases-loop-size
decreases-loop-size l = l.size
