use Rattle.std.proofs.Common.{ℕ, ◌<◌, slice_index}
use Rattle.criteria_model.specs.Pairs.{FitsAt}
use Rattle.criteria_model.proofs.levels.all_fit.Given as goal

abbrev pub invariant-loop-place : goal.invariant-loop-place
invariant-loop-place l = (k : ℕ) → k < l.place → FitsAt (slice_index l.counts k) (slice_index l.left k) (slice_index l.right k)
