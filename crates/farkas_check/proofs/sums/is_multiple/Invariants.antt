use Rattle.std.proofs.Common.{◌≡◌, ℕ, ◌<◌, ◌*ℤ◌}
use Rattle.row_laws.specs.Rows.{entry}
use Rattle.farkas_check.proofs.sums.is_multiple.Given as goal

abbrev pub invariant-loop-place : goal.invariant-loop-place
invariant-loop-place l = (k : ℕ) → k < l.place → l.scale *ℤ entry l.row k ≡ entry l.sums k
