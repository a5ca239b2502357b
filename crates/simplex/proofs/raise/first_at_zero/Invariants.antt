-- The row's variable comes to 0 no later than those of the rows so far, and of the last row.
use Rattle.std.proofs.Common.{ℕ, ◌≡◌, ◌⊎◌, ◌-◌, ◌<◌, ◌≤◌, length}
use Rattle.simplex.specs.Raise.{ComesToZero, IsNoLater}
use Rattle.simplex.proofs.raise.first_at_zero.Given as goal

abbrev pub invariant-loop-at : goal.invariant-loop-at
invariant-loop-at l = record {
  low : 1 ≤ l.first;
  high : l.first ≤ length l.work.loaded;
  comes : ComesToZero l.work (l.last - 1) (l.col - 1) (l.first - 1);
  first : (other : ℕ) → (other < l.at) ⊎ (other ≡ l.last - 1) → ComesToZero l.work (l.last - 1) (l.col - 1) other → IsNoLater l.work (l.col - 1) (l.first - 1) other;
}
