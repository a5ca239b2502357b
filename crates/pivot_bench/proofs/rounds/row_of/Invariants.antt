use Rattle.std.proofs.Common.{◌≡◌, ◌≤◌, ℕ, pos, get_or, length, unsigned_abs}
use Rattle.pivot_bench.proofs.rounds.row_of.Given as goal

abbrev pub invariant-loop-place : goal.invariant-loop-place
invariant-loop-place l = record {
  len : length l.cells ≡ 24;
  small : (k : ℕ) → unsigned_abs (get_or l.cells k (pos 0)) ≤ 1;
}
