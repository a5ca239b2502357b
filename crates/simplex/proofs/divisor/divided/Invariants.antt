-- The quotients so far.
use Rattle.std.proofs.Common.{ℕ, ◌≡◌, ◌<◌, length, get_or, pos, ◌*ℤ◌}
use Rattle.simplex.proofs.divisor.divided.Given as goal

abbrev pub invariant-loop-place : goal.invariant-loop-place
invariant-loop-place l = record {
  len : length l.cells ≡ 24;
  each : (k : ℕ) → k < l.place → l.divisor *ℤ get_or l.cells k (pos 0) ≡ get_or l.values k (pos 0);
}
