-- The differences so far.
use Rattle.std.proofs.Common.{ℕ, ◌≡◌, ◌<◌, length, get_or, pos, ◌-ℤ◌}
use Rattle.decider.proofs.one_answer.excess.Given as goal

abbrev pub invariant-loop-place : goal.invariant-loop-place
invariant-loop-place l = record {
  len : length l.cells ≡ 24;
  each : (k : ℕ) → k < l.place → get_or l.cells k (pos 0) ≡ get_or l.items k (pos 0) -ℤ get_or l.others k (pos 0);
}
