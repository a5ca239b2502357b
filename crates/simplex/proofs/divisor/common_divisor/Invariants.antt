-- The greatest common divisor of the values so far.
use Rattle.std.proofs.Common.{ℕ, ◌<◌, ◌^◌, get_or, pos, ◌≤ℤ◌}
use Rattle.std.specs.Prelude.{unsigned_abs}
use Rattle.std.specs.Int.{◌∣◌}
use Rattle.simplex.proofs.divisor.common_divisor.Given as goal

abbrev pub invariant-loop-value : goal.invariant-loop-value
invariant-loop-value l = record {
  never_negative : pos 0 ≤ℤ l.divisor;
  size : unsigned_abs l.divisor < 2 ^ 126;
  divides : (k : ℕ) → k < l.value-index → unsigned_abs l.divisor ∣ unsigned_abs (get_or l.values k (pos 0));
  greatest : (d : ℕ) → ((k : ℕ) → k < l.value-index → d ∣ unsigned_abs (get_or l.values k (pos 0))) → d ∣ unsigned_abs l.divisor;
}
