-- The rows so far: the least infeasible variable, and its row.
use Rattle.std.proofs.Common.{ℕ, ◌≡◌, ◌-◌, ◌<◌, ◌≤◌, MatchOption, pos, ◌<ℤ◌}
use Rattle.std.specs.Prelude.{slice_index}
use Rattle.fraction_free.specs.Dictionary.{constant_in}
use Rattle.simplex.proofs.choice.leaving_row.Given as goal

abbrev pub invariant-loop-at : goal.invariant-loop-at
invariant-loop-at l = record {
  below : (other : ℕ) → other < l.at → constant_in l.work other <ℤ pos 0 → l.least ≤ slice_index l.work.basic other;
  found_is : MatchOption l.found (l.least ≡ 4294967295) (λ row. (1 ≤ row) × (row ≤ l.at) × (constant_in l.work (row - 1) <ℤ pos 0) × (l.least ≡ slice_index l.work.basic (row - 1)));
}
