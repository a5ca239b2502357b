-- The columns so far: the least helping variable, and its column.
use Rattle.std.proofs.Common.{ℕ, ◌≡◌, ◌-◌, ◌<◌, ◌≤◌, MatchOption, pos, ◌<ℤ◌}
use Rattle.std.specs.Prelude.{slice_index}
use Rattle.fraction_free.specs.Dictionary.{entry_in}
use Rattle.simplex.proofs.choice.entering_column.Given as goal

abbrev pub invariant-loop-at : goal.invariant-loop-at
invariant-loop-at l = record {
  below : (other : ℕ) → other < l.at → pos 0 <ℤ entry_in l.work (l.row - 1) other → l.least ≤ slice_index l.work.nonbasic other;
  found_is : MatchOption l.found (l.least ≡ 4294967295) (λ col. (1 ≤ col) × (col ≤ l.at) × (pos 0 <ℤ entry_in l.work (l.row - 1) (col - 1)) × (l.least ≡ slice_index l.work.nonbasic (col - 1)));
}
