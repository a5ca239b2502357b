use Rattle.std.proofs.Common.{◌≡◌, ◌<◌, ◌≤◌, ℕ, ◌+ℤ◌, ◌*ℤ◌, length}
use Rattle.row_laws.specs.Rows.{entry}
use Rattle.fraction_free.proofs.lines.Line.add.Given as goal

abbrev pub invariant-loop-place : goal.invariant-loop-place
invariant-loop-place l = record {
  len : length l.self ≡ length l.initial.self;
  sums : (other : ℕ) → other < l.place → entry l.self other ≡ entry l.initial.self other +ℤ l.times *ℤ entry l.other other;
  rest : (other : ℕ) → l.place ≤ other → entry l.self other ≡ entry l.initial.self other;
}
