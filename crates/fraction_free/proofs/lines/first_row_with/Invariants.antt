use Rattle.std.proofs.Common.{◌≡◌, ◌<◌, ℕ, pos, [], get_or}
use Rattle.row_laws.specs.Rows.{entry}
use Rattle.fraction_free.proofs.lines.first_row_with.Given as goal

abbrev pub invariant-loop-row : goal.invariant-loop-row
invariant-loop-row l = (k : ℕ) → k < l.row → entry (get_or l.lines k []) l.column ≡ pos 0
