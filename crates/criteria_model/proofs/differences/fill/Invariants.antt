use Rattle.std.proofs.Common.{◌≡◌, ◌+◌, take}
use Rattle.row_laws.specs.Rows.{minus}
use Rattle.criteria_model.specs.Worth.{has_on}
use Rattle.criteria_model.proofs.differences.fill.Given as goal

abbrev pub invariant-loop-place : goal.invariant-loop-place
invariant-loop-place l = take l.place l.cells ≡ minus (has_on (l.place + 1) l.high) (has_on (l.place + 1) l.low)
