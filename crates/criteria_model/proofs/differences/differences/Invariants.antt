use Rattle.std.proofs.Common.{◌≡◌, take, length}
use Rattle.row_laws.specs.Rows.{minus}
use Rattle.criteria_model.specs.Worth.{increments, has}
use Rattle.criteria_model.proofs.differences.differences.Given as goal

abbrev pub invariant-loop-place : goal.invariant-loop-place
invariant-loop-place l = record {
  len : length l.cells ≡ 24;
  at : l.at ≡ increments (take l.place l.counts);
  written : take l.at l.cells ≡ minus (has (take l.place l.counts) (take l.place l.high)) (has (take l.place l.counts) (take l.place l.low));
}
