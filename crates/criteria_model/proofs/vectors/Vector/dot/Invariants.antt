use Rattle.std.proofs.Common.{◌≡◌, ◌*◌, ◌^◌, ◌≤◌, take, unsigned_abs}
use Rattle.row_laws.specs.Rows.{dot}
use Rattle.criteria_model.proofs.vectors.Vector.dot.Given as goal

abbrev pub invariant-loop-place : goal.invariant-loop-place
invariant-loop-place l = record {
  sum : l.sum ≡ dot (take l.place l.values) (take l.place l.factors);
  size : unsigned_abs l.sum ≤ l.place * 2 ^ 96;
}
