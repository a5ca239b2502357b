use Rattle.std.proofs.Common.{◌≡◌, ◌≤◌, ◌+◌, neg_ℤ, ◌+ℤ◌, fold, take, unsigned_abs}
use Rattle.fraction_free.proofs.slack_line.constant_of.Given as goal

abbrev pub invariant-loop-coefficient : goal.invariant-loop-coefficient
invariant-loop-coefficient l = record {
  sum : l.sum ≡ fold ◌+ℤ◌ (neg_ℤ l.least) (take l.coefficient-index l.coefficient-items);
  size : unsigned_abs l.sum ≤ 1 + l.coefficient-index;
}
