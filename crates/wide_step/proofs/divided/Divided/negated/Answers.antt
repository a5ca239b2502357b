use Rattle.std.proofs.Common.{◌^◌, ◌+◌, ◌/◌, pos, neg_ℤ, ◌-ℤ◌, arith}
use Rattle.wide_step.proofs.DividedLemmas.{neg_exact, neg_kept, neg_over, neg_exact_rest, neg_kept_rest}
use Rattle.wide_step.proofs.divided.Divided.negated.Goals as goal

pub returns-then-self-eq0 : goal.returns-then-self-eq0
returns-then-self-eq0 c x h =
    let m = c.args.self.quotient in
    let n = c.wrapping_neg.result in
    let over = (n + m) / 2 ^ 128 in
    record {
      quotient = neg_ℤ h.quotient;
      wraps = pos over -ℤ h.wraps;
      kept = neg_kept h.quotient h.wraps m n over h.kept (neg_over m n c.wrapping_neg.ensures);
      exact = neg_exact h.quotient x c.args.divisor c.args.self.remainder h.exact c.if-self-eq0.true;
      below = omega arith;
    }

pub returns-else-self-eq0 : goal.returns-else-self-eq0
returns-else-self-eq0 c x h =
    let m = c.args.self.quotient in
    record {
      quotient = neg_ℤ h.quotient -ℤ pos 1;
      wraps = pos 1 -ℤ h.wraps;
      kept = neg_kept_rest h.quotient h.wraps m h.kept (omega arith);
      exact = neg_exact_rest h.quotient x c.args.divisor c.args.self.remainder h.exact (omega arith);
      below = omega arith;
    }
