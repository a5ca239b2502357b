use Rattle.std.proofs.Common.{arith}
use Rattle.std.proofs.lemmas.Nat.Gcd.{IsGcd-from_zero, IsGcd-from_mod}
use Rattle.wide_step.proofs.gcd_of_sizes.Goals as goal

pub loop-y-init : goal.loop-y-init
loop-y-init c = record { divisors = λ g h. h; x_size = omega arith; y_size = omega arith }

pub loop-y-preserved : goal.loop-y-preserved
loop-y-preserved c = record {
  divisors = λ g h. c.loop-y.invariant.divisors g (IsGcd-from_mod _ _ g h);
  x_size = omega arith;
  y_size = omega arith;
}

pub returns-clause-greatest : goal.returns-clause-greatest
returns-clause-greatest c = c.loop-y.invariant.divisors _ (IsGcd-from_zero _ _ (omega arith))
