use Rattle.std.proofs.Common.{◌≡◌, ℤ, pos, ◌≤ℤ◌, ◌<◌, ◌^◌, get_or, unsigned_abs, to_z, of_z, sym, subst, arith}
use mir.Syntax.{w128}
use Rattle.std.specs.Int.{◌∣◌}
use Rattle.std.proofs.lemmas.List.Elements.{All-from_get_or}
use Rattle.simplex.proofs.Sizes.{kept}
use Rattle.simplex.proofs.Divisors.{divides_more, greatest_more}
use Rattle.simplex.proofs.divisor.common_divisor.Goals as goal

pub loop-value-preserved : goal.loop-value-preserved
loop-value-preserved c =
    let e : to_z w128 (of_z w128 c.gcd-divisor.result) ≡ c.gcd-divisor.result = kept c.gcd-divisor.result c.gcd-divisor.ensures.size in
    let value : to_z w128 (of_z w128 (get_or c.args.values.now c.loop-value.value-index (pos 0))) ≡ get_or c.args.values.now c.loop-value.value-index (pos 0) =
    kept (get_or c.args.values.now c.loop-value.value-index (pos 0)) (c.requires c.loop-value.value-index (pos 0) c.loop-value-test.true) in
    record {
      never_negative = subst (λ (n : ℤ). pos 0 ≤ℤ n) (sym e) c.gcd-divisor.ensures.never_negative;
      size = subst (λ (n : ℤ). unsigned_abs n < 2 ^ 126) (sym e) c.gcd-divisor.ensures.size;
      divides = λ k lt. subst (λ (n : ℤ). unsigned_abs n ∣ unsigned_abs (get_or c.args.values.now k (pos 0))) (sym e)
          (divides_more c.args.values.now c.loop-value.value-index _ (unsigned_abs c.gcd-divisor.result) (to_z w128 (of_z w128 (get_or c.args.values.now c.loop-value.value-index (pos 0)))) value c.gcd-divisor.ensures.greatest c.loop-value.invariant.divides k lt);
      greatest = λ d each. subst (λ (n : ℤ). d ∣ unsigned_abs n) (sym e)
          (greatest_more c.args.values.now c.loop-value.value-index _ (unsigned_abs c.gcd-divisor.result) (to_z w128 (of_z w128 (get_or c.args.values.now c.loop-value.value-index (pos 0)))) value c.gcd-divisor.ensures.greatest c.loop-value.invariant.greatest d each);
    }

pub returns-clause-divides : goal.returns-clause-divides
returns-clause-divides c =
    All-from_get_or (λ x. unsigned_abs (to_z w128 c.loop-value.divisor-bits) ∣ unsigned_abs x) c.args.values.now (pos 0) (λ k lt. c.loop-value.invariant.divides k (omega arith))
