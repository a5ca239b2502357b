use Rattle.std.proofs.Common.{ℤ, ◌+ℤ◌, subst, sym}
use Rattle.wide_step.specs.Divided.{IsDivided}
use Rattle.wide_step.proofs.Product.{odd_total, even_total, end_total}
use Rattle.wide_step.proofs.divided.Divided.product.Goals as goal
use Rattle.wide_step.proofs.divided.Divided.product.Goals.{then-rest-eq1, else-rest-eq1}

pub loop-rest-preserved : goal.loop-rest-preserved
loop-rest-preserved c =
    let before = c.loop-rest.invariant in
    let twice = c.plus-unit.ensures before.unit_number before.unit_number before.unit_is before.unit_is in
    elim c.if-rest-eq1.branch [
      | then-rest-eq1 w ↦ record {
        sum_number = before.sum_number +ℤ before.unit_number;
        unit_number = before.unit_number +ℤ before.unit_number;
        sum_is = subst (IsDivided (before.sum_number +ℤ before.unit_number) c.args.divisor) (sym w.sum-is) (w.plus-sum.ensures before.sum_number before.unit_number before.sum_is before.unit_is);
        unit_is = twice;
        total = odd_total before.sum_number before.unit_number _ c.loop-rest.rest w.if-rest-eq1.true before.total;
      }
      | else-rest-eq1 w ↦ record {
        sum_number = before.sum_number;
        unit_number = before.unit_number +ℤ before.unit_number;
        sum_is = subst (IsDivided before.sum_number c.args.divisor) (sym w.sum-is) before.sum_is;
        unit_is = twice;
        total = even_total before.sum_number before.unit_number _ c.loop-rest.rest w.if-rest-eq1.false before.total;
      }
    ]

pub returns : goal.returns
returns c =
    let last = c.loop-rest.invariant in
    subst (λ (n : ℤ). IsDivided n c.args.divisor c.loop-rest.sum) (end_total last.sum_number last.unit_number _ c.loop-rest.rest c.loop-rest-test.false last.total) last.sum_is
