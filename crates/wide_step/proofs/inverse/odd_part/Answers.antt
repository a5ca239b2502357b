use Rattle.std.proofs.Common.{arith}
use Rattle.wide_step.proofs.Inverses.{halved_often, halved_once}
use Rattle.wide_step.proofs.inverse.odd_part.Goals as goal

pub overflow_add-twos : goal.overflow_add-twos
overflow_add-twos c = omega (arith, halved_often c.loop-odd.odd c.loop-odd.twos c.loop-odd.invariant.some (omega arith))

pub loop-odd-preserved : goal.loop-odd-preserved
loop-odd-preserved c = record {
  some = omega arith;
  product = halved_once c.loop-odd.odd c.loop-odd.twos c.args.number c.loop-odd-test.true c.loop-odd.invariant.product;
}

pub returns-clause-twos : goal.returns-clause-twos
returns-clause-twos c = omega (arith, halved_often c.loop-odd.odd c.loop-odd.twos c.loop-odd.invariant.some (omega arith))
