use Rattle.std.proofs.Common.{arith}
use Rattle.part_worths.proofs.ValueLaws.{increments_more}
use Rattle.part_worths.proofs.values.increments_before.Goals as goal

pub loop-earlier-preserved : goal.loop-earlier-preserved
loop-earlier-preserved c = (
  (increments_more c.args.model.now.levels c.loop-earlier.earlier c.loop-earlier.before c.levels.result c.from.result
      c.loop-earlier.auto.earlier c.loop-earlier.invariant.0 c.from.ensures c.levels.ensures.value).1,
  omega (arith, c.from.ensures, c.levels.ensures.range, c.loop-earlier.invariant.1),
)
