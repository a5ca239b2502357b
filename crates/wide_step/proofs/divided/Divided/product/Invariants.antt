use Rattle.std.proofs.Common.{◌*◌, pos}
use Rattle.wide_step.proofs.Product.{IsPartial}
use Rattle.wide_step.proofs.divided.Divided.product.Given as goal

abbrev pub invariant-loop-rest : goal.invariant-loop-rest
invariant-loop-rest l = IsPartial (pos (l.factor * l.times)) l.divisor l.sum l.unit l.rest

abbrev pub decreases-loop-rest : goal.decreases-loop-rest
decreases-loop-rest l = l.rest
