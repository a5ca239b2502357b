use Rattle.std.proofs.Common.{arith}
use Rattle.criteria_model.proofs.LevelLemmas.{length-le-increments}
use Rattle.decision_bench.proofs.run.decide_all.Goals as goal

pub ones-tools-requires-clause-some : goal.ones-tools-requires-clause-some
ones-tools-requires-clause-some c =
    let some = length-le-increments c.model.result.levels c.increments.ensures.model.two_levels in
    omega (arith, c.increments.ensures.value, c.increments.ensures.model.some, some)
