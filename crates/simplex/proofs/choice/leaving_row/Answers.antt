use Rattle.std.proofs.Common.{arith}
use Rattle.simplex.proofs.Choosing.{leaving_done}
use Rattle.simplex.proofs.choice.leaving_row.Goals as goal

pub returns-clause-choice : goal.returns-clause-choice
returns-clause-choice c = leaving_done c.args.work.now c.loop-at.found c.loop-at.least c.loop-at.at c.rows-at-end.ensures.dictionary (omega (arith, c.rows-at-end.ensures.value)) c.loop-at.invariant.below c.loop-at.invariant.found_is
