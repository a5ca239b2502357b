use Rattle.eliminators.proofs.StateLemmas.{rest_met, opens_all}
use Rattle.eliminators.proofs.state_turns.still_opens.Goals as goal

pub returns-then-meets_from : goal.returns-then-meets_from
returns-then-meets_from c = (
  λ met.
      opens_all c.args.model.now.levels c.args.answers.now.answers c.args.known c.args.pair.now c.args.plus.now c.args.minus.now c.requires.opens
      (c.meets_from.ensures.0 c.if-meets_from.true) (c.meets_from-then-meets_from.ensures.0 met),
  λ opens.
      c.meets_from-then-meets_from.ensures.1
      (rest_met c.args.model.now.levels c.args.answers.now.answers c.args.known c.args.minus.now opens.minus_meets),
)
