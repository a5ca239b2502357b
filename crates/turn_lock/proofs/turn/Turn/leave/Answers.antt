use Rattle.std.proofs.Common.{rules}
use Rattle.turn_lock.proofs.WordSteps.{passes_back}
use Rattle.turn_lock.proofs.turn.Turn.leave.Goals as goal

pub fetch_add-served-requires : goal.fetch_add-served-requires
fetch_add-served-requires g c = (
  search rules,
  search rules,
  passes_back _ _ _ _ _ _ c.args.seat.now.token.me _ _ _ c.args.state c.args.seat.now.holds
      c.requires.seat.0.1 c.mark.ensures.marks c.exchange-nothing.ensures.3 c.requires.state.1,
)
