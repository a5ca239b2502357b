use Rattle.std.proofs.Common.{arith}
use Rattle.survey_state.proofs.JournalLemmas.{keeps_with}
use Rattle.survey_state.proofs.state.State.make_room.Goals as goal

pub invariant_of-self : goal.invariant_of-self
invariant_of-self c =
    keeps_with _ _ _ c.self.invariant c.reserve.ensures.items c.self.invariant.pool_of (omega (arith, c.reserve.ensures.len, c.reserve.ensures.capacity))
