use Rattle.std.proofs.Common.{rules, ap, ◌∙◌}
use Rattle.turn_lock.proofs.SeatSteps.{joins, meets}
use Rattle.turn_lock.proofs.turn.Turn.join.Goals as goal

pub join_seat-requires : goal.join_seat-requires
join_seat-requires g c = (search rules, search rules, search rules, search rules, joins _ _ _ _ _ _ _ _ _ _ c.requires.seat.0.1 c.requires.other.0.1 c.requires.other.1)

pub load-requires : goal.load-requires
load-requires g c = (search rules, search rules, meets _ _ _ _ _ _ _ _ (ap (λ m. m.0.kind) c.join_seat.ensures.2 ∙ c.requires.seat.0.1))
