use Rattle.std.proofs.Common.{ap, ◌∙◌}
use Rattle.pair_enumeration.specs.Listed.{Listed}
use Rattle.turn_lock.specs.Seats.{opening}
use Rattle.shared_survey.specs.LockSeats.{LockSeat}
use Rattle.shared_survey.proofs.SeatLemmas.{keeps_along}
use Rattle.shared_survey.proofs.seat.SurveySeat.split.Goals as goal

pub invariant_of-result : goal.invariant_of-result
invariant_of-result c =
    let listed : Listed = (opening c.args.turn.now).state.listed in
    keeps_along c.self.inside.length c.self.inside.seat.token.me.0 c.split-seat.result.token.me.0 listed c.self.invariant
    (ap (λ (s : LockSeat). s.knows.kind) c.self.view_is ∙ c.requires.at.0.kind) c.split-seat.ensures.seats.1.0.1 c.split-seat.ensures.new.1
    c.split-seat.ensures.seats.1.1

pub invariant_of-self : goal.invariant_of-self
invariant_of-self c =
    let listed : Listed = (opening c.args.turn.now).state.listed in
    keeps_along c.self.inside.length c.self.inside.seat.token.me.0 c.split-seat.new.seat.token.me.0 listed c.self.invariant
    (ap (λ (s : LockSeat). s.knows.kind) c.self.view_is ∙ c.requires.at.0.kind) c.split-seat.ensures.seats.0.0.1 c.split-seat.ensures.lent.1
    c.split-seat.ensures.seats.0.1
