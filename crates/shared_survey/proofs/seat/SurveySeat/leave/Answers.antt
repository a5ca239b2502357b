use Rattle.std.proofs.Common.{List, length, sym, ap, ◌∙◌}
use Rattle.pair_enumeration.specs.Listed.{Listed, IsListed}
use Rattle.survey_core.specs.declared.events.Event.{Event}
use Rattle.survey_core.specs.Legal.{IsLegal}
use Rattle.turn_lock.specs.declared.rule.View.{View}
use Rattle.turn_lock.specs.Seats.{opening}
use Rattle.shared_survey.proofs.SeatLemmas.{keeps_outside, legal_moved}
use Rattle.shared_survey.proofs.seat.SurveySeat.leave.Goals as goal

pub invariant_of-self : goal.invariant_of-self
invariant_of-self c =
    let listed : Listed = (opening c.args.turn.now).state.listed in
    let new : View Event Listed = c.leave.new.seat.token.me.0 in
    let legal : IsListed listed × IsLegal listed new.front =
    legal_moved c.args.state.listed listed c.args.state.journal new.front c.requires.listed c.leave.ensures.front c.length-length.ensures.listed c.length-length.ensures.legal in
    keeps_outside c.length-length.result new listed (c.length-length.ensures.value ∙ ap (λ (l : List Event). length l) (sym c.leave.ensures.front))
    c.leave.ensures.seat.0.1 legal.0 legal.1 c.leave.ensures.seat.1

pub returns-clause-legal : goal.returns-clause-legal
returns-clause-legal c =
    legal_moved c.args.state.listed (opening c.args.turn.now).state.listed c.args.state.journal c.leave.new.seat.token.me.0.front c.requires.listed
    c.leave.ensures.front c.length-length.ensures.listed c.length-length.ensures.legal
