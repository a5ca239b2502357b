use Rattle.std.proofs.Common.{◌≡◌, List, length, sym, subst, ap, ◌∙◌}
use Rattle.pair_enumeration.specs.Listed.{Listed, IsListed}
use Rattle.survey_core.specs.declared.events.Event.{Event}
use Rattle.survey_core.specs.Legal.{IsLegal}
use Rattle.turn_lock.specs.declared.rule.View.{View}
use Rattle.turn_lock.specs.Seats.{opening}
use Rattle.shared_survey.specs.declared.shared_state.SharedState.{SharedState}
use Rattle.shared_survey.proofs.SeatLemmas.{keeps_outside}
use Rattle.shared_survey.proofs.seat.SurveySeat.open.Goals as goal

pub invariant_of-result : goal.invariant_of-result
invariant_of-result c =
    let listed : Listed = (opening c.in_ok-turn.turn).state.listed in
    let new : View Event Listed = c.in_ok-turn.seat.token.me.0 in
    let same : new.front ≡ c.args.state.journal = c.in_ok-turn.ensures.knows.1 in
    let lists : c.args.state.listed ≡ listed = sym (ap (λ (s : SharedState). s.state.listed) c.in_ok-turn.ensures.turn.0) in
    keeps_outside c.length-length.result new listed (c.length-length.ensures.value ∙ ap (λ (l : List Event). length l) (sym same))
    c.in_ok-turn.ensures.seat.0.1 (subst (λ (l : Listed). IsListed l) lists c.length-length.ensures.listed)
    (subst (λ (l : Listed). IsLegal l new.front) lists
    (subst (λ (j : List Event). IsLegal c.args.state.listed j) (sym same) c.length-length.ensures.legal))
    c.in_ok-turn.ensures.seat.1
