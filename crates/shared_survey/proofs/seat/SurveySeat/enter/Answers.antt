use Rattle.std.proofs.Common.{◌≡◌, List, length, Some, sym, subst, ap, ◌∙◌}
use mathlib.Core.List.{IsPrefix}
use Rattle.pair_enumeration.specs.Listed.{Listed, IsListed}
use Rattle.survey_core.specs.declared.events.Event.{Event}
use Rattle.survey_core.specs.Legal.{IsLegal}
use Rattle.turn_lock.specs.declared.rule.View.{View}
use Rattle.turn_lock.specs.Seats.{opening}
use Rattle.shared_survey.specs.LockSeats.{LockSeat}
use Rattle.shared_survey.proofs.SeatLemmas.{legal_along, keeps_inside}
use Rattle.shared_survey.proofs.StageLemmas.{inside_journal}
use Rattle.shared_survey.proofs.seat.SurveySeat.enter.Goals as goal

pub invariant_of-self : goal.invariant_of-self
invariant_of-self g c =
    let listed : Listed = (opening c.args.turn.now).state.listed in
    let old : View Event Listed = c.self.inside.seat.token.me.0 in
    let new : View Event Listed = c.enter-state.new.seat.token.me.0 in
    let journal : List Event = c.enter-state.result.state.journal in
    let kind : old.kind ≡ Some listed = ap (λ (s : LockSeat). s.knows.kind) c.self.view_is ∙ c.requires.0.kind in
    let same : new.front ≡ old.front = c.enter-state.ensures.same.1 in
    let legal : IsListed listed × IsLegal listed new.front = legal_along c.self.inside.length old listed new.front c.self.invariant kind same in
    keeps_inside c.self.inside.length new listed journal (c.self.invariant.counts ∙ ap (λ (l : List Event). length l) (sym same))
    c.enter-state.ensures.seat.0.1 legal.0 legal.1 (inside_journal new.stage journal c.enter-state.ensures.seat.1 c.enter-state.ensures.given)
    (subst (λ (l : List Event). IsPrefix l journal) (sym same) c.enter-state.ensures.state.0)
