use Rattle.std.proofs.Common.{◌≡◌, ℕ, max, length, Some, inl, inr, sym, ap, ap₂, ◌∙◌}
use Rattle.pair_enumeration.specs.Listed.{Listed, IsListed}
use Rattle.survey_core.specs.declared.events.Event.{Event}
use Rattle.survey_core.specs.Legal.{IsLegal}
use Rattle.turn_lock.specs.declared.rule.View.{View}
use Rattle.turn_lock.specs.Seats.{opening}
use Rattle.shared_survey.specs.LockSeats.{LockSeat}
use Rattle.shared_survey.proofs.SeatLemmas.{legal_along, keeps_outside, longer_length}
use Rattle.shared_survey.proofs.seat.SurveySeat.join.Goals as goal

pub invariant_of-self : goal.invariant_of-self
invariant_of-self c =
    let listed : Listed = (opening c.args.turn.now).state.listed in
    let old : View Event Listed = c.self.inside.seat.token.me.0 in
    let other : View Event Listed = c.other.inside.seat.token.me.0 in
    let new : View Event Listed = c.join.new.seat.token.me.0 in
    let kind : old.kind ≡ Some listed = ap (λ (s : LockSeat). s.knows.kind) c.self.view_is ∙ c.requires.at.0.kind in
    let other_kind : other.kind ≡ Some listed = ap (λ (s : LockSeat). s.knows.kind) c.other.view_is ∙ c.requires.other.0.kind in
    let legal : IsListed listed × IsLegal listed new.front =
    elim c.join.ensures.front.2 [
      | inl same ↦ legal_along c.self.inside.length old listed new.front c.self.invariant kind same
      | inr same ↦ legal_along c.other.inside.length other listed new.front c.other.invariant other_kind same
    ] in
    let counts : max c.self.inside.length c.other.inside.length ≡ max (length old.front) (length other.front) =
    ap₂ (λ (a b : ℕ). max a b) c.self.invariant.counts c.other.invariant.counts in
    let longer : length new.front ≡ max (length old.front) (length other.front) =
    longer_length old.front other.front new.front c.join.ensures.front.0 c.join.ensures.front.1 c.join.ensures.front.2 in
    keeps_outside c.max-self-inside.result new listed (c.max-self-inside.ensures ∙ counts ∙ sym longer) c.join.ensures.seat.0.1 legal.0 legal.1 c.join.ensures.seat.1
