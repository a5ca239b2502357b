use Rattle.std.proofs.Common.{◌≡◌, ◌≤◌, IsTrue, List, length, vec_len, ap, sym, subst, rules, arith}
use Rattle.survey_core.specs.Kinds.{is_withdraw}
use Rattle.survey_core.specs.Legal.{MayFollow}
use Rattle.survey_core.specs.declared.points.AnswerPoint.{AnswerPoint}
use Rattle.survey_state.specs.States.{Surveyed, room_for_withdrawal}
use Rattle.survey_state.proofs.JournalLemmas.{few_changes, room_now, legal_next, last_event, keeps_next, keeps_as}
use Rattle.survey_core.proofs.PointLemmas.{points_room}
use Rattle.survey_state.proofs.state.State.record.Goals as goal

pub mark-requires : goal.mark-requires
mark-requires c =
    last_event _ _ _ _ _ _ _ _ c.args.event c.self.invariant c.apply.ensures.listed c.apply.ensures.history c.apply.ensures.legal
    (subst (λ (s : Surveyed). MayFollow s.listed s.journal c.args.event) (sym c.self.view_is) c.requires.allowed)

pub version_after-self-inside-requires : goal.version_after-self-inside-requires
version_after-self-inside-requires c =
    omega (arith, c.self.invariant.changes, few_changes _ _ c.self.invariant.model c.self.invariant.legal)

pub follow-requires : goal.follow-requires
follow-requires c commits =
    let legal = legal_next _ _ _ _ _ _ _ _ c.args.event c.self.invariant c.apply.ensures.listed c.apply.ensures.history c.apply.ensures.legal in
    let size : vec_len c.self.inside.points ≡ length c.self.inside.points.items = search rules in
    omega (
      arith,
      size,
      points_room _ _ c.args.event c.self.invariant.model legal commits,
      ap (λ (l : List AnswerPoint). length l) c.self.invariant.points_of,
      c.self.invariant.enough,
    )

pub push_reserved-requires : goal.push_reserved-requires
push_reserved-requires c =
    let legal = legal_next _ _ _ _ _ _ _ _ c.args.event c.self.invariant c.apply.ensures.listed c.apply.ensures.history c.apply.ensures.legal in
    let prepared = subst (λ (s : Surveyed). IsTrue (is_withdraw c.args.event) → room_for_withdrawal s.listed ≤ s.spare) (sym c.self.view_is) c.requires.room in
    omega (arith, room_now c.self.inside.core.listed _ c.args.event _ legal c.self.invariant.room prepared)

pub invariant_of-self : goal.invariant_of-self
invariant_of-self c =
    let prepared = subst (λ (s : Surveyed). IsTrue (is_withdraw c.args.event) → room_for_withdrawal s.listed ≤ s.spare) (sym c.self.view_is) c.requires.room in
    let kept = keeps_next _ c.apply.new.self _ _ _ _ _ _ c.args.event c.self.invariant c.apply.ensures.listed c.apply.ensures.history c.apply.ensures.legal _ c.mark.ensures.pool prepared in
    keeps_as kept c.push_reserved.ensures.items c.follow.ensures.items c.version_after-self-inside.ensures c.follow.ensures.capacity
    (omega (arith, c.push_reserved.ensures.len, c.push_reserved.ensures.capacity))
