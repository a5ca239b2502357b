use Rattle.std.proofs.Common.{◌-◌, ◌≤◌, sym, ap, ◌∙◌, subst}
use Rattle.std.specs.List.{position_or_len}
use Rattle.question_queue.specs.Pools.{is_unranked, is_due, as_ranked}
use Rattle.question_queue.proofs.PoolLaws.{ranked_keeps, at_place, changes}
use Rattle.question_queue.proofs.pool.Pool.mark_ranked_in.Goals as goal

pub first_from-self-inside-requires : goal.first_from-self-inside-requires
first_from-self-inside-requires g c =
    subst (λ marks. c.self.inside.unranked ≤ position_or_len is_unranked marks) (sym c.as_slice-marks.ensures.value)
    (ranked_keeps c.self.inside.marks.items c.self.inside.kept.items _ _ _ _ (c.args.place - 1) c.index_mut.result.now c.self.invariant).0

pub first_from-self-inside-requires-2 : goal.first_from-self-inside-requires-2
first_from-self-inside-requires-2 g c =
    subst (λ marks. c.self.inside.due ≤ position_or_len is_due marks) (sym c.as_slice-marks.ensures.value)
    (ranked_keeps c.self.inside.marks.items c.self.inside.kept.items _ _ _ _ (c.args.place - 1) c.index_mut.result.now c.self.invariant).1

pub invariant_of-self : goal.invariant_of-self
invariant_of-self g c =
    (ranked_keeps c.self.inside.marks.items c.self.inside.kept.items _ _ _ _ (c.args.place - 1) c.index_mut.result.now c.self.invariant).2 _ _
    (c.first_from-self-inside.ensures.first ∙ ap (position_or_len is_unranked) c.as_slice-marks.ensures.value)
    (c.first_from-self-inside-2.ensures.first ∙ ap (position_or_len is_due) c.as_slice-marks.ensures.value)

pub returns-clause-change : goal.returns-clause-change
returns-clause-change g c =
    changes as_ranked c.args.self.now c.self.inside.marks.items c.self.inside.kept.items c.args.place c.index_mut.result.now c.self.view_is
    (at_place c.args.self.now c.self.inside.marks.items c.self.inside.kept.items c.args.place c.index_mut.result.now c.self.view_is c.requires.low c.requires.high c.index_mut.ensures.value)
