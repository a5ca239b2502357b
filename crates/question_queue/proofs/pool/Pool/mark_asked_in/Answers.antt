use Rattle.std.proofs.Common.{◌-◌, ◌≤◌, sym, subst}
use Rattle.std.specs.List.{position_or_len}
use Rattle.question_queue.specs.Pools.{is_due, as_asked}
use Rattle.question_queue.proofs.PoolLaws.{asked_keeps, at_place, changes}
use Rattle.question_queue.proofs.pool.Pool.mark_asked_in.Goals as goal

pub first_from-self-inside-requires : goal.first_from-self-inside-requires
first_from-self-inside-requires g c =
    subst (λ marks. c.self.inside.due ≤ position_or_len is_due marks) (sym c.as_slice.ensures.value)
    (asked_keeps c.self.inside.marks.items c.self.inside.kept.items _ _ _ _ (c.args.place - 1) c.index_mut.result.now c.self.invariant
    (at_place c.args.self.now c.self.inside.marks.items c.self.inside.kept.items c.args.place c.index_mut.result.now c.self.view_is c.requires.low c.requires.high c.index_mut.ensures.value)).0

pub returns-clause-change : goal.returns-clause-change
returns-clause-change g c =
    changes as_asked c.args.self.now c.self.inside.marks.items c.self.inside.kept.items c.args.place c.index_mut.result.now c.self.view_is
    (at_place c.args.self.now c.self.inside.marks.items c.self.inside.kept.items c.args.place c.index_mut.result.now c.self.view_is c.requires.low c.requires.high c.index_mut.ensures.value)
