use Rattle.question_queue.specs.Pools.{as_unranked}
use Rattle.std.proofs.Common.{◌-◌}
use Rattle.question_queue.proofs.PoolLaws.{unranked_to, at_place, changes}
use Rattle.question_queue.proofs.pool.Pool.unmark_ranked.Goals as goal

pub invariant_of-self : goal.invariant_of-self
invariant_of-self c =
    unranked_to c.self.inside.marks.items c.self.inside.kept.items _ _ _ _ (c.args.place - 1) c.index_mut-mark.result.now _ _ _ c.self.invariant
    (at_place c.args.self.now c.self.inside.marks.items c.self.inside.kept.items c.args.place c.index_mut-mark.result.now c.self.view_is c.requires.low c.requires.high c.index_mut-mark.ensures.value)
    c.min-self-inside.ensures c.back_to-self-inside.ensures c.min-self-inside-2.ensures

pub returns : goal.returns
returns c =
    changes as_unranked c.args.self.now c.self.inside.marks.items c.self.inside.kept.items c.args.place c.index_mut-mark.result.now c.self.view_is
    (at_place c.args.self.now c.self.inside.marks.items c.self.inside.kept.items c.args.place c.index_mut-mark.result.now c.self.view_is c.requires.low c.requires.high c.index_mut-mark.ensures.value)
