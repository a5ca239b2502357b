use Rattle.decider.proofs.Deciding.{opens_left, opens_right, opens_both}
use Rattle.decider.proofs.decisions.opening.Goals as goal

pub returns-in-Left-clause-opens : goal.returns-in-Left-clause-opens
returns-in-Left-clause-opens c =
    opens_left c.args.model.now.levels c.args.work.now c.args.pair.now c.args.verdict c.args.point.now c.as_slice.result.now c.reduced.result c.args.other.now c.requires.dictionary
    c.requires.columns c.in-Left.is
    (record { value = c.as_slice.ensures.value; multiple = c.reduced.ensures.multiple; positive = c.reduced.ensures.positive; reduced = c.reduced.ensures.reduced })
    c.requires.point c.requires.ranked c.requires.other c.requires.reduced

pub returns-in-Right-clause-opens : goal.returns-in-Right-clause-opens
returns-in-Right-clause-opens c =
    opens_right c.args.model.now.levels c.args.work.now c.args.pair.now c.args.verdict c.args.point.now c.as_slice-in-Right.result.now c.reduced-in-Right.result c.args.other.now
    c.requires.dictionary c.requires.columns c.in-Right.is
    (record { value = c.as_slice-in-Right.ensures.value; multiple = c.reduced-in-Right.ensures.multiple; positive = c.reduced-in-Right.ensures.positive; reduced = c.reduced-in-Right.ensures.reduced })
    c.requires.point c.requires.ranked c.requires.other c.requires.reduced

pub returns-in-Equal-clause-opens : goal.returns-in-Equal-clause-opens
returns-in-Equal-clause-opens c =
    opens_both c.args.model.now.levels c.args.work.now c.args.pair.now c.args.verdict c.point_for.result c.args.other.now c.requires.columns c.in-Equal.is c.point_for.ensures.meets
    c.point_for.ensures.reduced c.requires.other c.requires.reduced
