use Rattle.std.proofs.Common.{subst}
use Rattle.criteria_model.specs.declared.pairs.Side.TheVariants.{Left, Right}
use Rattle.criteria_model.specs.Answers.{Ranks}
use Rattle.decider.proofs.AnswerRows.{without_factor}
use Rattle.decider.proofs.tools.opened.Goals as goal

pub returns-in-Some : goal.returns-in-Some
returns-in-Some c =
    let point = without_factor c.args.model.now.levels c.args.snapshot.now.answers.answers c.args.pair.now Left c.args.snapshot.now.point c.as_slice.result.now c.reduced.result
    (record {
      value = c.as_slice.ensures.value;
      multiple = c.reduced.ensures.multiple;
      positive = c.reduced.ensures.positive;
      reduced = c.reduced.ensures.reduced;
    }) c.requires.meets
    (subst (Ranks c.args.model.now.levels c.args.snapshot.now.point c.args.pair.now) c.in-Left.is c.requires.ranked) in
    let other = c.in-Some.ensures in
    (record { plus_meets = point.0; minus_meets = other.0; more = point.1; less = other.1 }, c.reduced.ensures.reduced, other.2)

pub returns-in-Some-find : goal.returns-in-Some-find
returns-in-Some-find c =
    let point = without_factor c.args.model.now.levels c.args.snapshot.now.answers.answers c.args.pair.now Right c.args.snapshot.now.point c.as_slice-in-Some-find.result.now
    c.reduced-in-Some-find.result
    (record {
      value = c.as_slice-in-Some-find.ensures.value;
      multiple = c.reduced-in-Some-find.ensures.multiple;
      positive = c.reduced-in-Some-find.ensures.positive;
      reduced = c.reduced-in-Some-find.ensures.reduced;
    }) c.requires.meets (subst (Ranks c.args.model.now.levels c.args.snapshot.now.point c.args.pair.now) c.in-Right.is c.requires.ranked) in
    let other = c.in-Some-find.ensures in
    (record { plus_meets = other.0; minus_meets = point.0; more = other.1; less = point.1 }, other.2, c.reduced-in-Some-find.ensures.reduced)
