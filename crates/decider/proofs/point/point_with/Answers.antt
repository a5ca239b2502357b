use Rattle.std.proofs.Common.{length, sym, ap, subst, arith}
use Rattle.criteria_model.specs.declared.pairs.Side.{Side}
use Rattle.criteria_model.specs.declared.pairs.Side.TheVariants.{Equal}
use Rattle.criteria_model.specs.Answers.{Ranks}
use Rattle.decider.proofs.Standings.{rows_len-whole}
use Rattle.decider.proofs.AnswerRows.{meets_more, without_factor, standing_meets, meets_standing}
use Rattle.decider.proofs.Between.{between, between_equal, between_meets}
use Rattle.decider.proofs.point.point_with.Goals as goal

pub point_for-requires-clause-room : goal.point_for-requires-clause-room
point_for-requires-clause-room c =
    omega (arith, ap length c.bring_up.ensures.up.stands.loaded, rows_len-whole c.args.model.now.levels c.args.answers.now.answers, c.bring_up.ensures.up.room.rows, c.requires.room.rows)

pub point_for-requires-clause-some : goal.point_for-requires-clause-some
point_for-requires-clause-some c = (
  between c.args.model.now.levels c.args.pair.now c.args.plus.now c.args.minus.now,
  standing_meets c.args.model.now.levels c.args.answers.now.answers c.bring_up.new.work
      (between c.args.model.now.levels c.args.pair.now c.args.plus.now c.args.minus.now) c.args.pair.now Equal c.bring_up.ensures.up.stands
      (between_meets c.args.model.now.levels c.args.answers.now.answers c.args.pair.now c.args.plus.now c.args.minus.now c.requires.opens)
      (between_equal c.args.model.now.levels c.args.pair.now c.args.plus.now c.args.minus.now),
)

pub returns-in-Left-clause-meets : goal.returns-in-Left-clause-meets
returns-in-Left-clause-meets c =
    let both = without_factor c.args.model.now.levels c.args.answers.now.answers c.args.pair.now c.args.side c.args.plus.now c.as_slice.result.now c.reduced.result
    (record {
      value = c.as_slice.ensures.value;
      multiple = c.reduced.ensures.multiple;
      positive = c.reduced.ensures.positive;
      reduced = c.reduced.ensures.reduced;
    })
    c.requires.opens.plus_meets (subst (λ (s : Side). Ranks c.args.model.now.levels c.args.plus.now c.args.pair.now s) (sym c.in-Left.is) c.requires.opens.more) in
    meets_more c.args.model.now.levels c.args.answers.now.answers c.reduced.result (record { pair = c.args.pair.now; side = c.args.side }) both.0 both.1

pub returns-in-Right-clause-meets : goal.returns-in-Right-clause-meets
returns-in-Right-clause-meets c =
    let both = without_factor c.args.model.now.levels c.args.answers.now.answers c.args.pair.now c.args.side c.args.minus.now c.as_slice-in-Right.result.now c.reduced-in-Right.result
    (record {
      value = c.as_slice-in-Right.ensures.value;
      multiple = c.reduced-in-Right.ensures.multiple;
      positive = c.reduced-in-Right.ensures.positive;
      reduced = c.reduced-in-Right.ensures.reduced;
    })
    c.requires.opens.minus_meets (subst (λ (s : Side). Ranks c.args.model.now.levels c.args.minus.now c.args.pair.now s) (sym c.in-Right.is) c.requires.opens.less) in
    meets_more c.args.model.now.levels c.args.answers.now.answers c.reduced-in-Right.result (record { pair = c.args.pair.now; side = c.args.side }) both.0 both.1

pub returns-in-Equal-clause-meets : goal.returns-in-Equal-clause-meets
returns-in-Equal-clause-meets c =
    let both = meets_standing c.args.model.now.levels c.args.answers.now.answers c.bring_up.new.work c.point_for.result c.args.pair.now Equal c.bring_up.ensures.up.stands
    c.point_for.ensures.meets in
    meets_more c.args.model.now.levels c.args.answers.now.answers c.point_for.result (record { pair = c.args.pair.now; side = c.args.side }) both.0
    (subst (λ (s : Side). Ranks c.args.model.now.levels c.point_for.result c.args.pair.now s) (sym c.in-Equal.is) both.1)
