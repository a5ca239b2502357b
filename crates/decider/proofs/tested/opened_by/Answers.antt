use Rattle.std.proofs.Common.{List, ◌++◌, ℤ, ◌≡◌, ℕ, refl, subst}
use Rattle.criteria_model.specs.declared.pairs.Pair.{Pair}
use Rattle.criteria_model.specs.declared.pairs.Side.{Side}
use Rattle.criteria_model.specs.declared.pairs.Side.TheVariants.{Left, Right}
use Rattle.criteria_model.specs.Worth.{increments}
use Rattle.criteria_model.specs.Answers.{Ranks}
use Rattle.fraction_free.specs.declared.loaded.LoadedRow.{LoadedRow}
use Rattle.simplex.specs.Rows.{MeetsRows}
use Rattle.decider.specs.Standing.{rows_of}
use Rattle.decider.specs.Trying.{against}
use Rattle.decider.proofs.AnswerRows.{without_factor}
use Rattle.decider.proofs.Decided.{opened_decision}
use Rattle.decider.proofs.Deciding.{tried_ranks}
use Rattle.decider.proofs.tested.opened_by.Goals as goal

-- the found vector ranks the pair against the point
other_ranks : (levels : List ℕ) (loaded : List LoadedRow) (other : List ℤ) (pair : Pair) (verdict side : Side) → verdict ≡ side
    → MeetsRows (increments levels) (loaded ++ rows_of levels pair (against verdict)) other → Ranks levels other pair (against side)
other_ranks levels loaded other pair verdict side is meets =
    tried_ranks levels (increments levels) loaded other pair (against side) refl
    (subst (λ (s : Side). MeetsRows (increments levels) (loaded ++ rows_of levels pair (against s)) other) is meets)

pub returns-in-Left-clause-decision : goal.returns-in-Left-clause-decision
returns-in-Left-clause-decision c =
    let levels = c.args.model.now.levels in
    let pair = c.args.pair.now in
    let point = without_factor levels c.args.answers.now.answers pair Left c.args.point.now c.as_slice.result.now c.reduced.result
    (record {
      value = c.as_slice.ensures.value;
      multiple = c.reduced.ensures.multiple;
      positive = c.reduced.ensures.positive;
      reduced = c.reduced.ensures.reduced;
    }) c.requires.meets (subst (Ranks levels c.args.point.now pair) c.in-Left.is c.requires.ranked) in
    opened_decision levels c.args.answers.now.answers pair c.reduced.result c.args.other.now
    (record {
      plus_meets = point.0;
      minus_meets = c.meets.ensures.0 c.if-not-meets.false;
      more = point.1;
      less = other_ranks levels c.requires.other.0 c.args.other.now pair c.args.verdict Left c.in-Left.is c.requires.other.1;
    }) c.reduced.ensures.reduced c.requires.coprime

pub returns-in-Right-clause-decision : goal.returns-in-Right-clause-decision
returns-in-Right-clause-decision c =
    let levels = c.args.model.now.levels in
    let pair = c.args.pair.now in
    let point = without_factor levels c.args.answers.now.answers pair Right c.args.point.now c.as_slice-in-Right.result.now c.reduced-in-Right.result
    (record {
      value = c.as_slice-in-Right.ensures.value;
      multiple = c.reduced-in-Right.ensures.multiple;
      positive = c.reduced-in-Right.ensures.positive;
      reduced = c.reduced-in-Right.ensures.reduced;
    }) c.requires.meets (subst (Ranks levels c.args.point.now pair) c.in-Right.is c.requires.ranked) in
    opened_decision levels c.args.answers.now.answers pair c.args.other.now c.reduced-in-Right.result
    (record {
      plus_meets = c.meets.ensures.0 c.if-not-meets.false;
      minus_meets = point.0;
      more = other_ranks levels c.requires.other.0 c.args.other.now pair c.args.verdict Right c.in-Right.is c.requires.other.1;
      less = point.1;
    }) c.requires.coprime c.reduced-in-Right.ensures.reduced
