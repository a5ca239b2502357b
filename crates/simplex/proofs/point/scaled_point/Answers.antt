use Rattle.std.proofs.Common.{◌≡◌, ℕ, ◌+◌, ◌-◌, ◌<◌, ◌^◌, ℤ, ◌+ℤ◌, unsigned_abs, to_z, of_z, sym, ap, subst, ◌∙◌, arith, take}
use mir.Syntax.{w128}
use Rattle.std.specs.Prelude.{slice_index}
use Rattle.criteria_model.specs.Lists.{IsVector}
use Rattle.fraction_free.specs.Dictionary.{constant_in}
use Rattle.simplex.specs.Point.{IsScaledPoint}
use Rattle.simplex.proofs.Variables.{variables_of}
use Rattle.simplex.proofs.Sizes.{kept, scale_small, entry_small, sum_fits, sum_is}
use Rattle.simplex.proofs.ScaledPoints.{written_vector}
use Rattle.simplex.proofs.Points.{scaled_none, scaled_more, scaled_past, scaled_is}
use Rattle.simplex.proofs.point.scaled_point.Goals as goal
use Rattle.simplex.proofs.point.scaled_point.Goals.{then-variable-columns, else-variable-columns}

pub loop-at-init : goal.loop-at-init
loop-at-init c =
    scaled_none c.args.work.now (to_z w128 (of_z w128 c.scale-cells.result)) c.cols.ensures.dictionary
    (kept c.scale-cells.result (subst (λ (n : ℤ). unsigned_abs n < 2 ^ 126) (sym c.scale-cells.ensures.value) (let s = scale_small c.args.work.now c.cols.ensures.dictionary in omega arith)) ∙ c.scale-cells.ensures.value)

pub overflow_add-cells : goal.overflow_add-cells
overflow_add-cells c =
    sum_fits c.scale.result c.constant.result
    (subst (λ (n : ℤ). unsigned_abs n < 2 ^ 89) (sym c.scale.ensures.value) (scale_small c.args.work.now c.cols.ensures.dictionary))
    (subst (λ (n : ℤ). unsigned_abs n < 2 ^ 89) (sym c.constant.ensures) (entry_small c.args.work.now c.cols.ensures.dictionary (c.loop-at.at + 1 - 1) c.args.work.now.columns (omega (arith, c.rows-at-end.ensures.value)) (omega arith)))

pub overflow_sub-cells : goal.overflow_sub-cells
overflow_sub-cells c =
    let low = (variables_of c.args.work.now c.cols.ensures.dictionary).basic_low (c.loop-at.at + 1 - 1) (omega (arith, c.rows-at-end.ensures.value)) in
    omega (arith, c.basic-variable.ensures, low)

pub loop-at-preserved : goal.loop-at-preserved
loop-at-preserved c =
    let place : c.loop-at.at + 1 - 1 ≡ c.loop-at.at = omega arith in
    let variable : c.basic-variable.result ≡ slice_index c.args.work.now.basic c.loop-at.at = c.basic-variable.ensures ∙ ap (slice_index c.args.work.now.basic) place in
    elim c.if-variable-columns.branch [
      | then-variable-columns w ↦
          scaled_more c.args.work.now c.loop-at.at c.loop-at.cells c.if-variable-columns.cells c.basic-variable.result (to_z w128 (of_z w128 (to_z w128 (of_z w128 w.scale.result) +ℤ to_z w128 (of_z w128 w.constant.result)))) c.cols.ensures.dictionary (omega (arith, c.rows-at-end.ensures.value))
          variable (omega (arith, w.if-variable-columns.true, c.from-columns.ensures, c.cols.ensures.value))
          (sum_is w.scale.result w.constant.result
          (subst (λ (n : ℤ). unsigned_abs n < 2 ^ 89) (sym w.scale.ensures.value) (scale_small c.args.work.now c.cols.ensures.dictionary))
          (subst (λ (n : ℤ). unsigned_abs n < 2 ^ 89) (sym w.constant.ensures) (entry_small c.args.work.now c.cols.ensures.dictionary (c.loop-at.at + 1 - 1) c.args.work.now.columns (omega (arith, c.rows-at-end.ensures.value)) (omega arith)))
          ∙ ap (λ (n : ℤ). n +ℤ w.constant.result) w.scale.ensures.value ∙ ap (λ (n : ℤ). c.args.work.now.scale +ℤ n) (w.constant.ensures ∙ ap (constant_in c.args.work.now) place))
          w.cells-is c.loop-at.invariant
      | else-variable-columns w ↦
          scaled_past c.args.work.now c.loop-at.at c.loop-at.cells c.if-variable-columns.cells c.basic-variable.result
          variable (omega (arith, w.if-variable-columns.false, c.from-columns.ensures, c.cols.ensures.value)) w.cells-is c.loop-at.invariant
    ]

pub of-requires : goal.of-requires
of-requires c =
    let columns : c.from-columns.result ≡ c.args.work.now.columns = c.from-columns.ensures ∙ c.cols.ensures.value in
    subst (λ (n : ℕ). IsVector (take n c.loop-at.cells)) (sym columns)
    (written_vector (slice_index c.args.work.now.basic) (λ i. c.args.work.now.scale +ℤ constant_in c.args.work.now i) c.args.work.now.scale c.args.work.now.columns c.loop-at.at c.args.work.now.columns c.loop-at.cells
    c.cols.ensures.dictionary.columns_some c.cols.ensures.dictionary.columns_most c.loop-at.invariant)

pub returns-clause-point : goal.returns-clause-point
returns-clause-point c =
    let columns : c.from-columns.result ≡ c.args.work.now.columns = c.from-columns.ensures ∙ c.cols.ensures.value in
    subst (λ (l : _). IsScaledPoint c.args.work.now l) (sym (c.of.ensures ∙ ap (λ (n : ℕ). take n c.loop-at.cells) columns))
    (scaled_is c.args.work.now c.loop-at.cells c.loop-at.at c.cols.ensures.dictionary (omega (arith, c.rows-at-end.ensures.value)) (omega (arith, c.rows-at-end.ensures.value)) c.loop-at.invariant)
