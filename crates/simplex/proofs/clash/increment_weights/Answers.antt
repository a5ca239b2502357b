use Rattle.std.proofs.Common.{◌≡◌, ℕ, ◌+◌, ◌-◌, ◌≤◌, ℤ, pos, List, get_or, take, to_z, of_z, sym, ap, subst, ◌∙◌, arith}
use mir.Syntax.{w128}
use Rattle.std.specs.Prelude.{not, count_by}
use Rattle.criteria_model.specs.Lists.{IsVector}
use Rattle.simplex.specs.Weights.{is_weight}
use Rattle.simplex.specs.Equation.{variable_at, weight_at, how_many, has_slack}
use Rattle.simplex.proofs.Sizes.{kept}
use Rattle.simplex.proofs.ScaledPoints.{written_vector}
use Rattle.simplex.proofs.Equations.{weights_more, weights_past, weights_are}
use Rattle.simplex.proofs.FewWeights.{few_more, few_past, count-take-le}
use Rattle.simplex.proofs.clash.increment_weights.Goals as goal
use Rattle.simplex.proofs.clash.increment_weights.Goals.{then-number-columns, else-number-columns}

pub loop-place-preserved : goal.loop-place-preserved
loop-place-preserved c =
    elim c.if-number-columns.branch [
      | then-number-columns w ↦ record {
        written = weights_more c.args.work.now (c.args.row - 1) c.loop-place.place c.loop-place.cells c.if-number-columns.cells c.weighted_variable-variable.result.0 (to_z w128 (of_z w128 c.weighted_variable-variable.result.1)) c.cols.ensures.dictionary (omega arith)
            (omega (arith, c.cols-place-end.ensures.value)) c.weighted_variable-variable.ensures.variable (omega (arith, w.if-number-columns.true, c.from-columns.ensures, c.cols.ensures.value))
            (kept c.weighted_variable-variable.result.1 (let s = c.weighted_variable-variable.ensures.size in omega arith) ∙ c.weighted_variable-variable.ensures.weight)
            w.cells-is c.loop-place.invariant.written;
        few = few_more c.args.work.now (c.args.row - 1) c.loop-place.place c.weighted_variable-variable.result.0 c.loop-place.cells c.if-number-columns.cells _ _
            c.weighted_variable-variable.ensures.variable (omega (arith, w.if-number-columns.true, c.from-columns.ensures, c.cols.ensures.value))
            (omega (arith, w.if-number-columns.true, c.from-columns.ensures, c.cols.ensures.value, c.cols.ensures.dictionary.columns_most, c.loop-place.invariant.written.len, c.weighted_variable-variable.ensures.variable_low))
            w.cells-is c.loop-place.invariant.few;
      }
      | else-number-columns w ↦ record {
        written = weights_past c.args.work.now (c.args.row - 1) c.loop-place.place c.loop-place.cells c.if-number-columns.cells c.weighted_variable-variable.result.0
            c.weighted_variable-variable.ensures.variable (omega (arith, w.if-number-columns.false, c.from-columns.ensures, c.cols.ensures.value)) w.cells-is c.loop-place.invariant.written;
        few = few_past c.args.work.now (c.args.row - 1) c.loop-place.place c.loop-place.cells c.if-number-columns.cells w.cells-is c.loop-place.invariant.few;
      }
    ]

pub of-requires : goal.of-requires
of-requires c =
    let columns : c.from-columns.result ≡ c.args.work.now.columns = c.from-columns.ensures ∙ c.cols.ensures.value in
    subst (λ (n : ℕ). IsVector (take n c.loop-place.cells)) (sym columns)
    (written_vector (variable_at c.args.work.now (c.args.row - 1)) (weight_at c.args.work.now (c.args.row - 1)) (pos 0) c.args.work.now.columns c.loop-place.place c.args.work.now.columns c.loop-place.cells
    c.cols.ensures.dictionary.columns_some c.cols.ensures.dictionary.columns_most c.loop-place.invariant.written)

pub returns-clause-weights : goal.returns-clause-weights
returns-clause-weights c column lt =
    let columns : c.from-columns.result ≡ c.args.work.now.columns = c.from-columns.ensures ∙ c.cols.ensures.value in
    ap (λ (l : List ℤ). get_or l column (pos 0)) (c.of.ensures ∙ ap (λ (n : ℕ). take n c.loop-place.cells) columns)
    ∙ weights_are c.args.work.now (c.args.row - 1) c.loop-place.place c.loop-place.cells c.cols.ensures.dictionary (omega arith) (omega (arith, c.cols-place-end.ensures.value)) (omega (arith, c.cols-place-end.ensures.value)) c.loop-place.invariant.written column lt

pub returns-clause-few : goal.returns-clause-few
returns-clause-few c =
    let columns : c.from-columns.result ≡ c.args.work.now.columns = c.from-columns.ensures ∙ c.cols.ensures.value in
    let end : c.loop-place.place ≡ c.args.work.now.columns + 1 = omega (arith, c.cols-place-end.ensures.value) in
    subst (λ (n : ℕ). count_by is_weight c.of.result ≤ how_many (λ place. not (has_slack c.args.work.now (c.args.row - 1) place)) n) end
    (omega (arith, ap (count_by is_weight) c.of.ensures, count-take-le c.loop-place.cells c.from-columns.result, c.loop-place.invariant.few))
