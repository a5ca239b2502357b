use Rattle.std.proofs.Common.{◌-◌, ◌<◌, ◌^◌, ℤ, neg_ℤ, unsigned_abs, sym, ap, subst, ◌∙◌, arith}
use Rattle.row_laws.proofs.Integers.{unsigned_abs-neg}
use Rattle.simplex.proofs.Variables.{variables_of}
use Rattle.simplex.proofs.Sizes.{kept, entry_small, scale_small, negated_is, negated_fits}
use Rattle.simplex.proofs.Equations.{later_weight}
use Rattle.simplex.proofs.clash.weighted_variable.Goals as goal

pub overflow_sub-result : goal.overflow_sub-result
overflow_sub-result c = negated_fits c.entry.result
    (subst (λ (n : ℤ). unsigned_abs n < 2 ^ 89) (sym c.entry.ensures) (entry_small c.args.work.now c.scale-scale.ensures.dictionary (c.args.row - 1) (c.args.place - 1) (omega arith) (omega arith)))

pub returns-then-place-eq0-clause-variable_low : goal.returns-then-place-eq0-clause-variable_low
returns-then-place-eq0-clause-variable_low c =
    let low = (variables_of c.args.work.now c.scale-scale.ensures.dictionary).basic_low (c.args.row - 1) (omega arith) in omega (arith, c.basic.ensures, low)

pub returns-then-place-eq0-clause-variable_high : goal.returns-then-place-eq0-clause-variable_high
returns-then-place-eq0-clause-variable_high c =
    let high = (variables_of c.args.work.now c.scale-scale.ensures.dictionary).basic_high (c.args.row - 1) (omega arith) in omega (arith, c.basic.ensures, high)

pub returns-then-place-eq0-clause-size : goal.returns-then-place-eq0-clause-size
returns-then-place-eq0-clause-size c =
    let small : unsigned_abs c.scale-scale.result < 2 ^ 89 = subst (λ (n : ℤ). unsigned_abs n < 2 ^ 89) (sym c.scale-scale.ensures.value) (scale_small c.args.work.now c.scale-scale.ensures.dictionary) in
    subst (λ (n : ℤ). unsigned_abs n < 2 ^ 96) (sym (kept c.scale-scale.result (omega arith))) (omega arith)

pub returns-else-place-eq0-clause-weight : goal.returns-else-place-eq0-clause-weight
returns-else-place-eq0-clause-weight c =
    let small : unsigned_abs c.entry.result < 2 ^ 89 = subst (λ (n : ℤ). unsigned_abs n < 2 ^ 89) (sym c.entry.ensures) (entry_small c.args.work.now c.scale-scale.ensures.dictionary (c.args.row - 1) (c.args.place - 1) (omega arith) (omega arith)) in
    negated_is c.entry.result small ∙ ap neg_ℤ c.entry.ensures ∙ sym (later_weight c.args.work.now (c.args.row - 1) c.args.place (omega arith))

pub returns-else-place-eq0-clause-variable_low : goal.returns-else-place-eq0-clause-variable_low
returns-else-place-eq0-clause-variable_low c =
    let low = (variables_of c.args.work.now c.scale-scale.ensures.dictionary).nonbasic_low (c.args.place - 1) (omega arith) in omega (arith, c.nonbasic.ensures, low)

pub returns-else-place-eq0-clause-variable_high : goal.returns-else-place-eq0-clause-variable_high
returns-else-place-eq0-clause-variable_high c =
    let high = (variables_of c.args.work.now c.scale-scale.ensures.dictionary).nonbasic_high (c.args.place - 1) (omega arith) in omega (arith, c.nonbasic.ensures, high)

pub returns-else-place-eq0-clause-size : goal.returns-else-place-eq0-clause-size
returns-else-place-eq0-clause-size c =
    let small : unsigned_abs c.entry.result < 2 ^ 89 = subst (λ (n : ℤ). unsigned_abs n < 2 ^ 89) (sym c.entry.ensures) (entry_small c.args.work.now c.scale-scale.ensures.dictionary (c.args.row - 1) (c.args.place - 1) (omega arith) (omega arith)) in
    subst (λ (n : ℤ). unsigned_abs n < 2 ^ 96) (sym (negated_is c.entry.result small)) (omega (arith, unsigned_abs-neg c.entry.result))
