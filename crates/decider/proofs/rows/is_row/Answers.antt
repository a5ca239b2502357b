use Rattle.std.proofs.Common.{◌≡◌, ◌+◌, ◌-◌, List, ℤ, sym, ap, ◌∙◌, arith, rules}
use lib.Pointwise.{pointwise}
use Rattle.std.specs.Ordering.{int_eq}
use Rattle.decider.proofs.RowTests.{same_list, list_same, least_tested, other_row}
use Rattle.decider.proofs.rows.is_row.Goals as goal

pub returns-then-eq : goal.returns-then-eq
returns-then-eq c =
    let same : c.as_slice.result.now ≡ c.as_slice-2.result.now = same_list c.as_slice.result.now c.as_slice-2.result.now (sym c.eq.ensures ∙ c.if-eq.true) in
    let held : c.loaded-held.result.0 ≡ c.args.coefficients.now = sym c.as_slice.ensures.value ∙ same ∙ c.as_slice-2.ensures.value in
    least_tested c.args.work.now.loaded c.args.before (c.args.before + 1 - 1) c.args.coefficients.now c.loaded-held.result.0 c.args.least c.loaded-held.result.1
    (omega (arith, c.rows.ensures.value)) (omega arith) c.loaded-held.ensures.coefficients c.loaded-held.ensures.least held (search rules) c.ranges.least

pub returns-else-eq : goal.returns-else-eq
returns-else-eq c =
    other_row c.args.work.now.loaded c.args.before (c.args.before + 1 - 1) c.args.coefficients.now c.loaded-held.result.0 c.args.least c.eq.result (omega arith)
    c.loaded-held.ensures.coefficients c.if-eq.false
    (λ e. c.eq.ensures ∙ ap (λ (l : List ℤ). pointwise int_eq l c.as_slice-2.result.now) (c.as_slice.ensures.value ∙ e ∙ sym c.as_slice-2.ensures.value) ∙ list_same c.as_slice-2.result.now)
