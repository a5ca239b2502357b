use Rattle.std.proofs.Common.{sym, refl, IsTrue, false, true≢false, subst₂}
use Rattle.criteria_model.specs.Alternatives.{IsSomewhereHigher}
use Rattle.criteria_model.proofs.DominanceLemmas.{written, written_turned, filled_higher, filled_same}
use Rattle.criteria_model.proofs.models.Model.dominance.Goals as goal

refuted : {P : Type 0} → (P → IsTrue false) → ¬ P
refuted h p = true≢false (sym (h p))

pub returns-in-true-false : goal.returns-in-true-false
returns-in-true-false c =
    let l = c.as_slice-left.ensures.value in
    let r = c.as_slice-right.ensures.value in
    let more = subst₂ IsSomewhereHigher l r (c.in-true-false.ensures.0 refl) in
    let less : ¬ IsSomewhereHigher c.args.pair.now.right c.args.pair.now.left = λ h. refuted c.in-true-false.ensures'.1 (subst₂ IsSomewhereHigher (sym r) (sym l) h) in
    filled_higher c.args.self.now.levels c.args.pair.now.left c.args.pair.now.right (written _ _ c.requires) more less

pub returns-in-false-true : goal.returns-in-false-true
returns-in-false-true c =
    let l = c.as_slice-left.ensures.value in
    let r = c.as_slice-right.ensures.value in
    let less = subst₂ IsSomewhereHigher r l (c.in-false-true.ensures'.0 refl) in
    let more : ¬ IsSomewhereHigher c.args.pair.now.left c.args.pair.now.right = λ h. refuted c.in-false-true.ensures.1 (subst₂ IsSomewhereHigher (sym l) (sym r) h) in
    let found = filled_higher c.args.self.now.levels c.args.pair.now.right c.args.pair.now.left (written_turned _ _ c.requires) less more in
    (λ e. found.0 (sym e), found.1)

pub returns-in-false-false : goal.returns-in-false-false
returns-in-false-false c =
    let l = c.as_slice-left.ensures.value in
    let r = c.as_slice-right.ensures.value in
    let more : ¬ IsSomewhereHigher c.args.pair.now.left c.args.pair.now.right = λ h. refuted c.in-false-false.ensures.1 (subst₂ IsSomewhereHigher (sym l) (sym r) h) in
    let less : ¬ IsSomewhereHigher c.args.pair.now.right c.args.pair.now.left = λ h. refuted c.in-false-false.ensures'.1 (subst₂ IsSomewhereHigher (sym r) (sym l) h) in
    filled_same c.args.self.now.levels c.args.pair.now.left c.args.pair.now.right (written _ _ c.requires) more less
