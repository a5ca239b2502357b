use Rattle.std.proofs.Common.{◌≡◌, ◌∙◌, ◌<◌, ◌+◌, ◌^◌, ℤ, ◌*ℤ◌, ◌-ℤ◌, unsigned_abs, List, FitsSigned, to_z, of_z, sym, ap, subst, arith}
use Rattle.std.proofs.lemmas.Int.{to_z-of_z}
use Rattle.std.specs.Int.{w128}
use Rattle.wide_step.specs.Quotient.{HasQuotient}
use Rattle.row_laws.proofs.Integers.{read_back}
use Rattle.row_laws.specs.Rows.{entry}
use Rattle.fraction_free.specs.Changes.{with_sign}
use Rattle.fraction_free.proofs.Signs.{with_sign-mul, with_sign-abs, with_sign-difference}
use Rattle.fraction_free.proofs.LineSteps.{IsExchangedTo, products, exchanged_more, exchanged_past_column, exchanged_all, stays}
use Rattle.fraction_free.proofs.lines.Line.exchange.Goals as goal
use Rattle.fraction_free.proofs.lines.Line.exchange.Goals.{then-place-column, else-place-column}

number_back : (y b : ℤ) → y ≡ b → unsigned_abs b < 2 ^ 89 → to_z w128 (of_z w128 y) ≡ b
number_back y b e size = ap (λ (z : ℤ). to_z w128 (of_z w128 z)) e ∙ read_back w128 b (omega arith)

signed_back : (r s y a b : ℤ) → r ≡ with_sign (to_z w128 (of_z w128 s)) (to_z w128 (of_z w128 y)) → s ≡ a → y ≡ b → unsigned_abs a < 2 ^ 89 → unsigned_abs b < 2 ^ 89
    → to_z w128 (of_z w128 r) ≡ with_sign a b
signed_back r s y a b h e f a_size b_size =
    let is : r ≡ with_sign a b = h ∙ ap (λ (z : ℤ). with_sign z (to_z w128 (of_z w128 y))) (number_back s a e a_size) ∙ ap (with_sign a) (number_back y b f b_size) in
    number_back r (with_sign a b) is (omega (arith, with_sign-abs a b))

-- with the entry's sign in entry and factor, the quotient has it too
has_signed : (s p x f y lead factor other number : ℤ) → lead ≡ with_sign p p → factor ≡ with_sign p f → other ≡ y → number ≡ x → HasQuotient (p *ℤ x -ℤ f *ℤ y) s
    → HasQuotient (lead *ℤ number -ℤ factor *ℤ other) s
has_signed s p x f y lead factor other number g i j k h = record {
  quotient = with_sign p h.quotient;
  exact = with_sign-mul p h.quotient s ∙ ap (with_sign p) h.exact ∙ sym (with_sign-difference p x f y) ∙ sym (products lead factor other number _ _ _ _ g i j k);
  size = omega (arith, with_sign-abs p h.quotient, h.size);
}

pub exchange_at-requires-clause-exact : goal.exchange_at-requires-clause-exact
exchange_at-requires-clause-exact c =
    let v = c.loop-place.invariant in
    let pivot = c.args.pivot.now in
    let old = c.args.self.now in
    let p_size = c.requires.pivot_sizes c.args.column in
    has_signed c.args.scale.now (entry pivot c.args.column) (entry old c.loop-place.place) (entry old c.args.column) (entry pivot c.loop-place.place) _ _ _ _
    (signed_back c.with_sign-entry.result c.get-sign.result c.get-sign.result _ _ c.with_sign-entry.ensures c.get-sign.ensures c.get-sign.ensures p_size p_size)
    (signed_back c.with_sign-factor.result c.get-sign.result c.get.result _ _ c.with_sign-factor.ensures c.get-sign.ensures c.get.ensures p_size (c.requires.sizes c.args.column))
    (number_back c.get-then-place-column.result _ c.get-then-place-column.ensures (c.requires.pivot_sizes c.loop-place.place))
    (v.rest c.loop-place.place (omega arith))
    (c.requires.exact c.loop-place.place (omega arith) c.if-place-column.true)

pub loop-place-preserved : goal.loop-place-preserved
loop-place-preserved c =
    let v = c.loop-place.invariant in
    let pivot = c.args.pivot.now in
    let old = c.args.self.now in
    let p_size = c.requires.pivot_sizes c.args.column in
    elim c.if-place-column.branch [
      | then-place-column w ↦
          subst (λ (next : List ℤ). IsExchangedTo c.args.scale.now c.args.column pivot old next (c.loop-place.place + 1)) (sym w.self-is)
          (exchanged_more c.args.scale.now c.args.column pivot old c.loop-place.self w.exchange_at.new.self c.loop-place.place _ _ _ v w.if-place-column.true
          (signed_back c.with_sign-entry.result c.get-sign.result c.get-sign.result _ _ c.with_sign-entry.ensures c.get-sign.ensures c.get-sign.ensures p_size p_size)
          (signed_back c.with_sign-factor.result c.get-sign.result c.get.result _ _ c.with_sign-factor.ensures c.get-sign.ensures c.get.ensures p_size (c.requires.sizes c.args.column))
          (number_back w.get-then-place-column.result _ w.get-then-place-column.ensures (c.requires.pivot_sizes c.loop-place.place))
          w.exchange_at.ensures)
      | else-place-column w ↦ subst (λ (next : List ℤ). IsExchangedTo c.args.scale.now c.args.column pivot old next (c.loop-place.place + 1)) (sym w.self-is) (exchanged_past_column _ _ _ _ _ _ v (omega arith))
    ]

pub returns-then-entry-number : goal.returns-then-entry-number
returns-then-entry-number c =
    let p_size = c.requires.pivot_sizes c.args.column in
    let lead = signed_back c.with_sign-entry.result c.get-sign.result c.get-sign.result _ _ c.with_sign-entry.ensures c.get-sign.ensures c.get-sign.ensures p_size p_size in
    let factor = signed_back c.with_sign-factor.result c.get-sign.result c.get.result _ _ c.with_sign-factor.ensures c.get-sign.ensures c.get.ensures p_size (c.requires.sizes c.args.column) in
    let fits : FitsSigned w128 c.number.result = record { sfits = c.number.type_inv } in
    let number = to_z-of_z w128 c.number.result fits ∙ c.number.ensures in
    stays c.args.scale.now c.args.column c.args.pivot.now c.args.self.now (sym lead ∙ ap (to_z w128) c.if-entry-number.true ∙ number) (sym factor ∙ ap (to_z w128) c.if-factor-eq0.true)

pub returns : goal.returns
returns c =
    let v = c.loop-place.invariant in
    let p_size = c.requires.pivot_sizes c.args.column in
    exchanged_all c.args.scale.now c.args.column c.args.pivot.now c.args.self.now c.loop-place.self c.set.new.self c.loop-place.place _ v (omega (arith, c.len-place-end.ensures.value)) c.requires.column
    (signed_back c.with_sign-factor.result c.get-sign.result c.get.result _ _ c.with_sign-factor.ensures c.get-sign.ensures c.get.ensures p_size (c.requires.sizes c.args.column))
    c.set.ensures
