use Rattle.std.proofs.Common.{◌≡◌, ◌≢◌, ◌∙◌, ◌<◌, ◌+◌, ◌^◌, ℕ, ℤ, pos, neg_ℤ, ◌-ℤ◌, unsigned_abs, List, length, set, to_z, of_z, sym, ap, subst, arith}
use Rattle.std.proofs.lemmas.Int.{ints}
use Rattle.std.specs.Int.{w128}
use Rattle.row_laws.proofs.Integers.{read_back}
use Rattle.row_laws.specs.Rows.{entry}
use Rattle.fraction_free.specs.Changes.{with_sign}
use Rattle.fraction_free.proofs.Signs.{with_sign-abs}
use Rattle.fraction_free.proofs.LineSteps.{IsLeftTo, left_more, left_past_column}
use Rattle.fraction_free.proofs.lines.Line.leave.Goals as goal
use Rattle.fraction_free.proofs.lines.Line.leave.Goals.{then-place-column, else-place-column}

negated_back : (w e y a b : ℤ) → w ≡ with_sign (to_z w128 (of_z w128 e)) (to_z w128 (of_z w128 (pos 0 -ℤ to_z w128 (of_z w128 y)))) → e ≡ a → y ≡ b
    → unsigned_abs a < 2 ^ 89 → unsigned_abs b < 2 ^ 89 → to_z w128 (of_z w128 w) ≡ with_sign a (neg_ℤ b)
negated_back w e y a b h i j a_size b_size =
    let minus : to_z w128 (of_z w128 (pos 0 -ℤ to_z w128 (of_z w128 y))) ≡ neg_ℤ b =
    ap (λ (z : ℤ). to_z w128 (of_z w128 (pos 0 -ℤ z))) (ap (λ (z : ℤ). to_z w128 (of_z w128 z)) j ∙ read_back w128 b (omega arith))
    ∙ read_back w128 (pos 0 -ℤ b) (omega (arith, less b)) ∙ turned b in
    let is : w ≡ with_sign a (neg_ℤ b) =
    h ∙ ap (λ (z : ℤ). with_sign z (to_z w128 (of_z w128 (pos 0 -ℤ to_z w128 (of_z w128 y))))) (ap (λ (z : ℤ). to_z w128 (of_z w128 z)) i ∙ read_back w128 a (omega arith))
    ∙ ap (with_sign a) minus in
    ap (λ (z : ℤ). to_z w128 (of_z w128 z)) is ∙ read_back w128 (with_sign a (neg_ℤ b)) (omega (arith, with_sign-abs a (neg_ℤ b), negated_size b))
  where
    turned : (n : ℤ) → pos 0 -ℤ n ≡ neg_ℤ n
    turned n = omega (arith, ints)

    less : (n : ℤ) → unsigned_abs (pos 0 -ℤ n) ≡ unsigned_abs n
    less n = omega (arith, ints)

    negated_size : (n : ℤ) → unsigned_abs (neg_ℤ n) ≡ unsigned_abs n
    negated_size n = omega (arith, ints)

left_along : (column : ℕ) (old now new next : List ℤ) (place : ℕ) (v : ℤ) → next ≡ new → new ≡ set now place v → v ≡ with_sign (entry now column) (neg_ℤ (entry now place))
    → IsLeftTo column old now place → place ≢ column → place < length old → IsLeftTo column old next (place + 1)
left_along column old now new next place v e f g h apart inside = rw (e, f, g) (left_more column old now place h apart inside)

pub loop-place-preserved : goal.loop-place-preserved
loop-place-preserved c =
    let old = c.args.self.now in
    let now = c.loop-place.self in
    let h = c.loop-place.invariant in
    let column_size : unsigned_abs (entry now c.args.column) < 2 ^ 89 = subst (λ (n : ℤ). unsigned_abs n < 2 ^ 89) (sym h.column_kept) (c.requires.sizes c.args.column) in
    let place_size : unsigned_abs (entry now c.loop-place.place) < 2 ^ 89 = subst (λ (n : ℤ). unsigned_abs n < 2 ^ 89) (sym (h.rest c.loop-place.place (omega arith))) (c.requires.sizes c.loop-place.place) in
    elim c.if-place-column.branch [
      | then-place-column w ↦
          left_along c.args.column old now w.set.new.self c.if-place-column.self c.loop-place.place _ w.self-is w.set.ensures
          (negated_back w.with_sign-number.result w.get.result w.get-then-place-column.result (entry now c.args.column) (entry now c.loop-place.place) w.with_sign-number.ensures w.get.ensures w.get-then-place-column.ensures column_size place_size)
          h w.if-place-column.true (omega arith)
      | else-place-column w ↦ subst (λ (next : List ℤ). IsLeftTo c.args.column old next (c.loop-place.place + 1)) (sym w.self-is) (left_past_column _ _ _ _ h (omega arith))
    ]
