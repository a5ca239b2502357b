use Rattle.std.proofs.Common.{◌≡◌, ◌<◌, ◌≤◌, ◌^◌, ◌∙◌, ap, ap₂, sym, subst, length, get_or, arith, ℤ, pos, unsigned_abs, ◌+ℤ◌, ◌*ℤ◌, to_z}
use mir.Syntax.{w8, w128}
use Rattle.std.proofs.lemmas.Int.{fits_signed_from_abs, to_z-of_z}
use Rattle.std.proofs.lemmas.List.{take_all}
use Rattle.row_laws.specs.Rows.{dot}
use Rattle.row_laws.proofs.RowLemmas.{dot-take_more}
use Rattle.criteria_model.proofs.DotLemmas.{term_fits, next_sum_fits, next_sum_size, total_is}
use Rattle.criteria_model.proofs.vectors.Vector.dot.Goals as goal

-- the two lists are as long
same_len : (c : goal.After-from) → length c.as_slice-factors.result.now ≡ length c.as_slice-values.result.now
same_len c = ap length c.as_slice-factors.ensures.value ∙ c.requires ∙ sym (ap length c.as_slice-values.ensures.value)

value_size : (c : goal.After-from) → unsigned_abs (get_or c.as_slice-values.result.now c.loop-place.place (pos 0)) < 2 ^ 96
value_size c = c.as_slice-values.ensures.range.within c.loop-place.place (pos 0) (omega arith)

factor_is : (c : goal.After-from) → c.from.result ≡ get_or c.as_slice-factors.result.now c.loop-place.place (pos 0)
factor_is c =
    let f = c.as_slice-factors.ensures.range.within c.loop-place.place (pos 0) (omega (arith, same_len c)) in
    c.from.ensures ∙ to_z-of_z w8 _ (fits_signed_from_abs w8 (get_or c.as_slice-factors.result.now c.loop-place.place (pos 0)) (omega (arith, f)))

factor_size : (c : goal.After-from) → unsigned_abs c.from.result ≤ 1
factor_size c =
    let P : ℤ → Type 0 = λ x. unsigned_abs x ≤ 1 in
    subst P (sym (factor_is c)) (c.as_slice-factors.ensures.range.within c.loop-place.place (pos 0) (omega (arith, same_len c)))

pub overflow_mul-sum : goal.overflow_mul-sum
overflow_mul-sum c = term_fits (get_or c.as_slice-values.result.now c.loop-place.place (pos 0)) c.from.result (value_size c) (factor_size c)

pub overflow_add-sum : goal.overflow_add-sum
overflow_add-sum c =
    next_sum_fits c.loop-place.place (to_z w128 c.loop-place.sum-bits) (get_or c.as_slice-values.result.now c.loop-place.place (pos 0)) c.from.result (omega (arith, c.as_slice-values.ensures.range.most)) c.loop-place.invariant.size (value_size c) (factor_size c)

pub loop-place-preserved : goal.loop-place-preserved
loop-place-preserved c =
    let total = total_is c.loop-place.place (to_z w128 c.loop-place.sum-bits) (get_or c.as_slice-values.result.now c.loop-place.place (pos 0)) c.from.result (omega (arith, c.as_slice-values.ensures.range.most)) c.loop-place.invariant.size (value_size c) (factor_size c) in
    record {
      sum = total
          ∙ ap₂ (λ s f. s +ℤ get_or c.as_slice-values.result.now c.loop-place.place (pos 0) *ℤ f) c.loop-place.invariant.sum (factor_is c)
          ∙ sym (dot-take_more c.as_slice-values.result.now c.as_slice-factors.result.now c.loop-place.place (omega arith) (same_len c));
      size = rw total (next_sum_size c.loop-place.place (to_z w128 c.loop-place.sum-bits) (get_or c.as_slice-values.result.now c.loop-place.place (pos 0)) c.from.result c.loop-place.invariant.size (value_size c) (factor_size c));
    }

pub returns : goal.returns
returns c =
    let e : c.loop-place.place ≡ length c.as_slice-values.result.now = omega arith in
    let same : length c.as_slice-factors.result.now ≡ length c.as_slice-values.result.now = ap length c.as_slice-factors.ensures.value ∙ c.requires ∙ sym (ap length c.as_slice-values.ensures.value) in
    record {
      value = c.loop-place.invariant.sum
          ∙ ap₂ dot (take_all c.loop-place.place c.as_slice-values.result.now (omega arith)) (take_all c.loop-place.place c.as_slice-factors.result.now (omega arith))
          ∙ ap₂ dot c.as_slice-values.ensures.value c.as_slice-factors.ensures.value;
      range = omega (arith, c.loop-place.invariant.size, c.as_slice-values.ensures.range.most);
    }
