use Rattle.std.proofs.Common.{◌≡◌, ◌≤◌, pos, length, get_or, unsigned_abs, sym, ap, ap₂, subst, ◌∙◌, arith}
use mir.Syntax.{w8}
use Rattle.std.proofs.lemmas.Int.{fits_signed_from_abs, to_z-of_z}
use Rattle.std.proofs.lemmas.List.{length-set}
use Rattle.criteria_model.specs.Lists.{IsVector}
use Rattle.row_laws.specs.Rows.{minus}
use Rattle.decider.proofs.OneAnswers.{difference_kept, difference_step, differences_are, differences_small}
use Rattle.decider.proofs.one_answer.excess.Goals as goal

pub loop-place-preserved : goal.loop-place-preserved
loop-place-preserved c =
    let long : length c.as_slice-others.result.now ≡ length c.as_slice-items.result.now = ap length c.as_slice-others.ensures.value ∙ sym c.requires
    ∙ sym (ap length c.as_slice-items.ensures.value) in
    let x = get_or c.as_slice-items.result.now c.loop-place.place (pos 0) in
    let y = get_or c.as_slice-others.result.now c.loop-place.place (pos 0) in
    let small : unsigned_abs x ≤ 1 = c.as_slice-items.ensures.range.within c.loop-place.place (pos 0) (omega arith) in
    let also : unsigned_abs y ≤ 1 = c.as_slice-others.ensures.range.within c.loop-place.place (pos 0) (omega arith) in
    record {
      len = length-set c.loop-place.cells c.loop-place.place _ ∙ c.loop-place.invariant.len;
      each = difference_step c.as_slice-items.result.now c.as_slice-others.result.now c.loop-place.cells c.loop-place.place _ (omega (arith, c.as_slice-items.ensures.range.most))
          (difference_kept x y c.from.result c.from-in-loop-place.result (c.from.ensures ∙ to_z-of_z w8 x (fits_signed_from_abs w8 x (omega arith)))
          (c.from-in-loop-place.ensures ∙ to_z-of_z w8 y (fits_signed_from_abs w8 y (omega arith))) small also)
          c.loop-place.invariant.each;
    }

pub of-requires : goal.of-requires
of-requires c =
    let same : length c.as_slice-items.result.now ≡ length c.as_slice-others.result.now = ap length c.as_slice-items.ensures.value ∙ c.requires ∙ sym (ap length c.as_slice-others.ensures.value) in
    subst IsVector (sym (differences_are c.as_slice-items.result.now c.as_slice-others.result.now c.loop-place.cells same (omega (arith, c.as_slice-items.ensures.range.most))
    (λ k l. c.loop-place.invariant.each k (omega arith))))
    (differences_small c.as_slice-items.result.now c.as_slice-others.result.now same c.as_slice-items.ensures.range c.as_slice-others.ensures.range)

pub returns-clause-value : goal.returns-clause-value
returns-clause-value c =
    let same : length c.as_slice-items.result.now ≡ length c.as_slice-others.result.now = ap length c.as_slice-items.ensures.value ∙ c.requires ∙ sym (ap length c.as_slice-others.ensures.value) in
    c.of.ensures
    ∙ differences_are c.as_slice-items.result.now c.as_slice-others.result.now c.loop-place.cells same (omega (arith, c.as_slice-items.ensures.range.most))
    (λ k l. c.loop-place.invariant.each k (omega arith))
    ∙ ap₂ minus c.as_slice-items.ensures.value c.as_slice-others.ensures.value
