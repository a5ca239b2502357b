use Rattle.std.proofs.Common.{◌≡◌, ℤ, pos, ◌≤ℤ◌, length, get_or, take, to_z, of_z, sym, ap, subst, ◌∙◌, arith}
use mir.Syntax.{w128}
use Rattle.std.proofs.lemmas.List.{length-set}
use Rattle.row_laws.specs.Rows.{times}
use Rattle.simplex.proofs.Sizes.{kept}
use Rattle.simplex.proofs.Quotients.{quotient_fits, quotient_is, not_zero_bits, quotient_step, multiple_is, multiple_is_vector}
use Rattle.simplex.proofs.divisor.divided.Goals as goal

pub nonzero_div-cells : goal.nonzero_div-cells
nonzero_div-cells c = (
  not_zero_bits c.args.divisor c.requires.positive,
  quotient_fits (get_or c.args.values.now c.loop-place.place (pos 0)) c.args.divisor (c.requires.vector.within c.loop-place.place (pos 0) (omega arith)) c.requires.positive c.requires.size
      (c.requires.divides c.loop-place.place (pos 0) (omega arith)),
)

pub loop-place-preserved : goal.loop-place-preserved
loop-place-preserved c = record {
  len = length-set c.loop-place.cells c.loop-place.place _ ∙ c.loop-place.invariant.len;
  each = quotient_step c.args.values.now c.loop-place.cells (to_z w128 (of_z w128 c.args.divisor)) _ c.loop-place.place (omega (arith, c.requires.vector.most))
      (quotient_is (get_or c.args.values.now c.loop-place.place (pos 0)) c.args.divisor (c.requires.vector.within c.loop-place.place (pos 0) (omega arith)) c.requires.positive c.requires.size
      (c.requires.divides c.loop-place.place (pos 0) (omega arith)))
      c.loop-place.invariant.each;
}

pub of-requires : goal.of-requires
of-requires c =
    let g : to_z w128 (of_z w128 c.args.divisor) ≡ c.args.divisor = kept c.args.divisor c.requires.size in
    multiple_is_vector c.args.values.now (take (length c.args.values.now) c.loop-place.cells) (to_z w128 (of_z w128 c.args.divisor)) c.requires.vector (subst (λ (n : ℤ). pos 1 ≤ℤ n) (sym g) c.requires.positive)
    (multiple_is c.args.values.now c.loop-place.cells (to_z w128 (of_z w128 c.args.divisor)) (omega arith) c.requires.vector.most (λ k lt. c.loop-place.invariant.each k (omega arith)))

pub returns : goal.returns
returns c =
    let g : to_z w128 (of_z w128 c.args.divisor) ≡ c.args.divisor = kept c.args.divisor c.requires.size in
    multiple_is c.args.values.now c.loop-place.cells (to_z w128 (of_z w128 c.args.divisor)) (omega arith) c.requires.vector.most (λ k lt. c.loop-place.invariant.each k (omega arith))
    ∙ ap (λ (n : ℤ). times n (take (length c.args.values.now) c.loop-place.cells)) g ∙ ap (times c.args.divisor) (sym c.of.ensures)
