use Rattle.std.proofs.Common.{◌≡◌, ◌∙◌, ◌*◌, ◌<◌, ◌^◌, ℤ, pos, negsuc, ◌*ℤ◌, unsigned_abs, to_z, of_z, FitsSigned, sym, ap, subst, arith}
use Rattle.std.proofs.lemmas.Int.{to_z-of_z, to_z_pos}
use Rattle.std.specs.Int.{w64, w128, int_wrap}
use Rattle.wide_step.specs.Inverse.{IsInverseUpTo}
use Rattle.row_laws.proofs.Integers.{read_back}
use Rattle.wide_step.proofs.Inverses.{short_up_to, long_turn, inverse_is}
use Rattle.wide_step.proofs.inverse.Inverse.of.Goals as goal

-- the round on 128 bits makes an inverse of one on 64 bits
lengthened : (odd short x y long : ℤ) → unsigned_abs odd < 2 ^ 63 → unsigned_abs short < 2 ^ 64 → int_wrap w64 (odd *ℤ short) ≡ pos 1 → x ≡ odd → y ≡ short
    → (IsInverseUpTo w128 (to_z w128 (of_z w128 x)) (to_z w128 (of_z w128 y)) (2 ^ 64) → IsInverseUpTo w128 (to_z w128 (of_z w128 x)) long (2 ^ 64 * 2 ^ 64))
    → int_wrap w128 (odd *ℤ long) ≡ pos 1
lengthened odd short x y long odd_size short_size is e f round =
    let x_is = ap (λ (z : ℤ). to_z w128 (of_z w128 z)) e ∙ read_back w128 odd (omega arith) in
    let y_is = ap (λ (z : ℤ). to_z w128 (of_z w128 z)) f ∙ read_back w128 short (omega arith) in
    inverse_is w128 odd long long_turn (omega arith)
    (subst (λ (z : ℤ). IsInverseUpTo w128 z long (2 ^ 64 * 2 ^ 64)) x_is
    (round (subst (λ (z : ℤ). IsInverseUpTo w128 z (to_z w128 (of_z w128 y)) (2 ^ 64)) (sym x_is)
    (subst (λ (z : ℤ). IsInverseUpTo w128 odd z (2 ^ 64)) (sym y_is) (short_up_to odd short is)))))

fits_size : (z : ℤ) → FitsSigned w64 z → unsigned_abs z < 2 ^ 64
fits_size (pos n) h = omega (arith, h.sfits)
fits_size (negsuc n) h = omega (arith, h.sfits)

pub returns : goal.returns
returns c =
    let odd = c.odd_part-odd.result.0 in
    let short = c.inverse_of-short.result in
    let long = c.refined_long-long.result in
    let short_fits : FitsSigned w64 short = record { sfits = c.inverse_of-short.type_inv } in
    let long_fits : FitsSigned w128 long = record { sfits = c.refined_long-long.type_inv } in
    let short_back = to_z-of_z w64 short short_fits in
    let is : int_wrap w64 (pos odd *ℤ short) ≡ pos 1 = ap (λ (z : ℤ). int_wrap w64 (z *ℤ short)) (sym (to_z_pos w64 odd (omega (arith, c.odd_part-odd.ensures.size)))) ∙ c.inverse_of-short.ensures in
    record {
      odd = pos odd;
      twos_below = c.odd_part-odd.ensures.twos;
      product = ap pos c.odd_part-odd.ensures.product;
      short_is = ap (λ (z : ℤ). int_wrap w64 (pos odd *ℤ z)) short_back ∙ is;
      long_is =
          ap (λ (z : ℤ). int_wrap w128 (pos odd *ℤ z)) (to_z-of_z w128 long long_fits)
          ∙ lengthened (pos odd) short c.from.result c.from-2.result long (omega (arith, c.odd_part-odd.ensures.size)) (fits_size short short_fits) is c.from.ensures (c.from-2.ensures ∙ short_back) (c.refined_long-long.ensures (2 ^ 64));
    }
