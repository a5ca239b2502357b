use Rattle.std.proofs.Common.{◌≡◌, ◌∙◌, ◌^◌, ℤ, ◌-ℤ◌, ◌*ℤ◌, to_z, of_z, ap, sym, arith}
use Rattle.std.specs.Int.{w64, w128}
use Rattle.row_laws.proofs.Integers.{read_back}
use Rattle.wide_step.proofs.Integers.{difference_back, difference_fits, products_difference, products_back, quotient_size}
use Rattle.wide_step.proofs.divisor.short_step.Goals as goal

pub overflow_sub-short_product : goal.overflow_sub-short_product
overflow_sub-short_product c = difference_fits w64 c.short_product.result c.short_product-2.result (omega (arith, c.short_product.ensures.size, c.short_product-2.ensures.size))

pub returns : goal.returns
returns c number quotient has some exact =
    let p = c.short_product.result in
    let r = c.short_product-2.result in
    let p_size = c.short_product.ensures.size in
    let r_size = c.short_product-2.ensures.size in
    let is : p -ℤ r ≡ c.args.a *ℤ c.args.b -ℤ c.args.c *ℤ c.args.d =
    products_difference p r _ _ c.short_product.ensures.product c.short_product-2.ensures.product
    ∙ products_back w128 c.args.a c.args.b c.args.c c.args.d (omega (arith, c.requires.short.a_size)) (omega (arith, c.requires.short.b_size)) (omega (arith, c.requires.short.c_size)) (omega (arith, c.requires.short.d_size)) in
    let size = quotient_size quotient number p r _ (2 ^ 63) some exact is (omega arith) in
    let value : c.short_quotient.result ≡ quotient =
    c.short_quotient.ensures number quotient has (exact ∙ sym is ∙ sym (difference_back w64 p r (omega arith))) size in
    ap (λ (z : ℤ). to_z w128 (of_z w128 z)) (c.from.ensures ∙ ap (λ (z : ℤ). to_z w64 (of_z w64 z)) value ∙ read_back w64 quotient size)
    ∙ read_back w128 quotient (omega arith)
