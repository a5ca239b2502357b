use Rattle.std.proofs.Common.{◌≡◌, ◌∙◌, ◌^◌, ℤ, ◌-ℤ◌, ◌*ℤ◌, to_z, of_z, ap, sym, arith}
use Rattle.std.specs.Int.{w128}
use Rattle.row_laws.proofs.Integers.{read_back}
use Rattle.wide_step.proofs.Integers.{difference_back, difference_fits, products_difference, products_back, quotient_size}
use Rattle.wide_step.proofs.divisor.small_step.Goals as goal

pub overflow_sub-small_product : goal.overflow_sub-small_product
overflow_sub-small_product c = difference_fits w128 c.small_product.result c.small_product-2.result (omega (arith, c.small_product.ensures.size, c.small_product-2.ensures.size))

pub returns : goal.returns
returns c number quotient has some exact =
    let p = c.small_product.result in
    let r = c.small_product-2.result in
    let p_size = c.small_product.ensures.size in
    let r_size = c.small_product-2.ensures.size in
    let is : p -ℤ r ≡ c.args.a *ℤ c.args.b -ℤ c.args.c *ℤ c.args.d =
    products_difference p r _ _ c.small_product.ensures.product c.small_product-2.ensures.product
    ∙ products_back w128 c.args.a c.args.b c.args.c c.args.d (omega (arith, c.requires.small.a_size)) (omega (arith, c.requires.small.b_size)) (omega (arith, c.requires.small.c_size)) (omega (arith, c.requires.small.d_size)) in
    let size = quotient_size quotient number p r _ (2 ^ 126) some exact is (omega arith) in
    let value : c.long_quotient.result ≡ quotient =
    c.long_quotient.ensures number quotient has (exact ∙ sym is ∙ sym (difference_back w128 p r (omega arith))) (omega arith) in
    ap (λ (z : ℤ). to_z w128 (of_z w128 z)) value ∙ read_back w128 quotient (omega arith)
