use Rattle.std.proofs.Common.{◌≡◌, ◌∙◌, ◌<◌, ◌^◌, ℤ, pos, to_z, of_z, unsigned_abs, ◌*ℤ◌, ap, subst, refl, arith}
use Rattle.std.specs.Int.{w128}
use Rattle.wide_step.specs.Divided.{IsDivided}
use Rattle.row_laws.proofs.Integers.{read_back}
use Rattle.wide_step.proofs.DividedLemmas.{signed_difference}
use Rattle.wide_step.proofs.wide_quotient.Goals as goal

product_back : (a b : ℤ) → unsigned_abs a < 2 ^ 120 → unsigned_abs b < 2 ^ 120 → to_z w128 (of_z w128 a) *ℤ to_z w128 (of_z w128 b) ≡ a *ℤ b
product_back a b h k = rw (read_back w128 a (omega arith), read_back w128 b (omega arith)) refl

result_is : (c : goal.After-cast_signed) → to_z w128 (of_z w128 c.cast_signed.result) ≡ c.requires.exact.quotient
result_is c =
    let first = subst (λ (z : ℤ). IsDivided z c.args.divisor c.signed_product-first.result) (product_back c.args.a c.args.b c.requires.a_size c.requires.b_size) c.signed_product-first.ensures in
    let second = subst (λ (z : ℤ). IsDivided z c.args.divisor c.signed_product-second.result) (product_back c.args.c c.args.d c.requires.c_size c.requires.d_size) c.signed_product-second.ensures in
    let value = signed_difference c.requires.exact.quotient (c.args.a *ℤ c.args.b) (c.args.c *ℤ c.args.d) c.args.divisor c.signed_product-first.result c.signed_product-second.result c.requires.divisor c.requires.exact.size (omega arith) (omega arith) first second c.requires.exact.exact in
    ap (λ (z : ℤ). to_z w128 (of_z w128 z)) (c.cast_signed.ensures ∙ value)
    ∙ read_back w128 c.requires.exact.quotient (omega (arith, c.requires.exact.size))

pub returns-clause-quotient : goal.returns-clause-quotient
returns-clause-quotient c = ap (λ (z : ℤ). z *ℤ pos c.args.divisor) (result_is c) ∙ c.requires.exact.exact

pub returns-clause-size : goal.returns-clause-size
returns-clause-size c = rw (result_is c) c.requires.exact.size
