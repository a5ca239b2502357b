use Rattle.std.proofs.Common.{arith, ◌≡◌, ◌∙◌, ◌<◌, ◌^◌, ℤ, ◌*ℤ◌, unsigned_abs, to_z, of_z, ap}
use Rattle.std.specs.Int.{w128, w64}
use Rattle.row_laws.proofs.Integers.{read_back}
use Rattle.wide_step.proofs.Integers.{abs-mul-lt}
use Rattle.wide_step.proofs.small_product.Goals as goal

narrow_is : (a x : ℤ) → unsigned_abs a < 2 ^ 62 → x ≡ to_z w64 (of_z w64 (to_z w128 (of_z w128 a))) → x ≡ a
narrow_is a x h e = e ∙ ap (λ (z : ℤ). to_z w64 (of_z w64 z)) (read_back w128 a (omega arith)) ∙ read_back w64 a (omega arith)

product_size : (a b : ℤ) → unsigned_abs a < 2 ^ 62 → unsigned_abs b < 2 ^ 62 → unsigned_abs (a *ℤ b) < 2 ^ 124
product_size a b h k = omega (arith, abs-mul-lt a b (2 ^ 62) (2 ^ 62) h k)

product_is : (a b x y : ℤ) → unsigned_abs a < 2 ^ 62 → unsigned_abs b < 2 ^ 62 → x ≡ a → y ≡ b → to_z w128 (of_z w128 (to_z w128 (of_z w128 x) *ℤ to_z w128 (of_z w128 y))) ≡ a *ℤ b
product_is a b x y h k e f =
    rw (e, f, read_back w128 a (omega arith), read_back w128 b (omega arith))
    (read_back w128 (a *ℤ b) (omega (arith, product_size a b h k)))

result_is : (c : goal.After-from-2) → to_z w128 (of_z w128 (to_z w128 (of_z w128 c.from.result) *ℤ to_z w128 (of_z w128 c.from-2.result))) ≡ c.args.a *ℤ c.args.b
result_is c =
    product_is c.args.a c.args.b c.from.result c.from-2.result c.requires.a_size c.requires.b_size
    (narrow_is c.args.a c.from.result c.requires.a_size c.from.ensures) (narrow_is c.args.b c.from-2.result c.requires.b_size c.from-2.ensures)

pub returns-clause-product : goal.returns-clause-product
returns-clause-product c = result_is c

pub returns-clause-size : goal.returns-clause-size
returns-clause-size c = rw (result_is c) (product_size c.args.a c.args.b c.requires.a_size c.requires.b_size)
