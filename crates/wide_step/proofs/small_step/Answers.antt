use Rattle.std.proofs.Common.{◌≡◌, ◌∙◌, ◌<◌, ◌^◌, ℤ, to_z, of_z, unsigned_abs, ◌*ℤ◌, ◌-ℤ◌, FitsSigned, refl, sym, arith}
use Rattle.std.specs.Int.{w128}
use Rattle.std.proofs.lemmas.Int.{ints, fits_signed_from_abs}
use Rattle.row_laws.proofs.Integers.{read_back}
use Rattle.wide_step.proofs.Integers.{products_back, has_quotient_along}
use Rattle.wide_step.proofs.small_step.Goals as goal

difference_size : (x y : ℤ) → unsigned_abs x < 2 ^ 124 → unsigned_abs y < 2 ^ 124 → unsigned_abs (x -ℤ y) < 2 ^ 125
difference_size x y h k = omega (arith, ints)

fits_difference : (x y : ℤ) → unsigned_abs x < 2 ^ 124 → unsigned_abs y < 2 ^ 124 → FitsSigned w128 (to_z w128 (of_z w128 x) -ℤ to_z w128 (of_z w128 y))
fits_difference x y h k =
    rw (read_back w128 x (omega arith), read_back w128 y (omega arith))
    (fits_signed_from_abs w128 (x -ℤ y) (omega (arith, difference_size x y h k)))

difference_back : (x y : ℤ) → unsigned_abs x < 2 ^ 124 → unsigned_abs y < 2 ^ 124 → to_z w128 (of_z w128 (to_z w128 (of_z w128 x) -ℤ to_z w128 (of_z w128 y))) ≡ x -ℤ y
difference_back x y h k =
    rw (read_back w128 x (omega arith), read_back w128 y (omega arith))
    (read_back w128 (x -ℤ y) (omega (arith, difference_size x y h k)))

products_difference : (x y p q : ℤ) → x ≡ p → y ≡ q → x -ℤ y ≡ p -ℤ q
products_difference x y p q e f = rw (e, f) refl

pub overflow_sub-small_product : goal.overflow_sub-small_product
overflow_sub-small_product c =
    fits_difference c.small_product.result c.small_product-2.result c.small_product.ensures.size c.small_product-2.ensures.size

pub exact_quotient-requires-clause-dividend_size :
    goal.exact_quotient-requires-clause-dividend_size
exact_quotient-requires-clause-dividend_size c =
    rw (difference_back c.small_product.result c.small_product-2.result c.small_product.ensures.size c.small_product-2.ensures.size)
    (omega (arith, difference_size c.small_product.result c.small_product-2.result c.small_product.ensures.size c.small_product-2.ensures.size))

dividend_is : (c : goal.After-small_product-2) → to_z w128 (of_z w128 (to_z w128 (of_z w128 c.small_product.result) -ℤ to_z w128 (of_z w128 c.small_product-2.result))) ≡ c.args.a *ℤ c.args.b -ℤ c.args.c *ℤ c.args.d
dividend_is c =
    difference_back c.small_product.result c.small_product-2.result c.small_product.ensures.size c.small_product-2.ensures.size
    ∙ products_difference c.small_product.result c.small_product-2.result (to_z w128 (of_z w128 c.args.a) *ℤ to_z w128 (of_z w128 c.args.b)) (to_z w128 (of_z w128 c.args.c) *ℤ to_z w128 (of_z w128 c.args.d)) c.small_product.ensures.product c.small_product-2.ensures.product
    ∙ products_back w128 c.args.a c.args.b c.args.c c.args.d (omega (arith, c.requires.small.a_size)) (omega (arith, c.requires.small.b_size)) (omega (arith, c.requires.small.c_size)) (omega (arith, c.requires.small.d_size))

divisor_is : (e : ℤ) → unsigned_abs e < 2 ^ 120 → to_z w128 (of_z w128 e) ≡ e
divisor_is e h = read_back w128 e (omega arith)

pub exact_quotient-requires-clause-exact : goal.exact_quotient-requires-clause-exact
exact_quotient-requires-clause-exact c =
    has_quotient_along (c.args.a *ℤ c.args.b -ℤ c.args.c *ℤ c.args.d) _ c.args.e _ (dividend_is c) (divisor_is c.args.e c.requires.e_size) c.requires.exact

quotient_along : (q x y e f : ℤ) → unsigned_abs q < 2 ^ 126 → x ≡ y → f ≡ e → q *ℤ f ≡ x → to_z w128 (of_z w128 q) *ℤ e ≡ y
quotient_along q x y e f q_size h k l = rw (read_back w128 q (omega arith), sym k, sym h) l

pub returns-clause-quotient : goal.returns-clause-quotient
returns-clause-quotient c =
    let dividend = difference_back c.small_product.result c.small_product-2.result c.small_product.ensures.size c.small_product-2.ensures.size
    ∙ products_difference c.small_product.result c.small_product-2.result (to_z w128 (of_z w128 c.args.a) *ℤ to_z w128 (of_z w128 c.args.b)) (to_z w128 (of_z w128 c.args.c) *ℤ to_z w128 (of_z w128 c.args.d)) c.small_product.ensures.product c.small_product-2.ensures.product
    ∙ products_back w128 c.args.a c.args.b c.args.c c.args.d (omega (arith, c.requires.small.a_size)) (omega (arith, c.requires.small.b_size)) (omega (arith, c.requires.small.c_size)) (omega (arith, c.requires.small.d_size)) in
    quotient_along c.exact_quotient.result _ (c.args.a *ℤ c.args.b -ℤ c.args.c *ℤ c.args.d) c.args.e _ c.exact_quotient.ensures.size dividend (divisor_is c.args.e c.requires.e_size) c.exact_quotient.ensures.quotient
