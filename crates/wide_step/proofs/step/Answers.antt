use Rattle.std.proofs.Common.{◌≡◌, ◌∙◌, ◌<◌, ◌^◌, ℤ, pos, neg_ℤ, to_z, of_z, unsigned_abs, ◌*ℤ◌, ◌-ℤ◌, ap, sym, arith, true}
use Rattle.std.specs.Int.{w128}
use Rattle.std.proofs.lemmas.Int.{ints}
use Rattle.wide_step.specs.Quotient.{HasQuotient}
use Rattle.row_laws.proofs.Integers.{read_back, neg-mul}
use Rattle.wide_step.proofs.Integers.{products_back, has_quotient_along}
use Rattle.std.proofs.Math.IntN.{*ℤ_comm}
use lib.Signed.{lt_z}
use Rattle.wide_step.proofs.step.Goals as goal

-- with the divisor's sign changed the products change places
turned : (q e p r : ℤ) → q *ℤ e ≡ p -ℤ r → q *ℤ neg_ℤ e ≡ r -ℤ p
turned q e p r h = omega (arith, ints, *ℤ_comm q (neg_ℤ e), neg-mul e q, *ℤ_comm e q)

abs_of_negative : (e : ℤ) → lt_z e (pos 0) ≡ true → pos (unsigned_abs e) ≡ neg_ℤ e
abs_of_negative e h = omega (arith, ints)

abs_is : (c : goal.After-unsigned_abs) → pos c.unsigned_abs.result ≡ neg_ℤ c.args.e
abs_is c =
    let back = read_back w128 c.args.e (omega arith) in
    ap pos (c.unsigned_abs.ensures.value ∙ ap unsigned_abs back) ∙ abs_of_negative c.args.e (rw back at c.if-e-lt0.true)

turned_back : (q e p r : ℤ) → q *ℤ neg_ℤ e ≡ r -ℤ p → q *ℤ e ≡ p -ℤ r
turned_back q e p r h = omega (arith, ints, *ℤ_comm q (neg_ℤ e), neg-mul e q, *ℤ_comm e q)

swapped_back : (a b c d : ℤ) → unsigned_abs a < 2 ^ 120 → unsigned_abs b < 2 ^ 120 → unsigned_abs c < 2 ^ 120 → unsigned_abs d < 2 ^ 120 → to_z w128 (of_z w128 a) *ℤ to_z w128 (of_z w128 b) -ℤ to_z w128 (of_z w128 c) *ℤ to_z w128 (of_z w128 d) ≡ a *ℤ b -ℤ c *ℤ d
swapped_back a b c d h k l m = products_back w128 a b c d (omega arith) (omega arith) (omega arith) (omega arith)

pub wide_quotient-requires-clause-exact : goal.wide_quotient-requires-clause-exact
wide_quotient-requires-clause-exact c =
    let w = c.requires.exact in
    let p = c.args.a *ℤ c.args.b in
    let r = c.args.c *ℤ c.args.d in
    let there : HasQuotient (r -ℤ p) (neg_ℤ c.args.e) = record { quotient = w.quotient; exact = turned w.quotient c.args.e p r w.exact; size = w.size } in
    has_quotient_along (r -ℤ p) _ (neg_ℤ c.args.e) _ (swapped_back c.args.c c.args.d c.args.a c.args.b c.requires.c_size c.requires.d_size c.requires.a_size c.requires.b_size) (abs_is c) there

quotient_turned : (q x f e p r : ℤ) → unsigned_abs q < 2 ^ 126 → x ≡ r -ℤ p → f ≡ neg_ℤ e → q *ℤ f ≡ x → to_z w128 (of_z w128 q) *ℤ e ≡ p -ℤ r
quotient_turned q x f e p r q_size h k l =
    rw (read_back w128 q (omega arith)) (turned_back q e p r (ap (λ (z : ℤ). q *ℤ z) (sym k) ∙ l ∙ h))

pub returns-then-e-lt0-clause-quotient : goal.returns-then-e-lt0-clause-quotient
returns-then-e-lt0-clause-quotient c =
    let back = read_back w128 c.args.e (omega arith) in
    let size = ap pos (c.unsigned_abs.ensures.value ∙ ap unsigned_abs back) ∙ abs_of_negative c.args.e (rw back at c.if-e-lt0.true) in
    quotient_turned c.wide_quotient.result _ _ c.args.e (c.args.a *ℤ c.args.b) (c.args.c *ℤ c.args.d) c.wide_quotient.ensures.size
    (swapped_back c.args.c c.args.d c.args.a c.args.b c.requires.c_size c.requires.d_size c.requires.a_size c.requires.b_size)
    size c.wide_quotient.ensures.quotient
