use Rattle.std.proofs.Common.{rules, ◌≡◌, ◌∙◌, ◌<◌, ◌^◌, ℤ, pos, ◌*ℤ◌, ◌-ℤ◌, ◌≤ℤ◌, unsigned_abs, to_z, of_z, ap, sym, arith}
use Rattle.std.proofs.lemmas.Int.{ints}
use Rattle.std.specs.Int.{w128}
use Rattle.wide_step.specs.Quotient.{HasQuotient}
use Rattle.wide_step.specs.Inverse.{HasInverse}
use Rattle.row_laws.proofs.Integers.{read_back}
use Rattle.wide_step.proofs.Integers.{products_back}
use Rattle.wide_step.proofs.divisor.Divisor.step.Goals as goal
use Rattle.wide_step.proofs.divisor.Divisor.step.Goals.{After-short_step, After-small_step}

positive_some : (e : ℤ) → pos 1 ≤ℤ e → 0 < unsigned_abs e
positive_some e h = omega (arith, ints)

-- a step that gives any quotient gives the one that there is
stepped : (a b c d number view result : ℤ) → unsigned_abs a < 2 ^ 120 → unsigned_abs b < 2 ^ 120 → unsigned_abs c < 2 ^ 120 → unsigned_abs d < 2 ^ 120 → number ≡ view
    → (h : HasQuotient (a *ℤ b -ℤ c *ℤ d) view)
    → ((q : ℤ) → q *ℤ number ≡ to_z w128 (of_z w128 a) *ℤ to_z w128 (of_z w128 b) -ℤ to_z w128 (of_z w128 c) *ℤ to_z w128 (of_z w128 d) → result ≡ q)
    → to_z w128 (of_z w128 result) ≡ h.quotient
stepped a b c d number view result a_size b_size c_size d_size is h gives =
    let back = products_back w128 a b c d (omega arith) (omega arith) (omega arith) (omega arith) in
    ap (λ (z : ℤ). to_z w128 (of_z w128 z)) (gives h.quotient (ap (λ (e : ℤ). h.quotient *ℤ e) is ∙ h.exact ∙ sym back))
    ∙ read_back w128 h.quotient (omega (arith, h.size))

short_is : (c : goal.After-short_step) → to_z w128 (of_z w128 c.short_step.result) ≡ c.requires.exact.quotient
short_is c =
    let number = c.self.inside.number in
    let has : HasInverse number c.in-Some.inverse.twos c.in-Some.inverse.short c.in-Some.inverse.long = search rules in
    stepped c.args.a c.args.b c.args.c c.args.d number c.args.self.now c.short_step.result c.requires.a_size c.requires.b_size c.requires.c_size c.requires.d_size c.self.view_is c.requires.exact
    (λ q exact. c.short_step.ensures number q has (positive_some number c.self.invariant.positive) exact)

small_is : (c : goal.After-small_step) → to_z w128 (of_z w128 c.small_step.result) ≡ c.requires.exact.quotient
small_is c =
    let number = c.self.inside.number in
    let has : HasInverse number c.in-Some.inverse.twos c.in-Some.inverse.short c.in-Some.inverse.long = search rules in
    stepped c.args.a c.args.b c.args.c c.args.d number c.args.self.now c.small_step.result c.requires.a_size c.requires.b_size c.requires.c_size c.requires.d_size c.self.view_is c.requires.exact
    (λ q exact. c.small_step.ensures number q has (positive_some number c.self.invariant.positive) exact)

pub returns-then-are_short-clause-quotient : goal.returns-then-are_short-clause-quotient
returns-then-are_short-clause-quotient c = ap (λ (z : ℤ). z *ℤ c.args.self.now) (short_is c) ∙ c.requires.exact.exact

pub returns-then-are_short-clause-size : goal.returns-then-are_short-clause-size
returns-then-are_short-clause-size c = rw (short_is c) c.requires.exact.size

pub returns-then-are_small-clause-quotient : goal.returns-then-are_small-clause-quotient
returns-then-are_small-clause-quotient c = ap (λ (z : ℤ). z *ℤ c.args.self.now) (small_is c) ∙ c.requires.exact.exact

pub returns-then-are_small-clause-size : goal.returns-then-are_small-clause-size
returns-then-are_small-clause-size c = rw (small_is c) c.requires.exact.size

some : (e : ℤ) → unsigned_abs e < 2 ^ 120 → pos 1 ≤ℤ e → 0 < unsigned_abs (to_z w128 (of_z w128 e))
some e size h = rw (read_back w128 e (omega arith)) (positive_some e h)

pub step-requires-clause-divisor : goal.step-requires-clause-divisor
step-requires-clause-divisor c = some c.self.inside.number c.self.invariant.size c.self.invariant.positive
