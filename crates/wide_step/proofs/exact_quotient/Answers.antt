use Rattle.std.proofs.Common.{arith, ◌≡◌, ◌∙◌, ◌<◌, ◌^◌, ℕ, ℤ, ◌*ℤ◌, unsigned_abs, bit_or, to_z, of_z, ap, FitsSigned}
use Rattle.std.proofs.lemmas.Int.{ints, fits_signed_from_abs}
use Rattle.std.proofs.lemmas.Nat.{le_or_l, le_or_r}
use Rattle.std.specs.Int.{w128, w64}
use Rattle.std.specs.Int.RustNames.{int_div}
use Rattle.row_laws.proofs.Integers.{read_back}
use Rattle.wide_step.proofs.Integers.{divided_is, divided_back, factor-abs-le}
use Rattle.wide_step.proofs.exact_quotient.Goals as goal

-- a bound on the `|` of two sizes is one on each
first_size : (x : ℤ) (m n k : ℕ) → m ≡ unsigned_abs (to_z w128 (of_z w128 x)) → unsigned_abs x < 2 ^ 126 → bit_or m n < k → unsigned_abs x < k
first_size x m n k e h l = omega (arith, e ∙ ap unsigned_abs (read_back w128 x (omega arith)), le_or_l m n)

second_size : (x : ℤ) (m n k : ℕ) → n ≡ unsigned_abs (to_z w128 (of_z w128 x)) → unsigned_abs x < 2 ^ 126 → bit_or m n < k → unsigned_abs x < k
second_size x m n k e h l = omega (arith, e ∙ ap unsigned_abs (read_back w128 x (omega arith)), le_or_r m n)

dividend_small : (c : goal.Then-unsigned_abs-lt-SMALL) → unsigned_abs c.args.dividend < 2 ^ 62
dividend_small c =
    first_size c.args.dividend c.unsigned_abs.result c.unsigned_abs-else-divisor-eq1.result (2 ^ 62) c.unsigned_abs.ensures.value c.requires.dividend_size c.if-unsigned_abs-lt-SMALL.true

divisor_small : (c : goal.Then-unsigned_abs-lt-SMALL) → unsigned_abs c.args.divisor < 2 ^ 62
divisor_small c =
    second_size c.args.divisor c.unsigned_abs.result c.unsigned_abs-else-divisor-eq1.result (2 ^ 62) c.unsigned_abs-else-divisor-eq1.ensures.value (omega arith) c.if-unsigned_abs-lt-SMALL.true

fits_narrow : (x : ℤ) → unsigned_abs x < 2 ^ 62 → FitsSigned w64 (to_z w128 (of_z w128 x))
fits_narrow x h = rw (read_back w128 x (omega arith)) (fits_signed_from_abs w64 x (omega arith))

pub overflow_cast-dividend : goal.overflow_cast-dividend
overflow_cast-dividend c = fits_narrow c.args.dividend (dividend_small c)

pub overflow_cast-divisor : goal.overflow_cast-divisor
overflow_cast-divisor c = fits_narrow c.args.divisor (divisor_small c)

not_zero : (e : ℤ) → 0 < unsigned_abs e → unsigned_abs e < 2 ^ 62 → 0 < of_z w64 e
not_zero e p h = omega (arith, ints)

divides : (x e q : ℤ) → q *ℤ e ≡ x → 0 < unsigned_abs e → unsigned_abs x < 2 ^ 62 → unsigned_abs e < 2 ^ 62 → (0 < of_z w64 (to_z w128 (of_z w128 e))) × FitsSigned w64 (int_div (to_z w64 (of_z w64 (to_z w128 (of_z w128 x)))) (to_z w64 (of_z w64 (to_z w128 (of_z w128 e)))))
divides x e q h p x_size e_size =
    rw (read_back w128 x (omega arith), read_back w128 e (omega arith), read_back w64 x (omega arith), read_back w64 e (omega arith), divided_is x e q h p)
    (not_zero e p e_size, fits_signed_from_abs w64 q (omega (arith, factor-abs-le q e p, ap unsigned_abs h)))

pub nonzero_div-dividend : goal.nonzero_div-dividend
nonzero_div-dividend c =
    divides c.args.dividend c.args.divisor c.requires.exact.quotient c.requires.exact.exact c.requires.divisor (dividend_small c) (divisor_small c)

narrow_quotient : (x e q : ℤ) → q *ℤ e ≡ x → 0 < unsigned_abs e → unsigned_abs x < 2 ^ 62 → unsigned_abs e < 2 ^ 62 → to_z w64 (of_z w64 (int_div (to_z w64 (of_z w64 (to_z w128 (of_z w128 x)))) (to_z w64 (of_z w64 (to_z w128 (of_z w128 e)))))) ≡ q
narrow_quotient x e q h p x_size e_size =
    rw (read_back w128 x (omega arith), read_back w128 e (omega arith))
    (divided_back w64 x e q h p (omega arith) (omega arith))

narrow_is : (c : goal.After-from) → to_z w128 (of_z w128 c.from.result) ≡ c.requires.exact.quotient
narrow_is c =
    let dividend_size = first_size c.args.dividend c.unsigned_abs.result c.unsigned_abs-else-divisor-eq1.result (2 ^ 62) c.unsigned_abs.ensures.value c.requires.dividend_size c.if-unsigned_abs-lt-SMALL.true in
    let divisor_size = second_size c.args.divisor c.unsigned_abs.result c.unsigned_abs-else-divisor-eq1.result (2 ^ 62) c.unsigned_abs-else-divisor-eq1.ensures.value (omega arith) c.if-unsigned_abs-lt-SMALL.true in
    ap (λ (z : ℤ). to_z w128 (of_z w128 z)) (c.from.ensures ∙ narrow_quotient c.args.dividend c.args.divisor c.requires.exact.quotient c.requires.exact.exact c.requires.divisor dividend_size divisor_size)
    ∙ read_back w128 c.requires.exact.quotient (omega (arith, c.requires.exact.size))

pub returns-then-unsigned_abs-lt-SMALL-clause-quotient :
    goal.returns-then-unsigned_abs-lt-SMALL-clause-quotient
returns-then-unsigned_abs-lt-SMALL-clause-quotient c =
    ap (λ (z : ℤ). z *ℤ c.args.divisor) (narrow_is c) ∙ c.requires.exact.exact

pub returns-then-unsigned_abs-lt-SMALL-clause-size :
    goal.returns-then-unsigned_abs-lt-SMALL-clause-size
returns-then-unsigned_abs-lt-SMALL-clause-size c = rw (narrow_is c) c.requires.exact.size

wide_is : (c : goal.Else-unsigned_abs-lt-SMALL) → to_z w128 (of_z w128 (int_div (to_z w128 (of_z w128 c.args.dividend)) (to_z w128 (of_z w128 c.args.divisor)))) ≡ c.requires.exact.quotient
wide_is c =
    divided_back w128 c.args.dividend c.args.divisor c.requires.exact.quotient c.requires.exact.exact c.requires.divisor (omega arith) (omega arith)

pub returns-else-unsigned_abs-lt-SMALL-clause-quotient :
    goal.returns-else-unsigned_abs-lt-SMALL-clause-quotient
returns-else-unsigned_abs-lt-SMALL-clause-quotient c =
    ap (λ (z : ℤ). z *ℤ c.args.divisor) (wide_is c) ∙ c.requires.exact.exact

pub returns-else-unsigned_abs-lt-SMALL-clause-size :
    goal.returns-else-unsigned_abs-lt-SMALL-clause-size
returns-else-unsigned_abs-lt-SMALL-clause-size c = rw (wide_is c) c.requires.exact.size
