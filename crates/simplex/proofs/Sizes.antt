-- Sizes of a dictionary's numbers, and what a cast does to them.
use Rattle.std.proofs.Common.{◌≡◌, ℕ, ◌^◌, ◌<◌, ◌≤◌, length, ℤ, pos, neg_ℤ, ◌+ℤ◌, ◌-ℤ◌, unsigned_abs, FitsSigned, to_z, of_z, sym, ap, subst, ◌∙◌, arith}
use mir.Syntax.{w128}
use Rattle.std.proofs.lemmas.Int.{fits_signed_from_abs, to_z-of_z}
use Rattle.minors.proofs.Laws.{bound_is_small}
use Rattle.row_laws.proofs.Integers.{unsigned_abs-add, unsigned_abs-neg, sums}
use Rattle.fraction_free.specs.Dictionary.{DictionaryView, IsDictionary, entry_in}

-- a number below 2^126 in size is kept by a cast
pub kept : (x : ℤ) → unsigned_abs x < 2 ^ 126 → to_z w128 (of_z w128 x) ≡ x
kept x h = to_z-of_z w128 x (fits_signed_from_abs w128 x (omega arith))

pub fits : (x : ℤ) → unsigned_abs x < 2 ^ 126 → FitsSigned w128 x
fits x h = fits_signed_from_abs w128 x (omega arith)

pub entry_small : (d : DictionaryView) → IsDictionary d → (row column : ℕ) → row < length d.loaded → column ≤ d.columns → unsigned_abs (entry_in d row column) < 2 ^ 89
entry_small d is row column lt le = omega (arith, is.sizes row column lt le, bound_is_small.1)

pub scale_small : (d : DictionaryView) → IsDictionary d → unsigned_abs d.scale < 2 ^ 89
scale_small d is = omega (arith, is.scale_size, bound_is_small.1)

negated_zero : (x : ℤ) → pos 0 -ℤ x ≡ neg_ℤ x
negated_zero x = omega (arith, sums)

pub negated_is : (x : ℤ) → unsigned_abs x < 2 ^ 89 → to_z w128 (of_z w128 (pos 0 -ℤ to_z w128 (of_z w128 x))) ≡ neg_ℤ x
negated_is x h =
    let inner : pos 0 -ℤ to_z w128 (of_z w128 x) ≡ neg_ℤ x = ap (λ (n : ℤ). pos 0 -ℤ n) (kept x (omega arith)) ∙ negated_zero x in
    ap (λ (n : ℤ). to_z w128 (of_z w128 n)) inner ∙ kept (neg_ℤ x) (omega (arith, unsigned_abs-neg x))

pub negated_fits : (x : ℤ) → unsigned_abs x < 2 ^ 89 → FitsSigned w128 (pos 0 -ℤ to_z w128 (of_z w128 x))
negated_fits x h =
    let inner : pos 0 -ℤ to_z w128 (of_z w128 x) ≡ neg_ℤ x = ap (λ (n : ℤ). pos 0 -ℤ n) (kept x (omega arith)) ∙ negated_zero x in
    subst (λ (n : ℤ). FitsSigned w128 n) (sym inner) (fits (neg_ℤ x) (omega (arith, unsigned_abs-neg x)))

pub sum_small : (x y : ℤ) → unsigned_abs x < 2 ^ 89 → unsigned_abs y < 2 ^ 89 → unsigned_abs (x +ℤ y) < 2 ^ 96
sum_small x y h k = omega (arith, unsigned_abs-add x y)

pub sum_fits : (x y : ℤ) → unsigned_abs x < 2 ^ 89 → unsigned_abs y < 2 ^ 89 → FitsSigned w128 (to_z w128 (of_z w128 x) +ℤ to_z w128 (of_z w128 y))
sum_fits x y h k =
    let e : to_z w128 (of_z w128 x) +ℤ to_z w128 (of_z w128 y) ≡ x +ℤ y = ap (λ (n : ℤ). n +ℤ to_z w128 (of_z w128 y)) (kept x (omega arith)) ∙ ap (λ (n : ℤ). x +ℤ n) (kept y (omega arith)) in
    subst (λ (n : ℤ). FitsSigned w128 n) (sym e) (fits (x +ℤ y) (omega (arith, sum_small x y h k)))

pub sum_is : (x y : ℤ) → unsigned_abs x < 2 ^ 89 → unsigned_abs y < 2 ^ 89 → to_z w128 (of_z w128 (to_z w128 (of_z w128 x) +ℤ to_z w128 (of_z w128 y))) ≡ x +ℤ y
sum_is x y h k =
    let e : to_z w128 (of_z w128 x) +ℤ to_z w128 (of_z w128 y) ≡ x +ℤ y = ap (λ (n : ℤ). n +ℤ to_z w128 (of_z w128 y)) (kept x (omega arith)) ∙ ap (λ (n : ℤ). x +ℤ n) (kept y (omega arith)) in
    ap (λ (n : ℤ). to_z w128 (of_z w128 n)) e ∙ kept (x +ℤ y) (omega (arith, sum_small x y h k))
