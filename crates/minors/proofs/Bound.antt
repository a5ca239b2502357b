-- The size of a minor whose columns are bounded: at most n! times the product of the columns' bounds.
use Rattle.std.proofs.Common.{◌≡◌, ℕ, zero, suc, ◌+◌, ◌*◌, ◌^◌, ◌<◌, ◌≤◌, ℤ, ◌-ℤ◌, ◌*ℤ◌, unsigned_abs, List, [], ◌∷◌, length, get_or, cond, Bool, true, false, eqb, refl, sym, ap, subst, arith, lit<}
use Rattle.std.proofs.Math.Nat.{mul-le-mul}
use Rattle.std.specs.List.{range_with_len, AllByRecursion}
use Rattle.std.proofs.lemmas.Int.{unsigned_abs-mul}
use Rattle.std.proofs.lemmas.Bool.Decides.{nat_tests}
use Rattle.minors.specs.Minor.{expansion, minor_at, factorial}
use Rattle.row_laws.proofs.Integers.{unsigned_abs-sub}
use Rattle.minors.proofs.MinorAt.{nothing}

-- the product of the columns' bounds
abbrev pub product_of : (ℕ → ℕ) → List ℕ → ℕ
product_of most [] = 1
product_of most (column ∷ columns) = most column * product_of most columns

abs_product : (a b : ℤ) (m n : ℕ) → unsigned_abs a ≤ m → unsigned_abs b ≤ n → unsigned_abs (a *ℤ b) ≤ m * n
abs_product a b m n h k = omega (arith, unsigned_abs-mul a b, mul-le-mul h k)

bound_step : (a f e : ℤ) (w k p l : ℕ) → unsigned_abs a ≤ w → unsigned_abs f ≤ k * p → unsigned_abs e ≤ l * ((k * w) * p)
    → unsigned_abs (a *ℤ f -ℤ e) ≤ suc l * (k * (w * p))
bound_step a f e w k p l h i j = omega (arith, unsigned_abs-sub (a *ℤ f) e, abs_product a f w (k * p) h i)

expansion_bound : (P : ℕ → Type 0) (most : ℕ → ℕ) (row : ℕ → ℤ) (rest : List ℕ → ℤ) (k : ℕ) (columns : List ℕ)
    → ((c : ℕ) → P c → unsigned_abs (row c) ≤ most c)
    → ((others : List ℕ) → AllByRecursion P others → suc (length others) ≡ length columns → unsigned_abs (rest others) ≤ k * product_of most others)
    → AllByRecursion P columns
    → unsigned_abs (expansion row rest columns) ≤ length columns * (k * product_of most columns)
unfolding expansion
expansion_bound P most row rest k [] entries small all = omega arith
expansion_bound P most row rest k (c ∷ columns) entries small all =
    bound_step (row c) (rest columns) (expansion row (λ others. rest (c ∷ others)) columns) (most c) k (product_of most columns) (length columns)
    (entries c all.0)
    (small columns all.1 refl)
    (expansion_bound P most row (λ others. rest (c ∷ others)) (k * most c) columns entries
    (λ others each len. regroup (rest (c ∷ others)) k (most c) (product_of most others) (small (c ∷ others) (all.0, each) (ap suc len)))
    all.1)
  where
    regroup : (z : ℤ) (k w p : ℕ) → unsigned_abs z ≤ k * (w * p) → unsigned_abs z ≤ (k * w) * p
    regroup z k w p h = omega arith

pub minor_at_bound : (P : ℕ → Type 0) (most : ℕ → ℕ) (rows : List (ℕ → ℤ)) (columns : List ℕ)
    → ((i c : ℕ) → i < length rows → P c → unsigned_abs (get_or rows i nothing c) ≤ most c)
    → AllByRecursion P columns → length columns ≡ length rows
    → unsigned_abs (minor_at rows columns) ≤ factorial (length rows) * product_of most columns
unfolding minor_at factorial
minor_at_bound P most [] [] entries all len = omega arith
minor_at_bound P most [] (c ∷ columns) entries all len = absurd (omega arith)
minor_at_bound P most (r ∷ rows) columns entries all len =
    let n : ℕ = length rows in
    let bound : unsigned_abs (expansion r (minor_at rows) columns) ≤ length columns * (factorial n * product_of most columns) =
    expansion_bound P most r (minor_at rows) (factorial n) columns (λ c p. entries 0 c (omega arith) p)
    (λ others each l. minor_at_bound P most rows others (λ i c k p. entries (suc i) c (omega arith) p) each (omega arith)) all in
    regroup (unsigned_abs (expansion r (minor_at rows) columns)) (length columns) n (factorial n) (product_of most columns) len bound
  where
    regroup : (z l n f p : ℕ) → l ≡ suc n → z ≤ l * (f * p) → z ≤ (suc n * f) * p
    regroup z l n f p e h = let g : z ≤ suc n * (f * p) = subst (λ x. z ≤ x * (f * p)) e h in omega arith

-- ---- all columns but the last bounded by 1

abbrev pub last_most : ℕ → ℕ → ℕ → ℕ
last_most order most column = cond (eqb (column + 1) order) most 1

before_last : (order most s n : ℕ) → s + suc (suc n) ≡ order → cond (eqb (s + 1) order) most 1 ≡ 1
before_last order most s n e = grind (arith, nat_tests)

pub product_of_range : (order most s n : ℕ) → 1 ≤ most → s + n ≡ order → product_of (last_most order most) (range_with_len s n) ≤ most
product_of_range order most s zero h e = h
product_of_range order most s (suc zero) h e =
    one_or_most (eqb (s + 1) order)
  where
    one_or_most : (b : Bool) → cond b most 1 * 1 ≤ most
    one_or_most true = omega arith
    one_or_most false = omega arith
product_of_range order most s (suc (suc n)) h e =
    let one : last_most order most s ≡ 1 = before_last order most s n e in
    let rec : product_of (last_most order most) (range_with_len (s + 1) (suc n)) ≤ most = product_of_range order most (s + 1) (suc n) h (omega arith) in
    subst (λ x. x * product_of (last_most order most) (range_with_len (s + 1) (suc n)) ≤ most) (sym one) (omega arith)

pub factorial_mono : (n m : ℕ) → factorial n ≤ factorial (n + m)
unfolding factorial
factorial_mono n zero = let e : n + 0 ≡ n = omega arith in subst (λ x. factorial n ≤ factorial x) (sym e) (omega arith)
factorial_mono n (suc m) =
    let e : n + suc m ≡ suc (n + m) = omega arith in
    subst (λ x. factorial n ≤ factorial x) (sym e) (grown (factorial n) (factorial (n + m)) (n + m) (factorial_mono n m))
  where
    grown : (f g a : ℕ) → f ≤ g → f ≤ suc a * g
    grown f g a h = omega arith

pub below_power : 25 * factorial 25 < 2 ^ 89
unfolding factorial
below_power = lit< tt
