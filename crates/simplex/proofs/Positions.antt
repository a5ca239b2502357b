-- Sums over variables, where each of some places has a variable of its own.
use Rattle.std.proofs.Common.{◌≡◌, ◌≢◌, ℕ, zero, suc, ◌+◌, ◌<◌, ◌≤◌, Bool, true, false, cond, List, [], ◌∷◌, length, get_or, ℤ, pos, ◌+ℤ◌, ◌*ℤ◌, refl, sym, ap, ◌∙◌, arith}
use Rattle.std.specs.Prelude.{nat_lt, ◌==◌}
use Rattle.std.proofs.lemmas.Bool.{cond-true, cond-false, ltb-true, ltb-false, lt-ltb, le-ltb, eqb-true, eqb-false, eq-eqb, true≢false, false_from_ne_true}
use Rattle.row_laws.proofs.Integers.{sums}
use Rattle.row_laws.specs.Rows.{dot}
use Rattle.least_index.specs.Dictionary.{sum_below}
use Rattle.least_index.specs.Rule.{first}
use Rattle.least_index.proofs.First.{first-below, first-passes, first-is}
use Rattle.least_index.proofs.Sums.{sum-ext, sum-zero, at_place, sum-at_place}

-- the places below m have different variables
abbrev pub AreDistinct : (ℕ → ℕ) → ℕ → Type 0
AreDistinct variable m = (i j : ℕ) → i < m → j < m → variable i ≡ variable j → i ≡ j

-- the place of a variable, or m
abbrev pub place_in : (ℕ → ℕ) → ℕ → ℕ → ℕ
place_in variable m v = first (λ i. variable i == v) m

pub place-of : (variable : ℕ → ℕ) (m i : ℕ) → AreDistinct variable m → i < m → place_in variable m (variable i) ≡ i
place-of variable m i distinct lt =
    first-is (λ j. variable j == variable i) m i lt (eq-eqb (variable i) (variable i) refl)
    (λ j l. false_from_ne_true (variable j == variable i) (λ e. let same : j ≡ i = distinct j i (omega arith) lt (eqb-true (variable j) (variable i) e) in omega arith))

pub place-found : (variable : ℕ → ℕ) (m v : ℕ) → place_in variable m v < m → variable (place_in variable m v) ≡ v
place-found variable m v lt = eqb-true (variable (place_in variable m v)) v (first-passes (λ i. variable i == v) m lt)

pub place-none : (variable : ℕ → ℕ) (m v i : ℕ) → m ≤ place_in variable m v → i < m → variable i ≢ v
place-none variable m v i ge lt e = true≢false (sym (eq-eqb (variable i) v e) ∙ first-below (λ j. variable j == v) m i (omega arith))

step : (a b : Bool) (x y z w : ℤ) → (a ≡ true → b ≡ true → ⊥) → (a ≡ true → x ≡ y) → (a ≡ false → b ≡ true → x ≡ z) → (a ≡ false → b ≡ false → x ≡ pos 0) → x ≡ cond a y (pos 0) +ℤ cond b z (pos 0)
step true true x y z w n f g h = absurd (n refl refl)
step true false x y z w n f g h = let e : x ≡ y = f refl in omega (arith, sums)
step false true x y z w n f g h = let e : x ≡ z = g refl refl in omega (arith, sums)
step false false x y z w n f g h = h refl refl

add_sums : (f g : ℕ → ℤ) (n : ℕ) → sum_below (λ w. f w +ℤ g w) n ≡ sum_below f n +ℤ sum_below g n
unfolding sum_below
add_sums f g zero = refl
add_sums f g (suc n) =
    ap (λ (s : ℤ). s +ℤ (f n +ℤ g n)) (add_sums f g n) ∙ regroup (sum_below f n) (sum_below g n) (f n) (g n)
  where
    regroup : (a b c d : ℤ) → (a +ℤ b) +ℤ (c +ℤ d) ≡ (a +ℤ c) +ℤ (b +ℤ d)
    regroup a b c d = omega (arith, sums)

-- what the places below n have, at their variables
abbrev pub placed : (ℕ → ℕ) → ℕ → (ℕ → ℤ) → ℕ → ℕ → ℤ
placed variable m value n v = cond (nat_lt (place_in variable m v) n) (value (place_in variable m v)) (pos 0)

placed-suc : (variable : ℕ → ℕ) (m : ℕ) (value : ℕ → ℤ) (n v : ℕ) → AreDistinct variable m → n < m
    → placed variable m value (suc n) v ≡ placed variable m value n v +ℤ at_place (variable n) (value n) v
placed-suc variable m value n v distinct lt =
    step (nat_lt (place_in variable m v) n) (v == variable n) (placed variable m value (suc n) v) (value (place_in variable m v)) (value n) (pos 0)
    (λ a b. let below : place_in variable m v < n = ltb-true (place_in variable m v) n a in
    let same : v ≡ variable n = eqb-true v (variable n) b in
    let is : place_in variable m v ≡ n = ap (place_in variable m) same ∙ place-of variable m n distinct lt in
    omega arith)
    (λ a. let below : place_in variable m v < n = ltb-true (place_in variable m v) n a in
    cond-true (nat_lt (place_in variable m v) (suc n)) (value (place_in variable m v)) (pos 0) (lt-ltb (place_in variable m v) (suc n) (omega arith)))
    (λ a b. let same : v ≡ variable n = eqb-true v (variable n) b in
    let is : place_in variable m v ≡ n = ap (place_in variable m) same ∙ place-of variable m n distinct lt in
    cond-true (nat_lt (place_in variable m v) (suc n)) (value (place_in variable m v)) (pos 0) (lt-ltb (place_in variable m v) (suc n) (omega arith)) ∙ ap value is)
    (λ a b. let above : n ≤ place_in variable m v = ltb-false (place_in variable m v) n a in
    let other : place_in variable m v ≢ n = λ e. eqb-false v (variable n) b (sym (place-found variable m v (omega arith)) ∙ ap variable e) in
    cond-false (nat_lt (place_in variable m v) (suc n)) (value (place_in variable m v)) (pos 0) (le-ltb (place_in variable m v) (suc n) (omega arith)))

none_below : (k : ℕ) (x : ℤ) → cond (nat_lt k 0) x (pos 0) ≡ pos 0
none_below k x = cond-false (nat_lt k 0) x (pos 0) (le-ltb k 0 (omega arith))

pub sum-placed : (variable : ℕ → ℕ) (m : ℕ) (value : ℕ → ℤ) (size n : ℕ) → AreDistinct variable m → ((i : ℕ) → i < m → variable i < size) → n ≤ m
    → sum_below (placed variable m value n) size ≡ sum_below value n
unfolding sum_below
sum-placed variable m value size zero distinct within le =
    sum-zero (placed variable m value 0) size (λ v lt. none_below (place_in variable m v) (value (place_in variable m v)))
sum-placed variable m value size (suc n) distinct within le =
    sum-ext (placed variable m value (suc n)) (λ v. placed variable m value n v +ℤ at_place (variable n) (value n) v) size (λ v lt. placed-suc variable m value n v distinct (omega arith))
    ∙ add_sums (placed variable m value n) (at_place (variable n) (value n)) size
    ∙ ap (λ (s : ℤ). s +ℤ sum_below (at_place (variable n) (value n)) size) (sum-placed variable m value size n distinct within (omega arith))
    ∙ ap (λ (s : ℤ). sum_below value n +ℤ s) (sum-at_place (variable n) (value n) size (within n (omega arith)))

-- ---- sums from the first number on

pub sum-front : (f : ℕ → ℤ) (n : ℕ) → sum_below f (suc n) ≡ f 0 +ℤ sum_below (λ i. f (suc i)) n
unfolding sum_below
sum-front f zero = swap (f 0)
  where
    swap : (a : ℤ) → pos 0 +ℤ a ≡ a +ℤ pos 0
    swap a = omega (arith, sums)
sum-front f (suc n) =
    ap (λ (s : ℤ). s +ℤ f (suc n)) (sum-front f n) ∙ regroup (f 0) (sum_below (λ i. f (suc i)) n) (f (suc n))
  where
    regroup : (a b c : ℤ) → (a +ℤ b) +ℤ c ≡ a +ℤ (b +ℤ c)
    regroup a b c = omega (arith, sums)

-- the sum of products, as a sum over places
pub dot-sum : (xs ys : List ℤ) → length xs ≡ length ys → dot xs ys ≡ sum_below (λ i. get_or xs i (pos 0) *ℤ get_or ys i (pos 0)) (length xs)
unfolding sum_below
dot-sum [] ys e = refl
dot-sum (x ∷ xs) [] e = absurd (omega (arith, e))
dot-sum (x ∷ xs) (y ∷ ys) e =
    ap (λ (s : ℤ). x *ℤ y +ℤ s) (dot-sum xs ys (omega (arith, e)))
    ∙ sym (sum-front (λ i. get_or (x ∷ xs) i (pos 0) *ℤ get_or (y ∷ ys) i (pos 0)) (length xs))

-- a sum over the numbers below n + m
pub sum-split : (f : ℕ → ℤ) (n m : ℕ) → sum_below f (n + m) ≡ sum_below f n +ℤ sum_below (λ i. f (n + i)) m
unfolding sum_below
sum-split f n zero = let e : n + 0 ≡ n = omega arith in ap (sum_below f) e ∙ plus_zero (sum_below f n)
  where
    plus_zero : (a : ℤ) → a ≡ a +ℤ pos 0
    plus_zero a = omega (arith, sums)
sum-split f n (suc m) =
    let e : n + suc m ≡ suc (n + m) = omega arith in
    ap (sum_below f) e ∙ ap (λ (s : ℤ). s +ℤ f (n + m)) (sum-split f n m) ∙ regroup (sum_below f n) (sum_below (λ i. f (n + i)) m) (f (n + m))
  where
    regroup : (a b c : ℤ) → (a +ℤ b) +ℤ c ≡ a +ℤ (b +ℤ c)
    regroup a b c = omega (arith, sums)
