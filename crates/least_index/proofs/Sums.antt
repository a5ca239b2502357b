-- Sums over the numbers below a bound.
use Rattle.std.proofs.Common.{◌≡◌, ◌≢◌, ℕ, zero, suc, ◌<◌, ◌≤◌, Bool, true, false, cond, ℤ, pos, ◌+ℤ◌, ◌-ℤ◌, ◌*ℤ◌, ◌≤ℤ◌, refl, ap, ◌∙◌, arith}
use Rattle.std.specs.Prelude.{◌==◌}
use Rattle.std.proofs.lemmas.Int.{ints}
use Rattle.std.proofs.lemmas.Bool.{cond-false, eqb-true, eqb-false, false_from_ne_true}
use Rattle.row_laws.proofs.Integers.{sums, mul-add, mul-zero}
use Rattle.least_index.specs.Dictionary.{sum_below}

pub sum-suc : (f : ℕ → ℤ) (n : ℕ) → sum_below f (suc n) ≡ sum_below f n +ℤ f n
unfolding sum_below
sum-suc f n = refl

pub sum-ext : (f g : ℕ → ℤ) (n : ℕ) → ((w : ℕ) → w < n → f w ≡ g w) → sum_below f n ≡ sum_below g n
unfolding sum_below
sum-ext f g zero h = refl
sum-ext f g (suc n) h =
    let rest : sum_below f n ≡ sum_below g n = sum-ext f g n (λ w lt. h w (omega arith)) in
    let here : f n ≡ g n = h n (omega arith) in
    ap (λ (s : ℤ). s +ℤ f n) rest ∙ ap (λ (s : ℤ). sum_below g n +ℤ s) here

pub sum-zero : (f : ℕ → ℤ) (n : ℕ) → ((w : ℕ) → w < n → f w ≡ pos 0) → sum_below f n ≡ pos 0
unfolding sum_below
sum-zero f zero h = refl
sum-zero f (suc n) h =
    let rest : sum_below f n ≡ pos 0 = sum-zero f n (λ w lt. h w (omega arith)) in
    let here : f n ≡ pos 0 = h n (omega arith) in
    ap (λ (s : ℤ). s +ℤ f n) rest ∙ ap (λ (s : ℤ). pos 0 +ℤ s) here

pub sum-nonpositive : (f : ℕ → ℤ) (n : ℕ) → ((w : ℕ) → w < n → f w ≤ℤ pos 0) → sum_below f n ≤ℤ pos 0
unfolding sum_below
sum-nonpositive f zero h = omega (arith, ints)
sum-nonpositive f (suc n) h =
    let rest : sum_below f n ≤ℤ pos 0 = sum-nonpositive f n (λ w lt. h w (omega arith)) in
    let here : f n ≤ℤ pos 0 = h n (omega arith) in
    add_nonpositive (sum_below f n) (f n) rest here
  where
    add_nonpositive : (a b : ℤ) → a ≤ℤ pos 0 → b ≤ℤ pos 0 → (a +ℤ b) ≤ℤ pos 0
    add_nonpositive a b h k = omega (arith, ints)

mix_step : (a b f g h k p q r s : ℤ)
    → (a *ℤ p -ℤ b *ℤ q +ℤ r +ℤ s) +ℤ (a *ℤ f -ℤ b *ℤ g +ℤ h +ℤ k) ≡ a *ℤ (p +ℤ f) -ℤ b *ℤ (q +ℤ g) +ℤ (r +ℤ h) +ℤ (s +ℤ k)
mix_step a b f g h k p q r s = omega (arith, sums, mul-add a p f, mul-add b q g)

pub sum-mix : (a b : ℤ) (f g h k : ℕ → ℤ) (n : ℕ)
    → sum_below (λ w. a *ℤ f w -ℤ b *ℤ g w +ℤ h w +ℤ k w) n ≡ a *ℤ sum_below f n -ℤ b *ℤ sum_below g n +ℤ sum_below h n +ℤ sum_below k n
unfolding sum_below
sum-mix a b f g h k zero = omega (arith, sums, mul-zero a, mul-zero b)
sum-mix a b f g h k (suc n) =
    ap (λ (s : ℤ). s +ℤ (a *ℤ f n -ℤ b *ℤ g n +ℤ h n +ℤ k n)) (sum-mix a b f g h k n)
    ∙ mix_step a b (f n) (g n) (h n) (k n) (sum_below f n) (sum_below g n) (sum_below h n) (sum_below k n)

-- a value at one place, and 0 elsewhere
abbrev pub at_place : ℕ → ℤ → ℕ → ℤ
at_place place value w = cond (w == place) value (pos 0)

at_step : (b : Bool) (value s : ℤ) → (b ≡ true → s ≡ pos 0) → (b ≡ false → s ≡ value) → s +ℤ cond b value (pos 0) ≡ value
at_step true value s h k = let e : s ≡ pos 0 = h refl in omega (arith, sums)
at_step false value s h k = let e : s ≡ value = k refl in omega (arith, sums)

sum-after_place : (place : ℕ) (value : ℤ) (n : ℕ) → n ≤ place → sum_below (at_place place value) n ≡ pos 0
sum-after_place place value n le =
    sum-zero (at_place place value) n (λ w lt. cond-false (w == place) value (pos 0) (false_from_ne_true (w == place) (λ t. let s : w ≡ place = eqb-true w place t in omega arith)))

pub sum-at_place : (place : ℕ) (value : ℤ) (n : ℕ) → place < n → sum_below (at_place place value) n ≡ value
unfolding sum_below
sum-at_place place value zero h = absurd (omega arith)
sum-at_place place value (suc n) h =
    at_step (n == place) value (sum_below (at_place place value) n)
    (λ e. let s : n ≡ place = eqb-true n place e in sum-after_place place value n (omega arith))
    (λ e. let ne : n ≢ place = eqb-false n place e in sum-at_place place value n (omega arith))
