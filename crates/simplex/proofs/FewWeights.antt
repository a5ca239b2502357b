-- How many weights aren't 0.
use Rattle.std.proofs.Common.{◌≡◌, ℕ, zero, suc, ◌+◌, ◌<◌, ◌≤◌, Bool, true, false, cond, List, length, get_or, take, ℤ, pos, refl, sym, ap, subst, arith}
use Rattle.std.specs.Prelude.{not, count_by, slice_set}
use Rattle.std.proofs.lemmas.Bool.{le-ltb, true≢false}
use Rattle.std.proofs.lemmas.List.Sums.{sum_by-set, sum_by-take-le}
use Rattle.fraction_free.specs.Dictionary.{DictionaryView}
use Rattle.simplex.specs.Weights.{is_weight}
use Rattle.simplex.specs.Equation.{variable_at, how_many, has_slack}

-- each number passes a test or fails it
pub how_many-parts : (test : ℕ → Bool) (n : ℕ) → how_many (λ i. not (test i)) n + how_many test n ≡ n
unfolding how_many
how_many-parts test zero = refl
how_many-parts test (suc n) = step (test n) (how_many (λ i. not (test i)) n) (how_many test n) (how_many-parts test n)
  where
    step : (b : Bool) (x y : ℕ) → x + y ≡ n → (x + cond (not b) 1 0) + (y + cond b 1 0) ≡ suc n
    step true x y e = omega arith
    step false x y e = omega arith

-- one write adds at most one weight
pub count-set-le : (cells : List ℤ) (k : ℕ) (x : ℤ) → k < length cells → count_by is_weight (slice_set cells k x) ≤ count_by is_weight cells + 1
count-set-le cells k x lt = step (is_weight x) (sum_by-set (λ (y : ℤ). cond (is_weight y) 1 0) cells k x (pos 0) lt)
  where
    step : (b : Bool) → count_by is_weight (slice_set cells k x) + cond (is_weight (get_or cells k (pos 0))) 1 0 ≡ count_by is_weight cells + cond b 1 0
        → count_by is_weight (slice_set cells k x) ≤ count_by is_weight cells + 1
    step true e = omega arith
    step false e = omega arith

pub count-take-le : (cells : List ℤ) (k : ℕ) → count_by is_weight (take k cells) ≤ count_by is_weight cells
count-take-le cells k = sum_by-take-le (λ (y : ℤ). cond (is_weight y) 1 0) cells k

-- the weights written so far
pub few_more : (d : DictionaryView) (row place variable : ℕ) (cells now : List ℤ) (k : ℕ) (x : ℤ) → variable ≡ variable_at d row place → variable ≤ d.columns → k < length cells → now ≡ slice_set cells k x
    → count_by is_weight cells ≤ how_many (λ p. not (has_slack d row p)) place → count_by is_weight now ≤ how_many (λ p. not (has_slack d row p)) (place + 1)
unfolding how_many
few_more d row place variable cells now k x ev le lt en few =
    let one : place + 1 ≡ suc place = omega arith in
    subst (λ (n : ℕ). count_by is_weight now ≤ how_many (λ p. not (has_slack d row p)) n) (sym one)
    (step (has_slack d row place) (le-ltb d.columns (variable_at d row place) (omega arith))
    (omega (arith, ap (count_by is_weight) en, count-set-le cells k x lt)))
  where
    step : (b : Bool) → b ≡ false → count_by is_weight now ≤ how_many (λ p. not (has_slack d row p)) place + 1
        → count_by is_weight now ≤ how_many (λ p. not (has_slack d row p)) place + cond (not b) 1 0
    step true e h = absurd (true≢false e)
    step false e h = h

pub few_past : (d : DictionaryView) (row place : ℕ) (cells now : List ℤ) → now ≡ cells
    → count_by is_weight cells ≤ how_many (λ p. not (has_slack d row p)) place → count_by is_weight now ≤ how_many (λ p. not (has_slack d row p)) (place + 1)
unfolding how_many
few_past d row place cells now en few =
    let one : place + 1 ≡ suc place = omega arith in
    subst (λ (n : ℕ). count_by is_weight now ≤ how_many (λ p. not (has_slack d row p)) n) (sym one) (omega (arith, ap (count_by is_weight) en))
