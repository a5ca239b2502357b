-- The least number that passes a test.
use Rattle.std.proofs.Common.{◌≡◌, ◌≢◌, ℕ, zero, suc, ◌<◌, ◌≤◌, Bool, true, false, cond, ◌⊎◌, inl, inr, refl, sym, ap, ◌∙◌, arith}
use Rattle.std.specs.Prelude.{nat_lt, ◌==◌}
use Rattle.std.proofs.lemmas.Bool.{cases_Bool, ltb-true, ltb-false, eqb-true, eqb-false, true≢false}
use Rattle.least_index.specs.Rule.{first}

le_step : (a b : Bool) (n k : ℕ) → k ≤ n → cond a k (cond b n (suc n)) ≤ suc n
le_step true b n k h = omega arith
le_step false true n k h = omega arith
le_step false false n k h = omega arith

pub first-le : (test : ℕ → Bool) (n : ℕ) → first test n ≤ n
unfolding first
first-le test zero = omega arith
first-le test (suc n) = le_step (nat_lt (first test n) n) (test n) n (first test n) (first-le test n)

below_step : (test : ℕ → Bool) (a b : Bool) (n k i : ℕ)
    → test n ≡ b → k ≤ n → nat_lt k n ≡ a → ((j : ℕ) → j < k → test j ≡ false) → i < cond a k (cond b n (suc n)) → test i ≡ false
below_step test true b n k i at le lt ih h = ih i h
below_step test false true n k i at le lt ih h = let ge : n ≤ k = ltb-false k n lt in ih i (omega arith)
below_step test false false n k i at le lt ih h = let ge : n ≤ k = ltb-false k n lt in or_last (cases_Bool (i == n)) ge
  where
    or_last : ((i == n) ≡ true) ⊎ ((i == n) ≡ false) → n ≤ k → test i ≡ false
    or_last (inl e) ge = ap test (eqb-true i n e) ∙ at
    or_last (inr e) ge = let ne : i ≢ n = eqb-false i n e in ih i (omega arith)

-- each smaller number fails
pub first-below : (test : ℕ → Bool) (n i : ℕ) → i < first test n → test i ≡ false
unfolding first
first-below test zero i h = absurd (omega arith)
first-below test (suc n) i h =
    below_step test (nat_lt (first test n) n) (test n) n (first test n) i refl (first-le test n) refl (first-below test n) h

passes_step : (test : ℕ → Bool) (a b : Bool) (n k : ℕ)
    → test n ≡ b → nat_lt k n ≡ a → (k < n → test k ≡ true) → cond a k (cond b n (suc n)) < suc n → test (cond a k (cond b n (suc n))) ≡ true
passes_step test true b n k at lt ih h = ih (ltb-true k n lt)
passes_step test false true n k at lt ih h = at
passes_step test false false n k at lt ih h = absurd (omega arith)

-- it passes, if it is below the bound
pub first-passes : (test : ℕ → Bool) (n : ℕ) → first test n < n → test (first test n) ≡ true
unfolding first
first-passes test zero h = absurd (omega arith)
first-passes test (suc n) h =
    passes_step test (nat_lt (first test n) n) (test n) n (first test n) refl refl (first-passes test n) h

ext_step : (n k l : ℕ) (b c : Bool) → k ≡ l → b ≡ c → cond (nat_lt k n) k (cond b n (suc n)) ≡ cond (nat_lt l n) l (cond c n (suc n))
ext_step n k l b c e f = ap (λ (m : ℕ). cond (nat_lt m n) m (cond b n (suc n))) e ∙ ap (λ (d : Bool). cond (nat_lt l n) l (cond d n (suc n))) f

pub first-ext : (test other : ℕ → Bool) (n : ℕ) → ((i : ℕ) → i < n → test i ≡ other i) → first test n ≡ first other n
unfolding first
first-ext test other zero h = refl
first-ext test other (suc n) h =
    ext_step n (first test n) (first other n) (test n) (other n) (first-ext test other n (λ i lt. h i (omega arith))) (h n (omega arith))

-- a number that passes where each smaller one fails is the least
pub first-is : (test : ℕ → Bool) (n i : ℕ) → i < n → test i ≡ true → ((j : ℕ) → j < i → test j ≡ false) → first test n ≡ i
first-is test n i lt here before = from (cases_Bool (nat_lt (first test n) i)) (cases_Bool (nat_lt i (first test n)))
  where
    from : (nat_lt (first test n) i ≡ true) ⊎ (nat_lt (first test n) i ≡ false) → (nat_lt i (first test n) ≡ true) ⊎ (nat_lt i (first test n) ≡ false) → first test n ≡ i
    from (inl a) b =
        let below : first test n < i = ltb-true (first test n) i a in
        absurd (true≢false (sym (first-passes test n (omega arith)) ∙ before (first test n) below))
    from (inr a) (inl b) = absurd (true≢false (sym here ∙ first-below test n i (ltb-true i (first test n) b)))
    from (inr a) (inr b) =
        let ge : i ≤ first test n = ltb-false (first test n) i a in
        let le : first test n ≤ i = ltb-false i (first test n) b in
        omega arith
