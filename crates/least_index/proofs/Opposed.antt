-- Of two dictionaries of the same solutions, a variable can't enter at one and leave at the other, where the greater variables that are not basic are the same in both.
use Rattle.std.proofs.Common.{◌≡◌, ◌≢◌, ℕ, ◌<◌, ◌≤◌, Bool, true, false, cond, ◌⊎◌, inl, inr, ℤ, pos, ◌+ℤ◌, ◌*ℤ◌, ◌<ℤ◌, ◌≤ℤ◌, refl, sym, ap, subst, ◌∙◌, arith}
use Rattle.std.specs.Prelude.{nat_lt, ◌==◌}
use Rattle.std.proofs.Math.IntN.{*ℤ_comm}
use Rattle.std.proofs.lemmas.Int.{ints}
use Rattle.std.proofs.lemmas.Bool.{cond-true, cond-false, cases_Bool, ltb-true, ltb-false, eqb-true, eqb-false, true≢false}
use Rattle.row_laws.proofs.Integers.{mul-zero}
use Rattle.least_index.specs.Dictionary.{RationalDictionary, sum_below, term, IsSolution}
use Rattle.row_laws.proofs.Signs.{mul_nonneg, mul_nonpos, mul_neg, nonneg_of_pos}
use Rattle.least_index.proofs.Sums.{sum-nonpositive}
use Rattle.least_index.proofs.Choice.{IsChoice, basic_solution, basic_solution_satisfies}

-- at the basic solution of a dictionary, a variable below the one that leaves is at least 0
below_leaving : (t : RationalDictionary) (r c v : ℕ) → IsChoice t r c → v < r → pos 0 ≤ℤ basic_solution t v
below_leaving t r c v is lt = from (t.is_basic v) refl
  where
    from : (b : Bool) → t.is_basic v ≡ b → pos 0 ≤ℤ cond b (t.constant v) (pos 0)
    from true e = is.feasible_below v lt e
    from false e = omega (arith, ints)

nonpos_product : (a b : ℤ) → pos 0 ≤ℤ a → b ≤ℤ pos 0 → (a *ℤ b) ≤ℤ pos 0
nonpos_product a b h k = subst (λ (n : ℤ). n ≤ℤ pos 0) (*ℤ_comm b a) (mul_nonpos b a k h)

zero_product : (a b : ℤ) → b ≡ pos 0 → (a *ℤ b) ≤ℤ pos 0
zero_product a b e = subst (λ (n : ℤ). n ≤ℤ pos 0) (sym (ap (λ (n : ℤ). a *ℤ n) e ∙ mul-zero a)) (omega (arith, ints))

contradiction : (s x c one total : ℤ) → pos 0 <ℤ s → pos 0 ≤ℤ x → c <ℤ pos 0 → pos 0 <ℤ one → total ≤ℤ pos 0 → s *ℤ x ≡ c *ℤ one +ℤ total → ⊥
contradiction s x c one total ps px nc po nt e =
    let left : pos 0 ≤ℤ (s *ℤ x) = mul_nonneg s x (nonneg_of_pos s ps) px in
    let right : (c *ℤ one) <ℤ pos 0 = mul_neg c one nc po in
    impossible (s *ℤ x) (c *ℤ one) total left right nt e
  where
    impossible : (a b c : ℤ) → pos 0 ≤ℤ a → b <ℤ pos 0 → c ≤ℤ pos 0 → a ≡ b +ℤ c → ⊥
    impossible a b c h k l e = omega (arith, ints)

-- k enters at the first and leaves at the second
pub not_opposed : (t u : RationalDictionary) (r k l d : ℕ)
    → pos 0 <ℤ t.scale → pos 0 <ℤ u.scale
    → IsChoice t r k → IsChoice u k d → r ≤ k
    → ((w : ℕ) → k < w → w < t.size → t.is_basic w ≡ false → u.is_basic w ≡ false)
    → (IsSolution u u.scale (basic_solution u) → IsSolution t u.scale (basic_solution u))
    → ⊥
not_opposed t u r k l d pt pu is other le above solves =
    contradiction t.scale (basic_solution u r) (t.constant r) u.scale (sum_below (term t r (basic_solution u)) t.size) pt
    (below_leaving u k d r other r_below) is.infeasible pu
    (sum-nonpositive (term t r (basic_solution u)) t.size term_sign)
    ((solves (basic_solution_satisfies u)).each r is.leaving_within is.leaving_basic)
  where
    differ : r ≢ k
    differ e = true≢false (sym is.leaving_basic ∙ ap t.is_basic e ∙ is.entering_free)

    r_below : r < k
    r_below = omega (arith, differ, le)

    k_negative : basic_solution u k ≤ℤ pos 0
    k_negative = subst (λ (n : ℤ). n ≤ℤ pos 0) (sym (cond-true (u.is_basic k) (u.constant k) (pos 0) other.leaving_basic)) (weak (u.constant k) other.infeasible)
      where
        weak : (n : ℤ) → n <ℤ pos 0 → n ≤ℤ pos 0
        weak n h = omega (arith, ints)

    product_sign : (w : ℕ) → w < t.size → t.is_basic w ≡ false → (nat_lt w k ≡ true) ⊎ (nat_lt w k ≡ false) → ((w == k) ≡ true) ⊎ ((w == k) ≡ false) → (t.entry r w *ℤ basic_solution u w) ≤ℤ pos 0
    product_sign w lt free (inl below) e =
        let small : w < k = ltb-true w k below in
        mul_nonpos (t.entry r w) (basic_solution u w) (is.no_help_below w small free) (below_leaving u k d w other small)
    product_sign w lt free (inr ge) (inl e) =
        let same : w ≡ k = eqb-true w k e in
        subst (λ (n : ℕ). (t.entry r n *ℤ basic_solution u n) ≤ℤ pos 0) (sym same)
        (nonpos_product (t.entry r k) (basic_solution u k) (nonneg_of_pos (t.entry r k) is.helping) k_negative)
    product_sign w lt free (inr ge) (inr e) =
        let le : k ≤ w = ltb-false w k ge in
        let ne : w ≢ k = eqb-false w k e in
        zero_product (t.entry r w) (basic_solution u w) (cond-false (u.is_basic w) (u.constant w) (pos 0) (above w (omega arith) lt free))

    term_sign : (w : ℕ) → w < t.size → term t r (basic_solution u) w ≤ℤ pos 0
    term_sign w lt = from (t.is_basic w) refl
      where
        from : (b : Bool) → t.is_basic w ≡ b → cond b (pos 0) (t.entry r w *ℤ basic_solution u w) ≤ℤ pos 0
        from true e = omega (arith, ints)
        from false e = product_sign w lt e (cases_Bool (nat_lt w k)) (cases_Bool (w == k))
