-- Dictionaries of one basis with the same solutions are proportional, so the rule takes the same way from both.
use Rattle.std.proofs.Common.{◌≡◌, ℕ, zero, suc, ◌<◌, Bool, true, false, cond, not, ◌&&◌, ◌⊎◌, inl, inr, ℤ, pos, ◌+ℤ◌, ◌*ℤ◌, ◌<ℤ◌, ◌≤ℤ◌, refl, sym, ap, ◌∙◌, arith}
use Rattle.std.specs.Prelude.{nat_lt, int_lt, ◌==◌}
use Rattle.std.proofs.Math.IntN.{*ℤ_comm}
use Rattle.std.proofs.lemmas.Int.{ints}
use Rattle.std.proofs.lemmas.Bool.{cond-true, cases_Bool, ltb-true, eqb-true, true≢false, false≢true}
use Rattle.std.specs.Cmp.{both_ways}
use Rattle.row_laws.proofs.Integers.{sums, mul-zero}
use Rattle.least_index.specs.Dictionary.{RationalDictionary, sum_below, term, right_side, IsSolution}
use Rattle.least_index.specs.Rule.{first, is_infeasible, helps, leaving, entering, is_end, next, pivots_within, Covers}
use Rattle.row_laws.proofs.Signs.{nonneg_of_pos, mul_nonneg, mul_nonpos, mul_neg, mul_pos}
use Rattle.least_index.proofs.Sums.{sum-zero, sum-ext, at_place, sum-at_place}
use Rattle.least_index.proofs.First.{first-ext, first-passes}
use Rattle.least_index.proofs.Exchange.{exchange_keeps, exchange_reflects}
use Rattle.least_index.proofs.Choice.{and_left, negative, not_negative, positive, not_positive, chosen, choice_is_exchange, next_scale, basic_solution, basic_solution_satisfies}

-- ---- signs of proportional numbers

negative_along : (a b s r : ℤ) → pos 0 <ℤ s → pos 0 <ℤ r → s *ℤ a ≡ b *ℤ r → int_lt a (pos 0) ≡ true → int_lt b (pos 0) ≡ true
negative_along a b s r ps pr e h = from (cases_Bool (int_lt b (pos 0)))
  where
    both : (x y : ℤ) → x <ℤ pos 0 → pos 0 ≤ℤ y → x ≡ y → int_lt b (pos 0) ≡ true
    both x y l m e = absurd (omega (arith, ints))

    from : (int_lt b (pos 0) ≡ true) ⊎ (int_lt b (pos 0) ≡ false) → int_lt b (pos 0) ≡ true
    from (inl t) = t
    from (inr f) = both (a *ℤ s) (b *ℤ r) (mul_neg a s (negative a h) ps) (mul_nonneg b r (not_negative b f) (nonneg_of_pos r pr)) (*ℤ_comm a s ∙ e)

positive_along : (a b s r : ℤ) → pos 0 <ℤ s → pos 0 <ℤ r → s *ℤ a ≡ b *ℤ r → int_lt (pos 0) a ≡ true → int_lt (pos 0) b ≡ true
positive_along a b s r ps pr e h = from (cases_Bool (int_lt (pos 0) b))
  where
    both : (x y : ℤ) → pos 0 <ℤ x → y ≤ℤ pos 0 → x ≡ y → int_lt (pos 0) b ≡ true
    both x y l m e = absurd (omega (arith, ints))

    from : (int_lt (pos 0) b ≡ true) ⊎ (int_lt (pos 0) b ≡ false) → int_lt (pos 0) b ≡ true
    from (inl t) = t
    from (inr f) = both (a *ℤ s) (b *ℤ r) (mul_pos a s (positive a h) ps) (mul_nonpos b r (not_positive b f) (nonneg_of_pos r pr)) (*ℤ_comm a s ∙ e)

turned : (a b s r : ℤ) → s *ℤ a ≡ b *ℤ r → r *ℤ b ≡ a *ℤ s
turned a b s r e = *ℤ_comm r b ∙ sym e ∙ *ℤ_comm s a

same_negative : (a b s r : ℤ) → pos 0 <ℤ s → pos 0 <ℤ r → s *ℤ a ≡ b *ℤ r → int_lt a (pos 0) ≡ int_lt b (pos 0)
same_negative a b s r ps pr e =
    both_ways (int_lt a (pos 0)) (int_lt b (pos 0)) (negative_along a b s r ps pr e) (negative_along b a r s pr ps (turned a b s r e))

same_positive : (a b s r : ℤ) → pos 0 <ℤ s → pos 0 <ℤ r → s *ℤ a ≡ b *ℤ r → int_lt (pos 0) a ≡ int_lt (pos 0) b
same_positive a b s r ps pr e =
    both_ways (int_lt (pos 0) a) (int_lt (pos 0) b) (positive_along a b s r ps pr e) (positive_along b a r s pr ps (turned a b s r e))

-- ---- proportional constants and entries

zero_after : (a b : ℤ) → b ≡ pos 0 → a +ℤ b ≡ a
zero_after a b e = omega (arith, sums)

no_term_of : (b d : Bool) (e c : ℤ) → b ≡ d → cond b (pos 0) (e *ℤ cond d c (pos 0)) ≡ pos 0
no_term_of true d e c h = refl
no_term_of false true e c h = absurd (false≢true h)
no_term_of false false e c h = mul-zero e

pub same_constants : (t other : RationalDictionary) → Covers t other → (v : ℕ) → v < t.size → t.is_basic v ≡ true
    → other.scale *ℤ t.constant v ≡ other.constant v *ℤ t.scale
same_constants t other c v lt b =
    let within : v < other.size = omega (arith, c.size) in
    let equation : other.scale *ℤ basic_solution t v ≡ right_side other t.scale (basic_solution t) v =
    (c.solutions t.scale (basic_solution t) (basic_solution_satisfies t)).each v within (c.basis v lt ∙ b) in
    let none : sum_below (term other v (basic_solution t)) other.size ≡ pos 0 =
    sum-zero (term other v (basic_solution t)) other.size (λ w l. no_term_of (other.is_basic w) (t.is_basic w) (other.entry v w) (t.constant w) (c.basis w (omega (arith, c.size)))) in
    ap (λ (n : ℤ). other.scale *ℤ n) (sym (cond-true (t.is_basic v) (t.constant v) (pos 0) b))
    ∙ equation ∙ zero_after (other.constant v *ℤ t.scale) (sum_below (term other v (basic_solution t)) other.size) none

-- the solution in which of the variables that are not basic just w is not 0, and so is the constant 1
abbrev pub unit_solution : RationalDictionary → ℕ → ℕ → ℤ
unit_solution t w v = cond (t.is_basic v) (t.entry v w) (cond (v == w) t.scale (pos 0))

unit_term : (b d e : Bool) (entry at basic scale : ℤ) → b ≡ d → (e ≡ true → (b ≡ false) × (entry ≡ at))
    → cond b (pos 0) (entry *ℤ cond d basic (cond e scale (pos 0))) ≡ cond e (at *ℤ scale) (pos 0)
unit_term true d true entry at basic scale h k = absurd (true≢false (k refl).0)
unit_term true d false entry at basic scale h k = refl
unit_term false true e entry at basic scale h k = absurd (false≢true h)
unit_term false false true entry at basic scale h k = ap (λ (n : ℤ). n *ℤ scale) (k refl).1
unit_term false false false entry at basic scale h k = mul-zero entry

zero_before : (a b : ℤ) → a *ℤ pos 0 +ℤ b ≡ b
zero_before a b = omega (arith, sums, mul-zero a)

unit_sum : (t u : RationalDictionary) (w v : ℕ) → u.size ≡ t.size → ((j : ℕ) → j < t.size → u.is_basic j ≡ t.is_basic j) → w < t.size → t.is_basic w ≡ false
    → right_side u (pos 0) (unit_solution t w) v ≡ u.entry v w *ℤ t.scale
unit_sum t u w v size basis lt free =
    let within : w < u.size = omega (arith, size) in
    let pointwise : sum_below (term u v (unit_solution t w)) u.size ≡ sum_below (at_place w (u.entry v w *ℤ t.scale)) u.size =
    sum-ext (term u v (unit_solution t w)) (at_place w (u.entry v w *ℤ t.scale)) u.size
    (λ j l. let below : j < t.size = omega (arith, size) in
    unit_term (u.is_basic j) (t.is_basic j) (j == w) (u.entry v j) (u.entry v w) (t.entry j w) t.scale (basis j below)
    (λ e. let same : j ≡ w = eqb-true j w e in (basis j below ∙ ap t.is_basic same ∙ free, ap (u.entry v) same))) in
    zero_before (u.constant v) (sum_below (term u v (unit_solution t w)) u.size)
    ∙ pointwise ∙ sum-at_place w (u.entry v w *ℤ t.scale) u.size within

unit_solution_satisfies : (t : RationalDictionary) (w : ℕ) → w < t.size → t.is_basic w ≡ false → IsSolution t (pos 0) (unit_solution t w)
unit_solution_satisfies t w lt free = record {
  each = λ v l b.
      ap (λ (n : ℤ). t.scale *ℤ n) (cond-true (t.is_basic v) (t.entry v w) (cond (v == w) t.scale (pos 0)) b)
      ∙ *ℤ_comm t.scale (t.entry v w)
      ∙ sym (unit_sum t t w v refl (λ j k. refl) lt free);
}

pub same_entries : (t other : RationalDictionary) → Covers t other → (v w : ℕ) → v < t.size → t.is_basic v ≡ true → w < t.size → t.is_basic w ≡ false
    → other.scale *ℤ t.entry v w ≡ other.entry v w *ℤ t.scale
same_entries t other c v w lt b l free =
    let within : v < other.size = omega (arith, c.size) in
    ap (λ (n : ℤ). other.scale *ℤ n) (sym (cond-true (t.is_basic v) (t.entry v w) (cond (v == w) t.scale (pos 0)) b))
    ∙ (c.solutions (pos 0) (unit_solution t w) (unit_solution_satisfies t w l free)).each v within (c.basis v lt ∙ b)
    ∙ unit_sum t other w v c.size c.basis l free

-- ---- the rule's way

and_same : (a b c d : Bool) → a ≡ c → (a ≡ true → b ≡ d) → (a && b) ≡ (c && d)
and_same true b true d e h = h refl
and_same true b false d e h = absurd (true≢false e)
and_same false b true d e h = absurd (false≢true e)
and_same false b false d e h = refl

not_and_same : (a b c d : Bool) → a ≡ c → (a ≡ false → b ≡ d) → (not a && b) ≡ (not c && d)
not_and_same true b true d e h = refl
not_and_same true b false d e h = absurd (true≢false e)
not_and_same false b true d e h = absurd (false≢true e)
not_and_same false b false d e h = h refl

pub same_leaving : (t other : RationalDictionary) → Covers t other → leaving t ≡ leaving other
unfolding leaving
same_leaving t other c =
    first-ext (is_infeasible t) (is_infeasible other) t.size
    (λ v lt. and_same (t.is_basic v) (int_lt (t.constant v) (pos 0)) (other.is_basic v) (int_lt (other.constant v) (pos 0)) (sym (c.basis v lt))
    (λ b. same_negative (t.constant v) (other.constant v) other.scale t.scale c.other_positive c.positive (same_constants t other c v lt b)))
    ∙ ap (first (is_infeasible other)) (sym c.size)

leaving_basic : (t : RationalDictionary) → leaving t < t.size → t.is_basic (leaving t) ≡ true
unfolding leaving
leaving_basic t lt = and_left (t.is_basic (leaving t)) (int_lt (t.constant (leaving t)) (pos 0)) (first-passes (is_infeasible t) t.size lt)

pub same_entering : (t other : RationalDictionary) → Covers t other → leaving t < t.size → entering t ≡ entering other
unfolding entering
same_entering t other c within =
    first-ext (helps t (leaving t)) (helps other (leaving t)) t.size
    (λ w lt. not_and_same (t.is_basic w) (int_lt (pos 0) (t.entry (leaving t) w)) (other.is_basic w) (int_lt (pos 0) (other.entry (leaving t) w)) (sym (c.basis w lt))
    (λ free. same_positive (t.entry (leaving t) w) (other.entry (leaving t) w) other.scale t.scale c.other_positive c.positive (same_entries t other c (leaving t) w within (leaving_basic t within) lt free)))
    ∙ ap (first (helps other (leaving t))) (sym c.size)
    ∙ ap (λ (r : ℕ). first (helps other r) other.size) (same_leaving t other c)

end_step : (n m k l i j : ℕ) → m ≡ n → l ≡ k → (k < n → j ≡ i) → not (nat_lt k n && nat_lt i n) ≡ not (nat_lt l m && nat_lt j m)
end_step n m k l i j size left right =
    ap (λ (b : Bool). not b)
    (and_same (nat_lt k n) (nat_lt i n) (nat_lt l m) (nat_lt j m) (ap (λ (x : ℕ). nat_lt x n) (sym left) ∙ ap (nat_lt l) (sym size))
    (λ e. ap (λ (x : ℕ). nat_lt x n) (sym (right (ltb-true k n e))) ∙ ap (nat_lt j) (sym size)))

pub same_end : (t other : RationalDictionary) → Covers t other → is_end t ≡ is_end other
same_end t other c =
    end_step t.size other.size (leaving t) (leaving other) (entering t) (entering other) c.size (sym (same_leaving t other c)) (λ lt. sym (same_entering t other c lt))

same_next : (t other : RationalDictionary) → Covers t other → is_end t ≡ false → Covers (next t) (next other)
unfolding next
same_next t other c going =
    let still : is_end other ≡ false = sym (same_end t other c) ∙ going in
    let r : leaving t ≡ leaving other = same_leaving t other c in
    let e : entering t ≡ entering other = same_entering t other c (chosen t going).leaving_within in
    record {
      size = c.size;
      basis = λ v lt.
          ap (λ (b : Bool). cond (v == entering other) true (cond (v == leaving other) false b)) (c.basis v lt)
          ∙ ap (λ (n : ℕ). cond (v == n) true (cond (v == leaving other) false (t.is_basic v))) (sym e)
          ∙ ap (λ (n : ℕ). cond (v == entering t) true (cond (v == n) false (t.is_basic v))) (sym r);
      positive = next_scale t c.positive going;
      other_positive = next_scale other c.other_positive still;
      solutions = λ one x sat.
          exchange_keeps other (leaving other) (entering other) one x (choice_is_exchange other c.other_positive still)
          (c.solutions one x (exchange_reflects t (leaving t) (entering t) one x (choice_is_exchange t c.positive going) sat));
    }

count_step : (a b : Bool) (m n : ℕ) → a ≡ b → (a ≡ false → m ≡ n) → cond a zero (suc m) ≡ cond b zero (suc n)
count_step true true m n e h = refl
count_step true false m n e h = absurd (true≢false e)
count_step false true m n e h = absurd (false≢true e)
count_step false false m n e h = ap suc (h refl)

pub same_pivots : (n : ℕ) (t other : RationalDictionary) → Covers t other → pivots_within n t ≡ pivots_within n other
unfolding pivots_within
same_pivots zero t other c = refl
same_pivots (suc n) t other c =
    count_step (is_end t) (is_end other) (pivots_within n (next t)) (pivots_within n (next other)) (same_end t other c)
    (λ going. same_pivots n (next t) (next other) (same_next t other c going))
