-- What the rule's choice says, and the basic solution of a dictionary.
use Rattle.std.proofs.Common.{◌≡◌, ℕ, ◌<◌, Bool, true, false, cond, not, ◌&&◌, ℤ, pos, ◌+ℤ◌, ◌*ℤ◌, ◌<ℤ◌, ◌≤ℤ◌, refl, ap, ◌∙◌, arith}
use Rattle.std.specs.Prelude.{nat_lt, int_lt, ◌==◌}
use Rattle.std.proofs.Math.IntN.{*ℤ_comm}
use Rattle.std.proofs.lemmas.Int.{ints}
use Rattle.std.proofs.lemmas.Bool.{cond-true, ltb-true, not-true, not-false, true≢false, false≢true}
use borrow.Author.Differences.{lt-true, lt-false}
use Rattle.row_laws.proofs.Integers.{sums, mul-zero}
use Rattle.least_index.specs.Dictionary.{RationalDictionary, sum_below, term, IsSolution}
use Rattle.least_index.specs.Rule.{is_infeasible, helps, leaving, entering, is_end, next}
use Rattle.row_laws.proofs.Signs.{mul_pos}
use Rattle.least_index.proofs.Sums.{sum-zero}
use Rattle.least_index.proofs.First.{first-below, first-passes}
use Rattle.least_index.proofs.Exchange.{IsExchange}

pub and_left : (a b : Bool) → (a && b) ≡ true → a ≡ true
and_left true b h = refl
and_left false b h = absurd (false≢true h)

pub and_right : (a b : Bool) → (a && b) ≡ true → b ≡ true
and_right true b h = h
and_right false b h = absurd (false≢true h)

pub and_none : (a b : Bool) → (a && b) ≡ false → a ≡ true → b ≡ false
and_none true b h e = h
and_none false b h e = absurd (false≢true e)

pub not_both : (a b : Bool) → (not a && b) ≡ false → a ≡ false → b ≡ false
not_both true b h e = absurd (true≢false e)
not_both false b h e = h

pub negative : (a : ℤ) → int_lt a (pos 0) ≡ true → a <ℤ pos 0
negative a h = let g = lt-true a (pos 0) h in omega (arith, ints)

pub not_negative : (a : ℤ) → int_lt a (pos 0) ≡ false → pos 0 ≤ℤ a
not_negative a h = let g = lt-false a (pos 0) h in omega (arith, ints)

pub positive : (a : ℤ) → int_lt (pos 0) a ≡ true → pos 0 <ℤ a
positive a h = let g = lt-true (pos 0) a h in omega (arith, ints)

pub not_positive : (a : ℤ) → int_lt (pos 0) a ≡ false → a ≤ℤ pos 0
not_positive a h = let g = lt-false (pos 0) a h in omega (arith, ints)

-- the rule's choice: the least infeasible variable, and the least one that helps it
pub record IsChoice (t : RationalDictionary) (r c : ℕ) : Type 0 where
  pub is_leaving : leaving t ≡ r
  pub is_entering : entering t ≡ c
  pub leaving_within : r < t.size
  pub entering_within : c < t.size
  pub leaving_basic : t.is_basic r ≡ true
  pub entering_free : t.is_basic c ≡ false
  pub infeasible : t.constant r <ℤ pos 0
  pub helping : pos 0 <ℤ t.entry r c
  pub feasible_below : (v : ℕ) → v < r → t.is_basic v ≡ true → pos 0 ≤ℤ t.constant v
  pub no_help_below : (w : ℕ) → w < c → t.is_basic w ≡ false → t.entry r w ≤ℤ pos 0

pub chosen : (t : RationalDictionary) → is_end t ≡ false → IsChoice t (leaving t) (entering t)
unfolding leaving entering
chosen t going =
    let both : (nat_lt (leaving t) t.size && nat_lt (entering t) t.size) ≡ true = not-false (nat_lt (leaving t) t.size && nat_lt (entering t) t.size) going in
    let r_within : leaving t < t.size = ltb-true (leaving t) t.size (and_left (nat_lt (leaving t) t.size) (nat_lt (entering t) t.size) both) in
    let c_within : entering t < t.size = ltb-true (entering t) t.size (and_right (nat_lt (leaving t) t.size) (nat_lt (entering t) t.size) both) in
    let bad : is_infeasible t (leaving t) ≡ true = first-passes (is_infeasible t) t.size r_within in
    let good : helps t (leaving t) (entering t) ≡ true = first-passes (helps t (leaving t)) t.size c_within in
    record {
      is_leaving = refl;
      is_entering = refl;
      leaving_within = r_within;
      entering_within = c_within;
      leaving_basic = and_left (t.is_basic (leaving t)) (int_lt (t.constant (leaving t)) (pos 0)) bad;
      entering_free = not-true (t.is_basic (entering t)) (and_left (not (t.is_basic (entering t))) (int_lt (pos 0) (t.entry (leaving t) (entering t))) good);
      infeasible = negative (t.constant (leaving t)) (and_right (t.is_basic (leaving t)) (int_lt (t.constant (leaving t)) (pos 0)) bad);
      helping = positive (t.entry (leaving t) (entering t)) (and_right (not (t.is_basic (entering t))) (int_lt (pos 0) (t.entry (leaving t) (entering t))) good);
      feasible_below = λ v lt b. not_negative (t.constant v) (and_none (t.is_basic v) (int_lt (t.constant v) (pos 0)) (first-below (is_infeasible t) t.size v lt) b);
      no_help_below = λ w lt b. not_positive (t.entry (leaving t) w) (not_both (t.is_basic w) (int_lt (pos 0) (t.entry (leaving t) w)) (first-below (helps t (leaving t)) t.size w lt) b);
    }

pub choice_is_exchange : (t : RationalDictionary) → pos 0 <ℤ t.scale → is_end t ≡ false → IsExchange t (leaving t) (entering t)
choice_is_exchange t positive_scale going =
    let is : IsChoice t (leaving t) (entering t) = chosen t going in
    record {
      leaving_within = is.leaving_within;
      entering_within = is.entering_within;
      leaving_basic = is.leaving_basic;
      entering_free = is.entering_free;
      scale_positive = positive_scale;
      pivot_positive = is.helping;
    }

pub next_scale : (t : RationalDictionary) → pos 0 <ℤ t.scale → is_end t ≡ false → pos 0 <ℤ (next t).scale
unfolding next
next_scale t positive_scale going =
    mul_pos t.scale (t.entry (leaving t) (entering t)) positive_scale (chosen t going).helping

pub next_size : (t : RationalDictionary) → (next t).size ≡ t.size
unfolding next
next_size t = refl

pub next_basic : (t : RationalDictionary) (v : ℕ) → (next t).is_basic v ≡ cond (v == entering t) true (cond (v == leaving t) false (t.is_basic v))
unfolding next
next_basic t v = refl

-- the values of the variables where those that are not basic are 0, times the scale
abbrev pub basic_solution : RationalDictionary → ℕ → ℤ
basic_solution t v = cond (t.is_basic v) (t.constant v) (pos 0)

no_term : (b : Bool) (e c : ℤ) → cond b (pos 0) (e *ℤ cond b c (pos 0)) ≡ pos 0
no_term true e c = refl
no_term false e c = mul-zero e

plus_zero : (a b : ℤ) → b ≡ pos 0 → a ≡ a +ℤ b
plus_zero a b e = omega (arith, sums)

pub basic_solution_satisfies : (t : RationalDictionary) → IsSolution t t.scale (basic_solution t)
basic_solution_satisfies t = record {
  each = λ v lt b.
      ap (λ (n : ℤ). t.scale *ℤ n) (cond-true (t.is_basic v) (t.constant v) (pos 0) b)
      ∙ *ℤ_comm t.scale (t.constant v)
      ∙ plus_zero (t.constant v *ℤ t.scale) (sum_below (term t v (basic_solution t)) t.size)
      (sum-zero (term t v (basic_solution t)) t.size (λ w lt. no_term (t.is_basic w) (t.entry v w) (t.constant w)));
}
