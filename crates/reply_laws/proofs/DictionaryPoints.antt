-- A dictionary_of has a solution with no variable below 0, or none at all: the least-index rule finds out.
use Rattle.std.proofs.Common.{◌≡◌, ◌⊎◌, ℕ, zero, suc, ◌<◌, ◌≤◌, Bool, true, false, cond, nat_lt, ℤ, pos, ◌+ℤ◌, ◌*ℤ◌, ◌<ℤ◌, ◌≤ℤ◌, refl, inl, inr, arith}
use Rattle.std.specs.Prelude.{int_lt}
use Rattle.std.proofs.lemmas.Int.{ints}
use Rattle.std.proofs.lemmas.Bool.{cases_lt, cases_Bool, lt-ltb}
use Rattle.least_index.specs.Dictionary.{RationalDictionary, sum_below, term, IsSolution}
use Rattle.least_index.specs.Rule.{is_infeasible, helps, leaving, entering, is_end, next, pivots_left, Covers}
use Rattle.row_laws.proofs.Signs.{mul_nonneg, mul_nonpos, mul_neg}
use Rattle.least_index.proofs.Sums.{sum-nonpositive}
use Rattle.least_index.proofs.Exchange.{exchange_keeps, exchange_reflects}
use Rattle.least_index.proofs.First.{first-below, first-passes}
use Rattle.least_index.proofs.Choice.{and_right, and_left, and_none, not_both, negative, not_negative, not_positive, choice_is_exchange, next_scale, basic_solution, basic_solution_satisfies}
use Rattle.least_index.proofs.Ends.{fall}

pub record HasPoint (t : RationalDictionary) : Type 0 where
  pub one : ℤ
  pub x : ℕ → ℤ
  pub positive : pos 0 <ℤ one
  pub satisfies : IsSolution t one x
  pub nonneg : (v : ℕ) → v < t.size → pos 0 ≤ℤ x v

abbrev pub HasNone : RationalDictionary → Type 0
HasNone t = (one : ℤ) (x : ℕ → ℤ) → pos 0 <ℤ one → IsSolution t one x → ((v : ℕ) → v < t.size → pos 0 ≤ℤ x v) → ⊥

basic_nonneg : (b : Bool) (c : ℤ) → (b ≡ true → pos 0 ≤ℤ c) → pos 0 ≤ℤ cond b c (pos 0)
basic_nonneg true c h = h refl
basic_nonneg false c h = omega (arith, ints)

feasible : (t : RationalDictionary) → pos 0 <ℤ t.scale → t.size ≤ leaving t → HasPoint t
unfolding leaving
feasible t positive done = record {
  one = t.scale;
  x = basic_solution t;
  positive = positive;
  satisfies = basic_solution_satisfies t;
  nonneg =
      λ v lt. basic_nonneg (t.is_basic v) (t.constant v)
      (λ basic. not_negative (t.constant v) (and_none (t.is_basic v) (int_lt (t.constant v) (pos 0)) (first-below (is_infeasible t) t.size v (omega (arith, lt, done))) basic));
}

term_low : (b : Bool) (e x : ℤ) → (b ≡ false → e ≤ℤ pos 0) → pos 0 ≤ℤ x → cond b (pos 0) (e *ℤ x) ≤ℤ pos 0
term_low true e x h g = omega (arith, ints)
term_low false e x h g = mul_nonpos e x (h refl) g

below_zero : (scale one x constant sum : ℤ) → scale *ℤ x ≡ constant *ℤ one +ℤ sum → (constant *ℤ one) <ℤ pos 0 → sum ≤ℤ pos 0 → pos 0 ≤ℤ (scale *ℤ x) → ⊥
below_zero scale one x constant sum same low sums high = omega (arith, ints)

nonneg_product : (a b : ℤ) → pos 0 <ℤ a → pos 0 ≤ℤ b → pos 0 ≤ℤ (a *ℤ b)
nonneg_product a b h g = mul_nonneg a b (omega (arith, ints)) g

blocked : (t : RationalDictionary) → pos 0 <ℤ t.scale → leaving t < t.size → t.size ≤ entering t → HasNone t
unfolding leaving entering
blocked t positive within done one x one_positive satisfies nonneg =
    let r : ℕ = leaving t in
    let bad : is_infeasible t r ≡ true = first-passes (is_infeasible t) t.size within in
    let low : t.constant r <ℤ pos 0 = negative (t.constant r) (and_right (t.is_basic r) (int_lt (t.constant r) (pos 0)) bad) in
    let basic : t.is_basic r ≡ true = and_left (t.is_basic r) (int_lt (t.constant r) (pos 0)) bad in
    let sum : sum_below (term t r x) t.size ≤ℤ pos 0 =
    sum-nonpositive (term t r x) t.size
    (λ w lt. term_low (t.is_basic w) (t.entry r w) (x w)
    (λ free. not_positive (t.entry r w) (not_both (t.is_basic w) (int_lt (pos 0) (t.entry r w)) (first-below (helps t r) t.size w (omega (arith, lt, done))) free))
    (nonneg w lt)) in
    below_zero t.scale one (x r) (t.constant r) (sum_below (term t r x) t.size) (satisfies.each r within basic)
    (mul_neg (t.constant r) one low one_positive) sum (nonneg_product t.scale (x r) positive (nonneg r within))

back : (t : RationalDictionary) → pos 0 <ℤ t.scale → is_end t ≡ false → HasPoint (next t) → HasPoint t
unfolding next
back t positive going point = record {
  one = point.one;
  x = point.x;
  positive = point.positive;
  satisfies = exchange_reflects t (leaving t) (entering t) point.one point.x (choice_is_exchange t positive going) point.satisfies;
  nonneg = point.nonneg;
}

back_none : (t : RationalDictionary) → pos 0 <ℤ t.scale → is_end t ≡ false → HasNone (next t) → HasNone t
unfolding next
back_none t positive going none one x one_positive satisfies nonneg =
    none one x one_positive (exchange_keeps t (leaving t) (entering t) one x (choice_is_exchange t positive going) satisfies) nonneg

covers_itself : (t : RationalDictionary) → pos 0 <ℤ t.scale → Covers t t
covers_itself t positive = record { size = refl; basis = λ v lt. refl; positive = positive; other_positive = positive; solutions = λ one x sat. sat }

pub point_or_none : (n : ℕ) (t : RationalDictionary) → pos 0 <ℤ t.scale → pivots_left t < n → HasPoint t ⊎ HasNone t
point_or_none zero t positive few = absurd (omega arith)
point_or_none (suc n) t positive few =
    elim (cases_Bool (is_end t)) [
      | inl ended ↦
          elim (cases_lt (leaving t) t.size) [
            | inl within ↦
                elim (cases_lt (entering t) t.size) [
                  | inl both ↦ absurd (going_on t within both ended)
                  | inr done ↦ inr (blocked t positive within done)
                ]
            | inr done ↦ inl (feasible t positive done)
          ]
      | inr going ↦
          (let fewer : pivots_left (next t) < pivots_left t = fall t (next t) positive going (covers_itself (next t) (next_scale t positive going)) in
          elim (point_or_none n (next t) (next_scale t positive going) (omega arith)) [
            | inl point ↦ inl (back t positive going point)
            | inr none ↦ inr (back_none t positive going none)
          ])
    ]
  where
    going_on : (t : RationalDictionary) → leaving t < t.size → entering t < t.size → is_end t ≡ true → ⊥
    going_on t one other ended =
        let first : nat_lt (leaving t) t.size ≡ true = lt-ltb (leaving t) t.size one in
        let second : nat_lt (entering t) t.size ≡ true = lt-ltb (entering t) t.size other in
        let whole : is_end t ≡ false = rw (first, second) refl in
        cc
