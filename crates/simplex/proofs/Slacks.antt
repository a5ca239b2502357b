-- The slacks with a positive weight, in ascending order.
use Rattle.std.proofs.Common.{◌≡◌, ◌≢◌, ℕ, zero, suc, ◌+◌, ◌-◌, ◌^◌, ◌<◌, ◌≤◌, Bool, true, false, cond, ◌&&◌, List, [], ◌∷◌, ◌++◌, length, ◌⊎◌, inl, inr, ℤ, pos, negsuc, ◌+ℤ◌, ◌*ℤ◌, ◌<ℤ◌, ◌≤ℤ◌, unsigned_abs, refl, sym, ap, subst, ◌∙◌, arith}
use Rattle.std.specs.Prelude.{nat_lt, ◌==◌, int_lt, All}
use Rattle.std.proofs.lemmas.Int.{ints}
use Rattle.std.proofs.lemmas.Bool.{cond-true, cond-false, cases_Bool, ltb-true, lt-ltb, le-ltb, eqb-true, eqb-false, true≢false, false≢true, false_from_ne_true, true_from_ne_false}
use Rattle.std.proofs.lemmas.List.{length-append}
use Rattle.std.proofs.lemmas.List.Elements.{All-append}
use Rattle.std.specs.Cmp.Derive.{both_true}
use Rattle.row_laws.proofs.Integers.{sums, zero-mul}
use Rattle.least_index.specs.Dictionary.{sum_below}
use Rattle.least_index.proofs.Sums.{sum-suc, sum-zero}
use Rattle.least_index.proofs.Choice.{and_left, and_right, not_positive}
use Rattle.fraction_free.specs.Dictionary.{DictionaryView, IsDictionary}
use Rattle.simplex.specs.declared.row_weights.RowWeight.{RowWeight}
use Rattle.simplex.specs.Weights.{AreRowWeights, weighted}
use Rattle.simplex.specs.Choice.{IsBlocked}
use Rattle.simplex.specs.Equation.{variable_at, weight_at, weight_of, how_many, has_slack, IsNextWeight, HasNoNextWeight, HasSlackWeights}
use Rattle.simplex.proofs.Pushes.{one_item, rows_more}
use Rattle.simplex.proofs.Equations.{variable_range, weight_small, weight_nonneg, weight_of-at, weight_of-none, has_place}

-- ---- how many numbers below n pass a test

count_one : (a b : Bool) (m n : ℕ) → (a ≡ true → b ≡ true) → m ≤ n → m + cond a 1 0 ≤ n + cond b 1 0
count_one true true m n h le = omega arith
count_one true false m n h le = absurd (false≢true (h refl))
count_one false true m n h le = omega arith
count_one false false m n h le = omega arith

count_bound : (a : Bool) (m n : ℕ) → m ≤ n → m + cond a 1 0 ≤ suc n
count_bound true m n le = omega arith
count_bound false m n le = omega arith

pub how_many-le : (test : ℕ → Bool) (n : ℕ) → how_many test n ≤ n
unfolding how_many
how_many-le test zero = omega arith
how_many-le test (suc n) = count_bound (test n) (how_many test n) n (how_many-le test n)

how_many-part : (test other : ℕ → Bool) (n : ℕ) → ((i : ℕ) → i < n → test i ≡ true → other i ≡ true) → how_many test n ≤ how_many other n
unfolding how_many
how_many-part test other zero h = omega arith
how_many-part test other (suc n) h =
    count_one (test n) (other n) (how_many test n) (how_many other n) (h n (omega arith)) (how_many-part test other n (λ i lt. h i (omega arith)))

here_less : (a b : Bool) (m n : ℕ) → a ≡ false → b ≡ true → m ≤ n → m + cond a 1 0 < n + cond b 1 0
here_less true b m n e f le = absurd (true≢false e)
here_less false true m n e f le = omega arith
here_less false false m n e f le = absurd (false≢true f)

there_less : (a b : Bool) (m n : ℕ) → (a ≡ true → b ≡ true) → m < n → m + cond a 1 0 < n + cond b 1 0
there_less true true m n h lt = omega arith
there_less true false m n h lt = absurd (false≢true (h refl))
there_less false true m n h lt = omega arith
there_less false false m n h lt = omega arith

pub how_many-fewer : (test other : ℕ → Bool) (n p : ℕ) → p < n → ((i : ℕ) → i < n → test i ≡ true → other i ≡ true) → test p ≡ false → other p ≡ true → how_many test n < how_many other n
unfolding how_many
how_many-fewer test other zero p lt h fails passes = absurd (omega arith)
how_many-fewer test other (suc n) p lt h fails passes = from (λ (ne : p ≢ n). how_many-fewer test other n p (omega arith) (λ i l. h i (omega arith)) fails passes) (cases_Bool (p == n))
  where
    from : (p ≢ n → how_many test n < how_many other n) → ((p == n) ≡ true) ⊎ ((p == n) ≡ false) → how_many test n + cond (test n) 1 0 < how_many other n + cond (other n) 1 0
    from rest (inl e) =
        let same : p ≡ n = eqb-true p n e in
        here_less (test n) (other n) (how_many test n) (how_many other n) (sym (ap test same) ∙ fails) (sym (ap other same) ∙ passes) (how_many-part test other n (λ i l. h i (omega arith)))
    from rest (inr e) =
        there_less (test n) (other n) (how_many test n) (how_many other n) (h n (omega arith)) (rest (eqb-false p n e))

-- the place has a later variable with a positive weight
abbrev pub is_later : DictionaryView → ℕ → ℕ → ℕ → Bool
is_later d row above p = nat_lt above (variable_at d row p) && int_lt (pos 0) (weight_at d row p)

-- how many places have
abbrev pub remaining : DictionaryView → ℕ → ℕ → ℕ
remaining d row above = how_many (is_later d row above) (d.columns + 1)

positive_test : (a : ℤ) → pos 0 <ℤ a → int_lt (pos 0) a ≡ true
positive_test a h = true_from_ne_false (int_lt (pos 0) a) (λ e. let g = not_positive a e in omega (arith, ints))

pub remaining_falls : (d : DictionaryView) (row above v place : ℕ) → IsNextWeight d row above place → v ≡ variable_at d row place → remaining d row v < remaining d row above
remaining_falls d row above v place is e =
    how_many-fewer (is_later d row v) (is_later d row above) (d.columns + 1) place (let w = is.within in omega arith)
    (λ i l t.
    let gt : v < variable_at d row i = ltb-true v (variable_at d row i) (and_left (nat_lt v (variable_at d row i)) (int_lt (pos 0) (weight_at d row i)) t) in
    both_true (lt-ltb above (variable_at d row i) (let a = is.later in omega (arith, e))) (and_right (nat_lt v (variable_at d row i)) (int_lt (pos 0) (weight_at d row i)) t))
    (false_from_ne_true (is_later d row v place) (λ t.
    let gt : v < variable_at d row place = ltb-true v (variable_at d row place) (and_left (nat_lt v (variable_at d row place)) (int_lt (pos 0) (weight_at d row place)) t) in omega arith))
    (both_true (lt-ltb above (variable_at d row place) is.later) (positive_test (weight_at d row place) is.positive))

-- ---- the sum over the slacks

abbrev pub slack_term : DictionaryView → ℕ → (ℕ → ℤ) → ℕ → ℤ
slack_term d row of variable = cond (nat_lt d.columns variable) (weight_of d row variable *ℤ of (variable - d.columns)) (pos 0)

pub sum-skip : (f : ℕ → ℤ) (n m : ℕ) → n ≤ m → ((i : ℕ) → n ≤ i → i < m → f i ≡ pos 0) → sum_below f m ≡ sum_below f n
unfolding sum_below
sum-skip f n zero le h = let e : n ≡ 0 = omega arith in ap (sum_below f) (sym e)
sum-skip f n (suc m) le h = from (λ (k : n ≤ m). sum-skip f n m k (λ i l j. h i l (omega arith))) (cases_Bool (n == suc m))
  where
    drop_zero : (a b : ℤ) → b ≡ pos 0 → a +ℤ b ≡ a
    drop_zero a b e = omega (arith, sums)

    from : (n ≤ m → sum_below f m ≡ sum_below f n) → ((n == suc m) ≡ true) ⊎ ((n == suc m) ≡ false) → sum_below f m +ℤ f m ≡ sum_below f n
    from rest (inl e) = sym (sum-suc f m) ∙ ap (sum_below f) (sym (eqb-true n (suc m) e))
    from rest (inr e) =
        let ne : n ≢ suc m = eqb-false n (suc m) e in
        drop_zero (sum_below f m) (f m) (h m (omega arith) (omega arith)) ∙ rest (omega arith)

pub weighted-append : (of : ℕ → ℤ) (xs : List RowWeight) (x : RowWeight) → weighted of (xs ++ x ∷ []) ≡ weighted of xs +ℤ x.weight *ℤ of x.row
weighted-append of [] x = flip (x.weight *ℤ of x.row)
  where
    flip : (a : ℤ) → a +ℤ pos 0 ≡ pos 0 +ℤ a
    flip a = omega (arith, sums)
weighted-append of (y ∷ xs) x =
    ap (λ (s : ℤ). y.weight *ℤ of y.row +ℤ s) (weighted-append of xs x) ∙ regroup (y.weight *ℤ of y.row) (weighted of xs) (x.weight *ℤ of x.row)
  where
    regroup : (a b c : ℤ) → a +ℤ (b +ℤ c) ≡ (a +ℤ b) +ℤ c
    regroup a b c = omega (arith, sums)

-- a variable without a later positive weight has none
zero_weight : (d : DictionaryView) → IsDictionary d → (row u : ℕ) → row < length d.loaded → IsBlocked d row
    → ((p : ℕ) → p < d.columns + 1 → variable_at d row p ≡ u → pos 0 <ℤ weight_at d row p → ⊥) → weight_of d row u ≡ pos 0
zero_weight d is row u lt blocked none = from (has_place d row u)
  where
    zero_of : (a : ℤ) → pos 0 ≤ℤ a → (pos 0 <ℤ a → ⊥) → a ≡ pos 0
    zero_of (pos zero) h n = refl
    zero_of (pos (suc a)) h n = absurd (n (omega (arith, ints)))
    zero_of (negsuc a) h n = absurd (omega (arith, ints))

    from : ((p : ℕ) × (p < d.columns + 1) × (variable_at d row p ≡ u)) ⊎ ((p : ℕ) → p < d.columns + 1 → variable_at d row p ≢ u) → weight_of d row u ≡ pos 0
    from (inl f) = sym (ap (weight_of d row) f.2) ∙ weight_of-at d is row f.0 lt f.1 ∙ zero_of (weight_at d row f.0) (weight_nonneg d is row f.0 blocked f.1) (none f.0 f.1 f.2)
    from (inr n) = weight_of-none d row u n

zero_term : (d : DictionaryView) (row u : ℕ) (of : ℕ → ℤ) → weight_of d row u ≡ pos 0 → slack_term d row of u ≡ pos 0
zero_term d row u of e = step (nat_lt d.columns u) (weight_of d row u *ℤ of (u - d.columns)) (ap (λ (n : ℤ). n *ℤ of (u - d.columns)) e ∙ zero-mul (of (u - d.columns)))
  where
    step : (b : Bool) (a : ℤ) → a ≡ pos 0 → cond b a (pos 0) ≡ pos 0
    step true a e = e
    step false a e = refl

-- the weighted rows so far
pub record SlacksSoFar (d : DictionaryView) (row columns above : ℕ) (rows : List RowWeight) : Type 0 where
  pub columns_is : columns ≡ d.columns
  pub low : d.columns ≤ above
  pub high : above ≤ d.columns + length d.loaded
  pub weights : AreRowWeights rows
  pub below : All (λ item. item.row + d.columns ≤ above) rows
  pub room : length rows + remaining d row above ≤ remaining d row d.columns
  pub summed : HasSlackWeights d row (above + 1) rows

pub slacks_none : (d : DictionaryView) (row columns : ℕ) → IsDictionary d → columns ≡ d.columns → SlacksSoFar d row columns columns []
slacks_none d row columns is e = record {
  columns_is = e;
  low = omega arith;
  high = omega arith;
  weights = record { most = omega arith; each = λ k x lt. absurd (omega arith); ascending = λ k lt. absurd (omega arith) };
  below = λ k x lt. absurd (omega arith);
  room = omega (arith, ap (remaining d row) e);
  summed = λ of. sym (sum-zero (slack_term d row of) (columns + 1) (λ u lt. cond-false (nat_lt d.columns u) (weight_of d row u *ℤ of (u - d.columns)) (pos 0) (le-ltb d.columns u (omega arith))));
}

pub slack_room : (d : DictionaryView) (row columns above place : ℕ) (rows : List RowWeight) → IsDictionary d → IsNextWeight d row above place → SlacksSoFar d row columns above rows → length rows < 25
slack_room d row columns above place rows is next so =
    let falls = remaining_falls d row above (variable_at d row place) place next refl in
    let most = how_many-le (is_later d row d.columns) (d.columns + 1) in
    let r = so.room in omega (arith, is.columns_most)

pub slacks_more : (d : DictionaryView) (row columns above v place : ℕ) (w : ℤ) (rows new : List RowWeight) → IsDictionary d → row < length d.loaded → IsBlocked d row
    → IsNextWeight d row above place → v ≡ variable_at d row place → w ≡ weight_at d row place → new ≡ rows ++ (record { row = v - columns; weight = w }) ∷ []
    → SlacksSoFar d row columns above rows → SlacksSoFar d row columns v new
slacks_more d row columns above v place w rows new is lt blocked next ev ew en so = record {
  columns_is = so.columns_is;
  low = let a = next.later in let b = so.low in omega (arith, ev);
  high = omega (arith, ev, range.1);
  weights = subst AreRowWeights (sym en) (rows_more rows x so.weights (slack_room d row columns above place rows is next so)
      (record {
        numbered = let a = next.later in let b = so.low in omega (arith, ev, so.columns_is);
        positive = subst (λ (n : ℤ). pos 0 <ℤ n) (sym ew) next.positive;
        within = subst (λ (n : ℤ). unsigned_abs n < 2 ^ 96) (sym ew) (weight_small d is row place lt (let h = next.within in omega arith));
      })
      (λ k y l. let b = so.below k y l in let a = next.later in omega (arith, ev, so.columns_is)));
  below = subst (All (λ item. item.row + d.columns ≤ v)) (sym en)
      (All-append (λ item. item.row + d.columns ≤ v) rows (x ∷ []) (λ k y l. let b = so.below k y l in let a = next.later in omega (arith, ev))
      (one_item (λ item. item.row + d.columns ≤ v) x (let a = next.later in let b = so.low in omega (arith, ev, so.columns_is))));
  room = let len : length new ≡ length rows + 1 = ap length en ∙ length-append rows (x ∷ []) in
      let falls = remaining_falls d row above v place next ev in let r = so.room in omega (arith, len);
  summed = λ of. sum_step of;
}
  where
    x : RowWeight
    x = record { row = v - columns; weight = w }

    range : (1 ≤ variable_at d row place) × (variable_at d row place ≤ d.columns + length d.loaded)
    range = variable_range d is row place lt (let h = next.within in omega arith)

    zeros : (of : ℕ → ℤ) (u : ℕ) → above + 1 ≤ u → u < v → slack_term d row of u ≡ pos 0
    zeros of u l k = zero_term d row u of (zero_weight d is row u lt blocked (λ p lp e positive_weight.
        let le : variable_at d row place ≤ variable_at d row p = next.least p (omega arith) (omega (arith, e)) positive_weight in
        omega (arith, ev, e)))

    sum_step : (of : ℕ → ℤ) → weighted of new ≡ sum_below (slack_term d row of) (v + 1)
    sum_step of =
        let place_is : v + 1 ≡ suc v = omega arith in
        let gt : above < v = let a = next.later in omega (arith, ev) in
        let over : d.columns < v = let b = so.low in omega arith in
        ap (weighted of) en
        ∙ weighted-append of rows x
        ∙ ap (λ (s : ℤ). s +ℤ w *ℤ of (v - columns)) (so.summed of ∙ sym (sum-skip (slack_term d row of) (above + 1) v (omega arith) (zeros of)))
        ∙ ap (λ (n : ℤ). sum_below (slack_term d row of) v +ℤ n)
        (ap (λ (n : ℤ). n *ℤ of (v - columns)) (ew ∙ sym (ap (weight_of d row) ev ∙ weight_of-at d is row place lt (let h = next.within in omega arith)))
        ∙ ap (λ (n : ℕ). weight_of d row v *ℤ of (v - n)) so.columns_is
        ∙ sym (cond-true (nat_lt d.columns v) (weight_of d row v *ℤ of (v - d.columns)) (pos 0) (lt-ltb d.columns v over)))
        ∙ sym (sum-suc (slack_term d row of) v)
        ∙ ap (sum_below (slack_term d row of)) (sym place_is)

pub slacks_done : (d : DictionaryView) (row columns above : ℕ) (rows : List RowWeight) → IsDictionary d → row < length d.loaded → IsBlocked d row → HasNoNextWeight d row above → SlacksSoFar d row columns above rows
    → HasSlackWeights d row (d.columns + 1 + length d.loaded) rows
slacks_done d row columns above rows is lt blocked none so of =
    so.summed of
    ∙ sym (sum-skip (slack_term d row of) (above + 1) (d.columns + 1 + length d.loaded) (let h = so.high in omega arith)
    (λ u l k. zero_term d row u of (zero_weight d is row u lt blocked (λ p lp e positive_weight. none p (omega arith) (omega (arith, e)) positive_weight))))

-- no more rows than places that have slacks
pub slacks_few : (d : DictionaryView) (row columns above : ℕ) (rows : List RowWeight) → SlacksSoFar d row columns above rows → length rows ≤ how_many (has_slack d row) (d.columns + 1)
slacks_few d row columns above rows so =
    let part : remaining d row d.columns ≤ how_many (has_slack d row) (d.columns + 1) =
    how_many-part (is_later d row d.columns) (has_slack d row) (d.columns + 1) (λ i lt. and_left (has_slack d row i) (int_lt (pos 0) (weight_at d row i))) in
    let r = so.room in omega arith
