-- The weights of a row's equation are a clash, and a clash leaves no vector.
use Rattle.std.proofs.Common.{◌≡◌, ℕ, zero, suc, ◌+◌, ◌-◌, ◌<◌, ◌≤◌, Bool, true, false, cond, List, [], ◌∷◌, length, get_or, ℤ, pos, neg_ℤ, ◌+ℤ◌, ◌-ℤ◌, ◌*ℤ◌, ◌≤ℤ◌, refl, sym, ap, ◌∙◌, arith}
use Rattle.std.specs.Prelude.{nat_lt, ◌==◌, All, slice_index}
use Rattle.std.proofs.lemmas.Int.{ints}
use Rattle.std.proofs.lemmas.Bool.{cond-true, cond-false, ltb-true, lt-ltb, le-ltb, eqb-true, false_from_ne_true}
use Rattle.std.proofs.lemmas.List.{ext_get_or}
use Rattle.std.proofs.lemmas.List.FromFn.{get_or-map-range_with_len, length-map-range_with_len}
use Rattle.row_laws.proofs.Integers.{sums, neg-mul, zero-mul}
use Rattle.row_laws.specs.Rows.{dot}
use Rattle.least_index.specs.Dictionary.{sum_below}
use Rattle.least_index.proofs.Sums.{sum-ext}
use Rattle.fraction_free.specs.declared.loaded.LoadedRow.{LoadedRow}
use Rattle.fraction_free.specs.Dictionary.{DictionaryView, IsDictionary, Satisfies, HasSlacks, vector_of, loaded_at, constant_in, entry_in}
use Rattle.simplex.specs.declared.row_weights.RowWeight.{RowWeight}
use Rattle.simplex.specs.Weights.{IsRowWeight, weighted}
use Rattle.simplex.specs.Equation.{variable_at, weight_at, place_in_equation, weight_of, HasSlackWeights}
use Rattle.simplex.proofs.Positions.{place-found, placed, sum-placed, sum-front}
use Rattle.simplex.proofs.ByVariable.{equation_sum}
use Rattle.simplex.proofs.Equations.{variables_distinct, variable_range, later_variable, later_weight, weight_of-none}
use Rattle.simplex.proofs.Slacks.{slack_term, sum-skip}

pub sum_neg : (f : ℕ → ℤ) (n : ℕ) → sum_below (λ i. neg_ℤ (f i)) n ≡ neg_ℤ (sum_below f n)
unfolding sum_below
sum_neg f zero = refl
sum_neg f (suc n) = ap (λ (s : ℤ). s +ℤ neg_ℤ (f n)) (sum_neg f n) ∙ step (sum_below f n) (f n)
  where
    step : (a b : ℤ) → neg_ℤ a +ℤ neg_ℤ b ≡ neg_ℤ (a +ℤ b)
    step a b = omega (arith, sums)

sum_two : (f g : ℕ → ℤ) (n : ℕ) → sum_below (λ i. f i +ℤ g i) n ≡ sum_below f n +ℤ sum_below g n
unfolding sum_below
sum_two f g zero = refl
sum_two f g (suc n) = ap (λ (s : ℤ). s +ℤ (f n +ℤ g n)) (sum_two f g n) ∙ step (sum_below f n) (sum_below g n) (f n) (g n)
  where
    step : (a b c d : ℤ) → (a +ℤ b) +ℤ (c +ℤ d) ≡ (a +ℤ c) +ℤ (b +ℤ d)
    step a b c d = omega (arith, sums)

pub sum_nonneg : (f : ℕ → ℤ) (n : ℕ) → ((i : ℕ) → i < n → pos 0 ≤ℤ f i) → pos 0 ≤ℤ sum_below f n
unfolding sum_below
sum_nonneg f zero h = omega (arith, ints)
sum_nonneg f (suc n) h = step (sum_below f n) (f n) (sum_nonneg f n (λ i lt. h i (omega arith))) (h n (omega arith))
  where
    step : (a b : ℤ) → pos 0 ≤ℤ a → pos 0 ≤ℤ b → pos 0 ≤ℤ (a +ℤ b)
    step a b h k = omega (arith, ints)

-- ---- the equation with all variables on one side

equation_in_places : (d : DictionaryView) → IsDictionary d → (x : ℕ → ℤ) (row : ℕ) → row < length d.loaded → Satisfies d x
    → sum_below (λ p. weight_at d row p *ℤ x (variable_at d row p)) (d.columns + 1) ≡ constant_in d row *ℤ x 0
equation_in_places d is x row lt sat =
    let one_more : d.columns + 1 ≡ suc d.columns = omega arith in
    ap (sum_below (λ p. weight_at d row p *ℤ x (variable_at d row p))) one_more
    ∙ sum-front (λ p. weight_at d row p *ℤ x (variable_at d row p)) d.columns
    ∙ ap (λ (s : ℤ). d.scale *ℤ x (slice_index d.basic row) +ℤ s)
    (sum-ext (λ j. weight_at d row (suc j) *ℤ x (variable_at d row (suc j))) (λ j. neg_ℤ (entry_in d row j *ℤ x (slice_index d.nonbasic j))) d.columns (λ j l. column_term j)
    ∙ sum_neg (λ j. entry_in d row j *ℤ x (slice_index d.nonbasic j)) d.columns)
    ∙ moved (d.scale *ℤ x (slice_index d.basic row)) (sum_below (λ j. entry_in d row j *ℤ x (slice_index d.nonbasic j)) d.columns) (constant_in d row *ℤ x 0)
    (sat.each row (omega (arith, is.basic_len, lt)) ∙ equation_sum d is x row lt)
  where
    moved : (a s c : ℤ) → a ≡ s +ℤ c → a +ℤ neg_ℤ s ≡ c
    moved a s c e = omega (arith, sums)

    column_term : (j : ℕ) → weight_at d row (suc j) *ℤ x (variable_at d row (suc j)) ≡ neg_ℤ (entry_in d row j *ℤ x (slice_index d.nonbasic j))
    column_term j =
        let place : suc j - 1 ≡ j = omega arith in
        ap (λ (w : ℤ). w *ℤ x (variable_at d row (suc j))) (later_weight d row (suc j) (omega arith) ∙ ap (λ (n : ℕ). neg_ℤ (entry_in d row n)) place)
        ∙ ap (λ (v : ℕ). neg_ℤ (entry_in d row j) *ℤ x v) (later_variable d row (suc j) (omega arith) ∙ ap (slice_index d.nonbasic) place)
        ∙ neg-mul (entry_in d row j) (x (slice_index d.nonbasic j))

-- over all variables
equation_in_variables : (d : DictionaryView) → IsDictionary d → (x : ℕ → ℤ) (row : ℕ) → row < length d.loaded → Satisfies d x
    → sum_below (λ v. weight_of d row v *ℤ x v) (d.columns + 1 + length d.loaded) ≡ constant_in d row *ℤ x 0
equation_in_variables d is x row lt sat =
    sum-ext (λ v. weight_of d row v *ℤ x v) (placed (variable_at d row) (d.columns + 1) (λ p. weight_at d row p *ℤ x (variable_at d row p)) (d.columns + 1)) (d.columns + 1 + length d.loaded)
    (λ v l. pointwise (nat_lt (place_in_equation d row v) (d.columns + 1)) (weight_at d row (place_in_equation d row v)) (x v) (x (variable_at d row (place_in_equation d row v)))
    (λ e. ap x (sym (place-found (variable_at d row) (d.columns + 1) v (ltb-true (place_in_equation d row v) (d.columns + 1) e)))))
    ∙ sum-placed (variable_at d row) (d.columns + 1) (λ p. weight_at d row p *ℤ x (variable_at d row p)) (d.columns + 1 + length d.loaded) (d.columns + 1) (variables_distinct d is row lt)
    (λ p l. let r = (variable_range d is row p lt l).1 in omega arith) (omega arith)
    ∙ equation_in_places d is x row lt sat
  where
    pointwise : (b : Bool) (w a c : ℤ) → (b ≡ true → a ≡ c) → cond b w (pos 0) *ℤ a ≡ cond b (w *ℤ c) (pos 0)
    pointwise true w a c h = ap (λ (n : ℤ). w *ℤ n) (h refl)
    pointwise false w a c h = zero-mul a

-- over the increments, and over the weighted rows
pub equation_of_weights : (d : DictionaryView) → IsDictionary d → (x : ℕ → ℤ) (row : ℕ) (increments : List ℤ) (rows : List RowWeight) → row < length d.loaded → Satisfies d x
    → ((column : ℕ) → column < d.columns → get_or increments column (pos 0) ≡ weight_of d row (column + 1))
    → HasSlackWeights d row (d.columns + 1 + length d.loaded) rows
    → sum_below (λ k. get_or increments k (pos 0) *ℤ x (k + 1)) d.columns +ℤ weighted (λ r. x (d.columns + r)) rows ≡ constant_in d row *ℤ x 0
equation_of_weights d is x row increments rows lt sat own slacks =
    ap (λ (s : ℤ). s +ℤ weighted (λ r. x (d.columns + r)) rows) (sym low_sum)
    ∙ ap (λ (s : ℤ). sum_below low_term (d.columns + 1 + length d.loaded) +ℤ s) (slacks (λ r. x (d.columns + r)))
    ∙ sym (sum_two low_term (slack_term d row (λ r. x (d.columns + r))) (d.columns + 1 + length d.loaded))
    ∙ sum-ext (λ v. low_term v +ℤ slack_term d row (λ r. x (d.columns + r)) v) (λ v. weight_of d row v *ℤ x v) (d.columns + 1 + length d.loaded)
    (λ v l. pointwise (nat_lt d.columns v) (weight_of d row v) (x v) (x (d.columns + (v - d.columns)))
    (λ e. let gt : d.columns < v = ltb-true d.columns v e in let same : d.columns + (v - d.columns) ≡ v = omega arith in ap x same))
    ∙ equation_in_variables d is x row lt sat
  where
    low_term : ℕ → ℤ
    low_term v = cond (nat_lt d.columns v) (pos 0) (weight_of d row v *ℤ x v)

    pointwise : (b : Bool) (w a c : ℤ) → (b ≡ true → c ≡ a) → cond b (pos 0) (w *ℤ a) +ℤ cond b (w *ℤ c) (pos 0) ≡ w *ℤ a
    pointwise true w a c h = plus (w *ℤ c) ∙ ap (λ (n : ℤ). w *ℤ n) (h refl)
      where
        plus : (m : ℤ) → pos 0 +ℤ m ≡ m
        plus m = omega (arith, sums)
    pointwise false w a c h = plus (w *ℤ a)
      where
        plus : (m : ℤ) → m +ℤ pos 0 ≡ m
        plus m = omega (arith, sums)

    none_zero : weight_of d row 0 ≡ pos 0
    none_zero = weight_of-none d row 0 (λ p l e. let low = (variable_range d is row p lt l).0 in omega arith)

    zero_first : (a b : ℤ) → a ≡ pos 0 → a +ℤ b ≡ b
    zero_first a b e = omega (arith, sums)

    low_sum : sum_below low_term (d.columns + 1 + length d.loaded) ≡ sum_below (λ k. get_or increments k (pos 0) *ℤ x (k + 1)) d.columns
    low_sum =
        let one_more : d.columns + 1 ≡ suc d.columns = omega arith in
        sum-skip low_term (d.columns + 1) (d.columns + 1 + length d.loaded) (omega arith)
        (λ v l k. cond-true (nat_lt d.columns v) (pos 0) (weight_of d row v *ℤ x v) (lt-ltb d.columns v (omega arith)))
        ∙ ap (sum_below low_term) one_more
        ∙ sum-front low_term d.columns
        ∙ zero_first (low_term 0) (sum_below (λ i. low_term (suc i)) d.columns)
        (cond-false (nat_lt d.columns 0) (pos 0) (weight_of d row 0 *ℤ x 0) (le-ltb d.columns 0 (omega arith)) ∙ ap (λ (n : ℤ). n *ℤ x 0) none_zero ∙ zero-mul (x 0))
        ∙ sum-ext (λ i. low_term (suc i)) (λ k. get_or increments k (pos 0) *ℤ x (k + 1)) d.columns
        (λ i l. let place : suc i ≡ i + 1 = omega arith in
        cond-false (nat_lt d.columns (suc i)) (pos 0) (weight_of d row (suc i) *ℤ x (suc i)) (le-ltb d.columns (suc i) (omega arith))
        ∙ ap (λ (n : ℕ). weight_of d row n *ℤ x n) place
        ∙ ap (λ (n : ℤ). n *ℤ x (i + 1)) (sym (own i l)))

-- ---- the assignment of a vector

-- the values of the variables at a vector, where the constant 1 has the value `one`
abbrev pub values_at : ℕ → List LoadedRow → List ℤ → ℤ → ℕ → ℤ
values_at columns loaded vector one v =
    cond (v == 0) one (cond (nat_lt columns v) (dot (loaded_at loaded (v - columns - 1)).coefficients vector -ℤ (loaded_at loaded (v - columns - 1)).least *ℤ one) (get_or vector (v - 1) (pos 0) -ℤ one))

value_of_increment : (columns : ℕ) (loaded : List LoadedRow) (vector : List ℤ) (one : ℤ) (k : ℕ) → k < columns → values_at columns loaded vector one (k + 1) ≡ get_or vector k (pos 0) -ℤ one
value_of_increment columns loaded vector one k lt =
    let place : k + 1 - 1 ≡ k = omega arith in
    cond-false ((k + 1) == 0) one _ (false_from_ne_true ((k + 1) == 0) (λ e. let z : k + 1 ≡ 0 = eqb-true (k + 1) 0 e in omega arith))
    ∙ cond-false (nat_lt columns (k + 1)) _ (get_or vector (k + 1 - 1) (pos 0) -ℤ one) (le-ltb columns (k + 1) (omega arith))
    ∙ ap (λ (n : ℕ). get_or vector n (pos 0) -ℤ one) place

value_of_slack : (columns : ℕ) (loaded : List LoadedRow) (vector : List ℤ) (one : ℤ) (i : ℕ) → values_at columns loaded vector one (columns + 1 + i) ≡ dot (loaded_at loaded i).coefficients vector -ℤ (loaded_at loaded i).least *ℤ one
value_of_slack columns loaded vector one i =
    let place : columns + 1 + i - columns - 1 ≡ i = omega arith in
    cond-false ((columns + 1 + i) == 0) one _ (false_from_ne_true ((columns + 1 + i) == 0) (λ e. let z : columns + 1 + i ≡ 0 = eqb-true (columns + 1 + i) 0 e in omega arith))
    ∙ cond-true (nat_lt columns (columns + 1 + i)) (dot (loaded_at loaded (columns + 1 + i - columns - 1)).coefficients vector -ℤ (loaded_at loaded (columns + 1 + i - columns - 1)).least *ℤ one) _ (lt-ltb columns (columns + 1 + i) (omega arith))
    ∙ ap (λ (n : ℕ). dot (loaded_at loaded n).coefficients vector -ℤ (loaded_at loaded n).least *ℤ one) place

vector_of_values : (columns : ℕ) (loaded : List LoadedRow) (vector : List ℤ) (one : ℤ) → length vector ≡ columns → vector_of columns (values_at columns loaded vector one) ≡ vector
vector_of_values columns loaded vector one e =
    ext_get_or (pos 0) (vector_of columns (values_at columns loaded vector one)) vector (len ∙ sym e)
    (λ k lt. let l : k < columns = omega (arith, len) in
    get_or-map-range_with_len (λ variable. values_at columns loaded vector one variable +ℤ one) 1 columns k (k + 1) (pos 0) l (omega arith)
    ∙ ap (λ (n : ℤ). n +ℤ one) (value_of_increment columns loaded vector one k l) ∙ back (get_or vector k (pos 0)) one)
  where
    len : length (vector_of columns (values_at columns loaded vector one)) ≡ columns
    len = length-map-range_with_len (λ variable. values_at columns loaded vector one variable +ℤ one) 1 columns

    back : (a b : ℤ) → a -ℤ b +ℤ b ≡ a
    back a b = omega (arith, sums)

values_have_slacks : (columns : ℕ) (loaded : List LoadedRow) (vector : List ℤ) (one : ℤ) → length vector ≡ columns → HasSlacks columns loaded (values_at columns loaded vector one)
values_have_slacks columns loaded vector one e = record {
  each = λ row lt.
      value_of_slack columns loaded vector one row
      ∙ ap (λ (l : List ℤ). dot (loaded_at loaded row).coefficients l -ℤ (loaded_at loaded row).least *ℤ one) (sym (vector_of_values columns loaded vector one e));
}

weighted_ext : (f g : ℕ → ℤ) (rows : List RowWeight) → All IsRowWeight rows → ((r : ℕ) → 1 ≤ r → f r ≡ g r) → weighted f rows ≡ weighted g rows
weighted_ext f g [] are h = refl
weighted_ext f g (x ∷ rows) are h =
    ap (λ (n : ℤ). x.weight *ℤ n +ℤ weighted f rows) (h x.row (are 0 x (omega arith)).numbered)
    ∙ ap (λ (s : ℤ). x.weight *ℤ g x.row +ℤ s) (weighted_ext f g rows (λ k y lt. are (suc k) y (omega arith)) h)

-- what the weights say of a vector
pub weights_at_vector : (d : DictionaryView) → IsDictionary d → (row : ℕ) (increments : List ℤ) (rows : List RowWeight) (vector : List ℤ) (one : ℤ) → row < length d.loaded → length vector ≡ d.columns
    → ((column : ℕ) → column < d.columns → get_or increments column (pos 0) ≡ weight_of d row (column + 1))
    → HasSlackWeights d row (d.columns + 1 + length d.loaded) rows → All IsRowWeight rows
    → sum_below (λ k. get_or increments k (pos 0) *ℤ (get_or vector k (pos 0) -ℤ one)) d.columns
    +ℤ weighted (λ r. dot (loaded_at d.loaded (r - 1)).coefficients vector -ℤ (loaded_at d.loaded (r - 1)).least *ℤ one) rows
    ≡ constant_in d row *ℤ one
weights_at_vector d is row increments rows vector one lt len own slacks are =
    ap (λ (s : ℤ). s +ℤ weighted (λ r. dot (loaded_at d.loaded (r - 1)).coefficients vector -ℤ (loaded_at d.loaded (r - 1)).least *ℤ one) rows)
    (sum-ext (λ k. get_or increments k (pos 0) *ℤ (get_or vector k (pos 0) -ℤ one)) (λ k. get_or increments k (pos 0) *ℤ values_at d.columns d.loaded vector one (k + 1)) d.columns
    (λ k l. ap (λ (n : ℤ). get_or increments k (pos 0) *ℤ n) (sym (value_of_increment d.columns d.loaded vector one k l))))
    ∙ ap (λ (s : ℤ). sum_below (λ k. get_or increments k (pos 0) *ℤ values_at d.columns d.loaded vector one (k + 1)) d.columns +ℤ s)
    (weighted_ext (λ r. dot (loaded_at d.loaded (r - 1)).coefficients vector -ℤ (loaded_at d.loaded (r - 1)).least *ℤ one) (λ r. values_at d.columns d.loaded vector one (d.columns + r)) rows are
    (λ r low. let place : d.columns + 1 + (r - 1) ≡ d.columns + r = omega arith in sym (ap (values_at d.columns d.loaded vector one) (sym place) ∙ value_of_slack d.columns d.loaded vector one (r - 1))))
    ∙ equation_of_weights d is (values_at d.columns d.loaded vector one) row increments rows lt
    ((is.solutions (values_at d.columns d.loaded vector one)).1 (values_have_slacks d.columns d.loaded vector one len)) own slacks
