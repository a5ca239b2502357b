-- The vector of a feasible dictionary meets its rows.
use Rattle.std.proofs.Common.{◌≡◌, ◌≢◌, ℕ, zero, suc, ◌+◌, ◌-◌, ◌<◌, ◌≤◌, Bool, true, false, cond, List, [], ◌∷◌, length, get_or, take, replicate, ◌⊎◌, inl, inr, ℤ, pos, negsuc, ◌+ℤ◌, ◌-ℤ◌, ◌*ℤ◌, ◌<ℤ◌, ◌≤ℤ◌, refl, sym, ap, subst, ◌∙◌, arith}
use Rattle.std.specs.Prelude.{All, slice_index, slice_set}
use Rattle.std.proofs.Math.IntN.{*ℤ_comm}
use Rattle.std.proofs.lemmas.Int.{ints}
use Rattle.std.proofs.lemmas.Bool.{cond-true, cond-false}
use Rattle.std.proofs.lemmas.List.{ext_get_or, get_or-take, length-map}
use Rattle.std.proofs.lemmas.List.FromFn.{get_or-map-range_with_len, length-map-range_with_len}
use Rattle.std.proofs.lemmas.List.Elements.{All-from_get_or}
use Rattle.row_laws.proofs.Integers.{sums, mul-add, mul_left_comm, mul-zero, zero-mul, one-mul}
use Rattle.row_laws.specs.Rows.{dot, times}
use Rattle.fraction_free.specs.Dictionary.{DictionaryView, IsDictionary, Satisfies, HasSlacks, vector_of, slack_of, loaded_at, constant_in}
use Rattle.row_laws.proofs.Signs.{mul_neg}
use Rattle.least_index.proofs.Choice.{basic_solution, basic_solution_satisfies}
use Rattle.simplex.specs.Choice.{IsFeasible}
use Rattle.simplex.specs.Point.{IsScaledPoint}
use Rattle.simplex.specs.Rows.{MeetsRows}
use Rattle.simplex.proofs.Variables.{HasVariables, variables_of}
use Rattle.simplex.proofs.Sizes.{scale_small, entry_small, sum_small}
use Rattle.simplex.proofs.ScaledPoints.{Written, written_none, written_more, written_past, written_len}
use Rattle.simplex.proofs.ByVariable.{by_variable, row_place, basic_found, with_one, with_one-same, basic_at, basic_is_basic, not_basic, from_by_variable}

-- a constant of the basic variable at a column, or none
abbrev OfColumn : DictionaryView → ℕ → ℤ → Type 0
OfColumn d column value =
    ((i : ℕ) × (i < length d.loaded) × (slice_index d.basic i ≡ column + 1) × (value ≡ d.scale +ℤ constant_in d i))
    ⊎ (((i : ℕ) → i < length d.loaded → slice_index d.basic i ≢ column + 1) × (value ≡ d.scale))

of_column : (d : DictionaryView) (vector : List ℤ) → IsDictionary d → IsScaledPoint d vector → (column : ℕ) → column < d.columns → OfColumn d column (get_or vector column (pos 0))
of_column d vector is at column lt = from ((variables_of d is).each (column + 1) (omega arith) (omega arith))
  where
    from : ((i : ℕ) × (i < length d.loaded) × (slice_index d.basic i ≡ column + 1)) ⊎ ((j : ℕ) × (j < d.columns) × (slice_index d.nonbasic j ≡ column + 1)) → OfColumn d column (get_or vector column (pos 0))
    from (inl f) =
        let i : ℕ = f.0 in
        let place : slice_index d.basic f.0 - 1 ≡ column = let e = f.2 in omega arith in
        inl (f.0, f.1, f.2, ap (λ (n : ℕ). get_or vector n (pos 0)) (sym place) ∙ at.basic f.0 f.1 (let e = f.2 in omega arith))
    from (inr f) =
        let none : (i : ℕ) → i < length d.loaded → slice_index d.basic i ≢ column + 1 = λ i li e. (variables_of d is).apart i f.0 li f.1 (e ∙ sym f.2) in
        inr (none, at.nonbasic column lt none)

pub scaled_positive : (d : DictionaryView) (vector : List ℤ) → IsDictionary d → IsFeasible d → IsScaledPoint d vector → All (λ x. pos 1 ≤ℤ x) vector
scaled_positive d vector is feasible at =
    All-from_get_or (λ x. pos 1 ≤ℤ x) vector (pos 0) (λ k lt. from k (of_column d vector is at k (omega (arith, at.len))))
  where
    add : (a s c : ℤ) → a ≡ s +ℤ c → pos 1 ≤ℤ s → pos 0 ≤ℤ c → pos 1 ≤ℤ a
    add a s c e h k = omega (arith, ints)

    from : (k : ℕ) → OfColumn d k (get_or vector k (pos 0)) → pos 1 ≤ℤ get_or vector k (pos 0)
    from k (inl f) = add (get_or vector k (pos 0)) d.scale (constant_in d f.0) f.3 is.positive (feasible f.0 f.1)
    from k (inr f) = subst (λ (n : ℤ). pos 1 ≤ℤ n) (sym f.1) is.positive

-- the values of the variables at that vector, times the scale
abbrev assignment : DictionaryView → ℕ → ℤ
assignment d = with_one d.scale (basic_solution (by_variable d))

assignment_satisfies : (d : DictionaryView) → IsDictionary d → Satisfies d (assignment d)
assignment_satisfies d is = from_by_variable d is d.scale (basic_solution (by_variable d)) (basic_solution_satisfies (by_variable d))

basic_value : (d : DictionaryView) → IsDictionary d → (i : ℕ) → i < length d.loaded → basic_solution (by_variable d) (slice_index d.basic i) ≡ constant_in d i
basic_value d is i lt =
    let vs : HasVariables d = variables_of d is in
    cond-true ((by_variable d).is_basic (slice_index d.basic i)) ((by_variable d).constant (slice_index d.basic i)) (pos 0) (basic_is_basic d vs i lt)
    ∙ ap (constant_in d) (basic_at d vs i lt)

nonbasic_value : (d : DictionaryView) (v : ℕ) → ((i : ℕ) → i < length d.loaded → slice_index d.basic i ≢ v) → basic_solution (by_variable d) v ≡ pos 0
nonbasic_value d v none = cond-false ((by_variable d).is_basic v) ((by_variable d).constant v) (pos 0) (not_basic d v none)

value_nonneg : (d : DictionaryView) → IsDictionary d → IsFeasible d → (v : ℕ) → pos 0 ≤ℤ basic_solution (by_variable d) v
value_nonneg d is feasible v = from ((by_variable d).is_basic v) refl
  where
    from : (b : Bool) → (by_variable d).is_basic v ≡ b → pos 0 ≤ℤ cond b ((by_variable d).constant v) (pos 0)
    from true e = feasible (row_place d v) (basic_found d v e).0
    from false e = omega (arith, ints)

-- its increments are the vector
vector_is : (d : DictionaryView) (vector : List ℤ) → IsDictionary d → IsScaledPoint d vector → vector_of d.columns (assignment d) ≡ vector
vector_is d vector is at =
    ext_get_or (pos 0) (vector_of d.columns (assignment d)) vector
    (len ∙ sym at.len)
    (λ k lt. let l : k < d.columns = omega (arith, len) in
    get_or-map-range_with_len (λ variable. assignment d variable +ℤ assignment d 0) 1 d.columns k (k + 1) (pos 0) l (omega arith)
    ∙ ap (λ (n : ℤ). n +ℤ d.scale) (with_one-same d.scale (basic_solution (by_variable d)) (k + 1) (omega arith))
    ∙ from k (of_column d vector is at k l))
  where
    len : length (vector_of d.columns (assignment d)) ≡ d.columns
    len = length-map-range_with_len (λ variable. assignment d variable +ℤ assignment d 0) 1 d.columns

    swap : (a b : ℤ) → a +ℤ b ≡ b +ℤ a
    swap a b = omega (arith, sums)

    zero_plus : (a : ℤ) → pos 0 +ℤ a ≡ a
    zero_plus a = omega (arith, sums)

    from : (k : ℕ) → OfColumn d k (get_or vector k (pos 0)) → basic_solution (by_variable d) (k + 1) +ℤ d.scale ≡ get_or vector k (pos 0)
    from k (inl f) =
        ap (λ (n : ℕ). basic_solution (by_variable d) n +ℤ d.scale) (sym f.2)
        ∙ ap (λ (n : ℤ). n +ℤ d.scale) (basic_value d is f.0 f.1)
        ∙ swap (constant_in d f.0) d.scale ∙ sym f.3
    from k (inr f) =
        ap (λ (n : ℤ). n +ℤ d.scale) (nonbasic_value d (k + 1) f.0) ∙ zero_plus d.scale ∙ sym f.1

dot_times : (k : ℤ) (xs ys : List ℤ) → dot xs (times k ys) ≡ k *ℤ dot xs ys
dot_times k [] ys = sym (mul-zero k)
dot_times k (x ∷ xs) [] = sym (mul-zero k)
dot_times k (x ∷ xs) (y ∷ ys) =
    ap (λ (s : ℤ). x *ℤ (k *ℤ y) +ℤ s) (dot_times k xs ys) ∙ step x y k (dot xs ys)
  where
    step : (x y k s : ℤ) → x *ℤ (k *ℤ y) +ℤ k *ℤ s ≡ k *ℤ (x *ℤ y +ℤ s)
    step x y k s = omega (arith, sums, mul_left_comm x k y, mul-add k (x *ℤ y) s)

raised : (a : ℤ) → pos 1 ≤ℤ a → pos 0 <ℤ a
raised a h = omega (arith, ints)

-- where a multiple is at least the least times a positive scale, the number is at least the least
meets_step : (least scale factor n slack value : ℤ) → (least ≡ pos 0) ⊎ (least ≡ pos 1) → pos 1 ≤ℤ scale → pos 1 ≤ℤ factor → pos 0 ≤ℤ slack → slack ≡ value -ℤ least *ℤ scale → value ≡ factor *ℤ n → least ≤ℤ n
meets_step least scale factor (pos n) slack value (inl l) ps pf h e m = omega (arith, ints)
meets_step least scale factor (negsuc n) slack value (inl l) ps pf h e m =
    absurd (below (negsuc n *ℤ factor) (least *ℤ scale) slack value (mul_neg (negsuc n) factor (omega (arith, ints)) (raised factor pf)) (ap (λ (k : ℤ). k *ℤ scale) l ∙ zero-mul scale) h e (m ∙ *ℤ_comm factor (negsuc n)))
  where
    below : (p l slack value : ℤ) → p <ℤ pos 0 → l ≡ pos 0 → pos 0 ≤ℤ slack → slack ≡ value -ℤ l → value ≡ p → ⊥
    below p l slack value hp hl h e m = omega (arith, ints)
meets_step least scale factor (pos (suc n)) slack value (inr l) ps pf h e m = omega (arith, ints)
meets_step least scale factor (pos zero) slack value (inr l) ps pf h e m =
    absurd (below (least *ℤ scale) slack value (ap (λ (k : ℤ). k *ℤ scale) l ∙ one-mul scale) h e (m ∙ mul-zero factor))
  where
    below : (l slack value : ℤ) → l ≡ scale → pos 0 ≤ℤ slack → slack ≡ value -ℤ l → value ≡ pos 0 → ⊥
    below l slack value hl h e m = omega (arith, ints)
meets_step least scale factor (negsuc n) slack value (inr l) ps pf h e m =
    absurd (below (negsuc n *ℤ factor) (least *ℤ scale) slack value (mul_neg (negsuc n) factor (omega (arith, ints)) (raised factor pf)) (ap (λ (k : ℤ). k *ℤ scale) l ∙ one-mul scale) h e (m ∙ *ℤ_comm factor (negsuc n)))
  where
    below : (p l slack value : ℤ) → p <ℤ pos 0 → l ≡ scale → pos 0 ≤ℤ slack → slack ≡ value -ℤ l → value ≡ p → ⊥
    below p l slack value hp hl h e m = omega (arith, ints)

pub point_meets : (d : DictionaryView) (values result : List ℤ) (factor : ℤ) → IsDictionary d → IsFeasible d → IsScaledPoint d values
    → pos 1 ≤ℤ factor → values ≡ times factor result → All (λ x. pos 1 ≤ℤ x) result
    → MeetsRows d.columns d.loaded result
point_meets d values result factor is feasible at pf multiple positive = record {
  len = sym (length-map result (λ x. factor *ℤ x)) ∙ sym (ap length multiple) ∙ at.len;
  positive = positive;
  each = λ row lt.
      let vs : HasVariables d = variables_of d is in
      let slacks : HasSlacks d.columns d.loaded (assignment d) = (is.solutions (assignment d)).0 (assignment_satisfies d is) in
      let slack : assignment d (d.columns + 1 + row) ≡ slack_of d.columns (loaded_at d.loaded row) (assignment d) = slacks.each row lt in
      meets_step (loaded_at d.loaded row).least d.scale factor (dot (loaded_at d.loaded row).coefficients result) (assignment d (d.columns + 1 + row)) (dot (loaded_at d.loaded row).coefficients (vector_of d.columns (assignment d)))
      (is.rows row lt).least is.positive pf
      (subst (λ (n : ℤ). pos 0 ≤ℤ n) (sym (with_one-same d.scale (basic_solution (by_variable d)) (d.columns + 1 + row) (omega arith))) (value_nonneg d is feasible (d.columns + 1 + row)))
      slack
      (ap (dot (loaded_at d.loaded row).coefficients) (vector_is d values is at ∙ multiple) ∙ dot_times factor (loaded_at d.loaded row).coefficients result);
}

abbrev pub WrittenPoint : DictionaryView → ℕ → List ℤ → Type 0
WrittenPoint d at cells = Written (slice_index d.basic) (λ i. d.scale +ℤ constant_in d i) d.scale d.columns at cells

pub scaled_none : (d : DictionaryView) (z : ℤ) → IsDictionary d → z ≡ d.scale → WrittenPoint d 0 (replicate 24 z)
scaled_none d z is e =
    subst (λ (n : ℤ). WrittenPoint d 0 (replicate 24 n)) (sym e)
    (written_none (slice_index d.basic) (λ i. d.scale +ℤ constant_in d i) d.scale d.columns (let s = scale_small d is in omega arith))

pub scaled_more : (d : DictionaryView) (at : ℕ) (cells new : List ℤ) (v : ℕ) (z : ℤ) → IsDictionary d → at < length d.loaded
    → v ≡ slice_index d.basic at → v ≤ d.columns → z ≡ d.scale +ℤ constant_in d at → new ≡ slice_set cells (v - 1) z → WrittenPoint d at cells → WrittenPoint d (at + 1) new
scaled_more d at cells new v z is lt e le ez en w =
    subst (λ (l : List ℤ). WrittenPoint d (at + 1) l)
    (sym (en ∙ ap (λ (n : ℕ). slice_set cells (n - 1) z) e ∙ ap (slice_set cells (slice_index d.basic at - 1)) ez))
    (written_more (slice_index d.basic) (λ i. d.scale +ℤ constant_in d i) d.scale d.columns at (length d.loaded) cells vs.basic_distinct lt vs.basic_low is.columns_most
    (sum_small d.scale (constant_in d at) (scale_small d is) (entry_small d is at d.columns lt (omega arith))) (omega (arith, e)) w)
  where
    vs : HasVariables d
    vs = variables_of d is

pub scaled_past : (d : DictionaryView) (at : ℕ) (cells new : List ℤ) (v : ℕ) → v ≡ slice_index d.basic at → d.columns < v → new ≡ cells → WrittenPoint d at cells → WrittenPoint d (at + 1) new
scaled_past d at cells new v e gt en w =
    subst (λ (l : List ℤ). WrittenPoint d (at + 1) l) (sym en)
    (written_past (slice_index d.basic) (λ i. d.scale +ℤ constant_in d i) d.scale d.columns at cells (omega (arith, e)) w)

pub scaled_is : (d : DictionaryView) (cells : List ℤ) (at : ℕ) → IsDictionary d → length d.loaded ≤ at → at ≤ length d.loaded → WrittenPoint d at cells → IsScaledPoint d (take d.columns cells)
scaled_is d cells at is ge le w = record {
  len = written_len (slice_index d.basic) (λ i. d.scale +ℤ constant_in d i) d.scale d.columns at d.columns cells is.columns_most w;
  basic = λ row lt h. let lo = (variables_of d is).basic_low row lt in get_or-take d.columns cells (slice_index d.basic row - 1) (pos 0) (omega arith) ∙ w.placed row (omega arith) h;
  nonbasic = λ column lt none. get_or-take d.columns cells column (pos 0) lt ∙ w.others column (omega (arith, is.columns_most)) (λ i li. none i (omega arith));
}
