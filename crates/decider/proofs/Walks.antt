-- A walk through weighted rows, in order: what the next ones weigh.
use Rattle.std.proofs.Common.{◌≡◌, ◌≢◌, ℕ, zero, suc, ◌+◌, ◌-◌, ◌^◌, ◌<◌, ◌≤◌, true, false, List, length, map, get_or, take, ◌⊎◌, inl, inr, ℤ, pos, negsuc, neg_ℤ, ◌+ℤ◌, ◌-ℤ◌, ◌*ℤ◌, ◌<ℤ◌, ◌≤ℤ◌, unsigned_abs, to_z, of_z, refl, sym, ap, subst, ◌∙◌, arith}
use mir.Syntax.{w128}
use Rattle.std.specs.Prelude.{◌==◌, slice_index}
use Rattle.std.proofs.lemmas.Int.{ints}
use Rattle.std.proofs.lemmas.Bool.{cases_Bool, eqb-true, eqb-false, true≢false}
use Rattle.std.proofs.lemmas.List.{get_or-map, length-map, take_more}
use Rattle.row_laws.proofs.Integers.{sums, mul-neg, sub-mul}
use Rattle.criteria_model.specs.declared.pairs.Side.{Side}
use Rattle.criteria_model.specs.declared.pairs.Side.TheVariants.{Equal}
use Rattle.simplex.specs.declared.row_weights.RowWeight.{RowWeight}
use Rattle.simplex.specs.Weights.{is_weight, IsRowWeight, AreRowWeights, no_weight, weighted}
use Rattle.simplex.proofs.Sizes.{kept}
use Rattle.simplex.proofs.Slacks.{weighted-append}
use Rattle.decider.specs.Combining.{row_at, AreFrom, TakesRow, TakesRanking}

row_step : (rows : List RowWeight) → AreRowWeights rows → (k : ℕ) → k + 1 < length rows → row_at rows k < row_at rows (k + 1)
row_step rows are k lt =
    let old : slice_index (map (λ item. item.row) rows) k < slice_index (map (λ item. item.row) rows) (k + 1) = are.ascending k (omega (arith, length-map rows (λ (item : RowWeight). item.row))) in
    omega (arith, get_or-map (λ item. item.row) rows k no_weight 0 (omega arith), get_or-map (λ item. item.row) rows (k + 1) no_weight 0 lt, old)

-- later rows have greater numbers
pub row_later : (rows : List RowWeight) → AreRowWeights rows → (i more : ℕ) → i + suc more < length rows → row_at rows i < row_at rows (i + suc more)
row_later rows are i zero lt = let e : i + 1 ≡ i + suc zero = omega arith in subst (λ (n : ℕ). row_at rows i < row_at rows n) e (row_step rows are i (omega arith))
row_later rows are i (suc more) lt =
    let e : i + suc more + 1 ≡ i + suc (suc more) = omega arith in
    let before = row_later rows are i more (omega arith) in
    let step = row_step rows are (i + suc more) (omega arith) in
    subst (λ (n : ℕ). row_at rows i < row_at rows n) e (omega arith)

pub rows_apart : (rows : List RowWeight) → AreRowWeights rows → (i j : ℕ) → i < j → j < length rows → row_at rows i < row_at rows j
rows_apart rows are i j lt within =
    let e : i + suc (j - (i + 1)) ≡ j = omega arith in
    subst (λ (n : ℕ). row_at rows i < row_at rows n) e (row_later rows are i (j - (i + 1)) (omega arith))

-- ---- one row

pub row_taken : (rows : List RowWeight) (taken row : ℕ) (weight : ℤ) → AreRowWeights rows → taken < length rows → row_at rows taken ≡ row → weight ≡ (get_or rows taken no_weight).weight
    → TakesRow rows taken row weight 1
row_taken rows taken row weight are lt er ew = record {
  within = omega arith;
  counted = λ e. omega arith;
  nonneg = subst (λ (n : ℤ). pos 0 ≤ℤ n) (sym ew) (let p = is.positive in weak (get_or rows taken no_weight).weight p);
  size = subst (λ (n : ℤ). unsigned_abs n < 2 ^ 96) (sym ew) is.within;
  later = λ place le l. let a = rows_apart rows are taken place (omega arith) l in omega arith;
  sum = λ of. ap (weighted of) (take_more rows taken no_weight lt) ∙ weighted-append of (take taken rows) (get_or rows taken no_weight)
      ∙ ap (λ (n : ℤ). weighted of (take taken rows) +ℤ n) (ap (λ (n : ℤ). n *ℤ of (row_at rows taken)) (sym ew) ∙ ap (λ (n : ℕ). weight *ℤ of n) er);
}
  where
    is : IsRowWeight (get_or rows taken no_weight)
    is = are.each taken no_weight lt

    weak : (a : ℤ) → pos 0 <ℤ a → pos 0 ≤ℤ a
    weak a h = omega (arith, ints)

pub row_none : (rows : List RowWeight) (taken row : ℕ) (weight : ℤ) → AreRowWeights rows → taken ≤ length rows → (taken < length rows → row_at rows taken ≢ row) → weight ≡ pos 0
    → AreFrom rows taken row
    → TakesRow rows taken row weight 0
row_none rows taken row weight are le other ew from = record {
  within = omega arith;
  counted = λ e. absurd (true≢false (sym e ∙ ap is_weight ew));
  nonneg = subst (λ (n : ℤ). pos 0 ≤ℤ n) (sym ew) (omega (arith, ints));
  size = subst (λ (n : ℤ). unsigned_abs n < 2 ^ 96) (sym ew) (omega arith);
  later = λ place l lt. beyond place (omega arith) lt (cases_Bool (place == taken));
  sum = λ of. let e : taken + 0 ≡ taken = omega arith in
      ap (λ (n : ℕ). weighted of (take n rows)) e ∙ nothing (weighted of (take taken rows)) (of row) ∙ ap (λ (n : ℤ). weighted of (take taken rows) +ℤ n *ℤ of row) (sym ew);
}
  where
    nothing : (a b : ℤ) → a ≡ a +ℤ pos 0 *ℤ b
    nothing a b = omega (arith, ints)

    beyond : (place : ℕ) → taken ≤ place → place < length rows → ((place == taken) ≡ true) ⊎ ((place == taken) ≡ false) → row + 1 ≤ row_at rows place
    beyond place l lt (inl e) =
        let same : place ≡ taken = eqb-true place taken e in
        let low = from place l lt in
        let ne : row_at rows place ≢ row = λ f. other (omega arith) (ap (row_at rows) (sym same) ∙ f) in
        omega arith
    beyond place l lt (inr e) =
        let ne : place ≢ taken = eqb-false place taken e in
        let low = from taken (omega arith) (omega arith) in
        let a = rows_apart rows are taken place (omega arith) lt in
        omega arith

-- ---- the rows of a ranking

some_weight : (a b : ℤ) (m n : ℕ) → (is_weight a ≡ true → 1 ≤ m) → (is_weight b ≡ true → 1 ≤ n) → is_weight (a -ℤ b) ≡ true → 1 ≤ m + n
some_weight (pos zero) (pos zero) m n h k e = absurd (true≢false (sym e))
some_weight (pos zero) (pos (suc b)) m n h k e = let l = k refl in omega arith
some_weight (pos zero) (negsuc b) m n h k e = let l = k refl in omega arith
some_weight (pos (suc a)) b m n h k e = let l = h refl in omega arith
some_weight (negsuc a) b m n h k e = let l = h refl in omega arith

size_of_difference : (a b : ℤ) → pos 0 ≤ℤ a → pos 0 ≤ℤ b → unsigned_abs a < 2 ^ 96 → unsigned_abs b < 2 ^ 96 → unsigned_abs (a -ℤ b) < 2 ^ 96
size_of_difference a b h k small also = omega (arith, ints)

both_taken : (rows : List RowWeight) (taken row : ℕ) (weight turned : ℤ) (more others : ℕ) → TakesRow rows taken row weight more → TakesRow rows (taken + more) (row + 1) turned others
    → TakesRanking rows taken row Equal (weight -ℤ turned) (more + others)
both_taken rows taken row weight turned more others takes also = record {
  within = omega (arith, also.within);
  counted = some_weight weight turned more others takes.counted also.counted;
  may = tt;
  size = size_of_difference weight turned takes.nonneg also.nonneg takes.size also.size;
  later = λ place le lt. let a = also.later place (omega arith) lt in omega arith;
  sum = λ of opposed. let e : taken + (more + others) ≡ taken + more + others = omega arith in
      ap (λ (n : ℕ). weighted of (take n rows)) e ∙ also.sum of ∙ ap (λ (s : ℤ). s +ℤ turned *ℤ of (row + 1)) (takes.sum of)
      ∙ ap (λ (n : ℤ). (weighted of (take taken rows) +ℤ weight *ℤ of row) +ℤ turned *ℤ n) (opposed refl)
      ∙ regroup (weighted of (take taken rows)) weight turned (of row);
}
  where
    regroup : (s w t x : ℤ) → (s +ℤ w *ℤ x) +ℤ t *ℤ neg_ℤ x ≡ s +ℤ (w -ℤ t) *ℤ x
    regroup s w t x = omega (arith, sums, mul-neg t x, sub-mul w t x)

difference_is : (a b : ℤ) → pos 0 ≤ℤ a → pos 0 ≤ℤ b → unsigned_abs a < 2 ^ 96 → unsigned_abs b < 2 ^ 96 → to_z w128 (of_z w128 (to_z w128 (of_z w128 a) -ℤ to_z w128 (of_z w128 b))) ≡ a -ℤ b
difference_is a b h k small also =
    ap (λ (n : ℤ). to_z w128 (of_z w128 (n -ℤ to_z w128 (of_z w128 b)))) (kept a (omega arith))
    ∙ ap (λ (n : ℤ). to_z w128 (of_z w128 (a -ℤ n))) (kept b (omega arith))
    ∙ kept (a -ℤ b) (let size = size_of_difference a b h k small also in omega arith)

-- the two rows of an equal ranking
pub equal_taken : (rows : List RowWeight) (taken row : ℕ) (side : Side) (weight turned : ℤ) (more others : ℕ) → side ≡ Equal → TakesRow rows taken row weight more
    → TakesRow rows (taken + more) (row + 1) turned others
    → TakesRanking rows taken row side (to_z w128 (of_z w128 (to_z w128 (of_z w128 weight) -ℤ to_z w128 (of_z w128 turned)))) (more + others)
equal_taken rows taken row side weight turned more others is takes also =
    subst (λ (s : Side). TakesRanking rows taken row s (to_z w128 (of_z w128 (to_z w128 (of_z w128 weight) -ℤ to_z w128 (of_z w128 turned)))) (more + others)) (sym is)
    (subst (λ (w : ℤ). TakesRanking rows taken row Equal w (more + others)) (sym (difference_is weight turned takes.nonneg also.nonneg takes.size also.size))
    (both_taken rows taken row weight turned more others takes also))
