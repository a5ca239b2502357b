-- The parts of a clash.
use Rattle.std.proofs.Common.{◌≡◌, ℕ, zero, suc, ◌+◌, ◌-◌, ◌<◌, ◌≤◌, Bool, true, false, cond, List, [], ◌∷◌, map, length, get_or, replicate, ◌⊎◌, inl, inr, ℤ, pos, neg_ℤ, ◌+ℤ◌, ◌-ℤ◌, ◌*ℤ◌, ◌<ℤ◌, ◌≤ℤ◌, refl, sym, ap, subst, ◌∙◌, arith}
use Rattle.std.specs.Prelude.{◌==◌, not, count_by, All, Any, slice_index_or}
use Rattle.std.specs.List.{range_with_len}
use Rattle.std.proofs.Math.IntN.{*ℤ_comm}
use Rattle.std.proofs.lemmas.Int.{ints, by_lt_z}
use Rattle.std.proofs.lemmas.Bool.{eqb-true}
use Rattle.std.proofs.lemmas.List.{get_or-replicate, length-replicate}
use Rattle.std.proofs.lemmas.List.FromFn.{get_or-map-range_with_len, length-map-range_with_len}
use Rattle.std.proofs.lemmas.List.Elements.{All-from_get_or}
use Rattle.row_laws.proofs.Integers.{sums, mul-neg, mul-zero, one-mul}
use Rattle.row_laws.specs.Rows.{dot}
use Rattle.least_index.specs.Dictionary.{sum_below}
use Rattle.least_index.proofs.Sums.{sum-ext, at_place, sum-at_place}
use Rattle.row_laws.proofs.Signs.{mul_nonneg, nonneg_of_pos}
use Rattle.fraction_free.specs.declared.loaded.LoadedRow.{LoadedRow}
use Rattle.fraction_free.specs.Dictionary.{DictionaryView, IsDictionary, loaded_at, constant_in}
use Rattle.simplex.specs.declared.row_weights.RowWeight.{RowWeight}
use Rattle.simplex.specs.Weights.{is_weight, IsRowWeight, AreRowWeights, weighted}
use Rattle.simplex.specs.Choice.{IsBlocked}
use Rattle.simplex.specs.Equation.{weight_of, how_many, has_slack, HasSlackWeights}
use Rattle.simplex.specs.Rows.{MeetsRows}
use Rattle.simplex.specs.Results.{IsClash, IsStrictRow, coefficient}
use Rattle.simplex.proofs.Positions.{dot-sum}
use Rattle.simplex.proofs.Equations.{weight_of-nonneg}
use Rattle.simplex.proofs.FewWeights.{how_many-parts}
use Rattle.simplex.proofs.Clashes.{sum_neg, sum_nonneg, weights_at_vector}

pub weighted_same : (f g : ℕ → ℤ) (rows : List RowWeight) → All (λ item. f item.row ≡ g item.row) rows → weighted f rows ≡ weighted g rows
weighted_same f g [] h = refl
weighted_same f g (x ∷ rows) h =
    ap (λ (n : ℤ). x.weight *ℤ n +ℤ weighted f rows) (h 0 x (omega arith))
    ∙ ap (λ (s : ℤ). x.weight *ℤ g x.row +ℤ s) (weighted_same f g rows (λ k y lt. h (suc k) y (omega arith)))

weighted_neg : (f : ℕ → ℤ) (rows : List RowWeight) → weighted (λ r. neg_ℤ (f r)) rows ≡ neg_ℤ (weighted f rows)
weighted_neg f [] = refl
weighted_neg f (x ∷ rows) =
    ap (λ (s : ℤ). x.weight *ℤ neg_ℤ (f x.row) +ℤ s) (weighted_neg f rows) ∙ step (x.weight) (f x.row) (weighted f rows)
  where
    step : (w a s : ℤ) → w *ℤ neg_ℤ a +ℤ neg_ℤ s ≡ neg_ℤ (w *ℤ a +ℤ s)
    step w a s = omega (arith, sums, mul-neg w a)

pub add_nonneg : (a b : ℤ) → pos 0 ≤ℤ a → pos 0 ≤ℤ b → pos 0 ≤ℤ (a +ℤ b)
add_nonneg a b h k = omega (arith, ints)

pub weighted_nonneg : (f : ℕ → ℤ) (rows : List RowWeight) → All IsRowWeight rows → All (λ item. pos 0 ≤ℤ f item.row) rows → pos 0 ≤ℤ weighted f rows
weighted_nonneg f [] are h = omega (arith, ints)
weighted_nonneg f (x ∷ rows) are h =
    add_nonneg (x.weight *ℤ f x.row) (weighted f rows)
    (mul_nonneg x.weight (f x.row) (nonneg_of_pos x.weight (are 0 x (omega arith)).positive) (h 0 x (omega arith)))
    (weighted_nonneg f rows (λ k y lt. are (suc k) y (omega arith)) (λ k y lt. h (suc k) y (omega arith)))

mul_one : (a : ℤ) → a *ℤ pos 1 ≡ a
mul_one a = *ℤ_comm a (pos 1) ∙ one-mul a

-- a clash's facts
pub record HasWeights (d : DictionaryView) (row : ℕ) (increments : List ℤ) (rows : List RowWeight) : Type 0 where
  pub dictionary : IsDictionary d
  pub within : row < length d.loaded
  pub negative : constant_in d row <ℤ pos 0
  pub blocked : IsBlocked d row
  pub len : length increments ≡ d.columns
  pub own : (column : ℕ) → column < d.columns → get_or increments column (pos 0) ≡ weight_of d row (column + 1)
  pub weights : AreRowWeights rows
  pub loaded_rows : All (λ item. item.row ≤ length d.loaded) rows
  pub slacks : HasSlackWeights d row (d.columns + 1 + length d.loaded) rows
  pub few_own : count_by is_weight increments ≤ how_many (λ place. not (has_slack d row place)) (d.columns + 1)
  pub few_rows : length rows ≤ how_many (has_slack d row) (d.columns + 1)

own_nonneg : (d : DictionaryView) (row : ℕ) (increments : List ℤ) (rows : List RowWeight) → HasWeights d row increments rows → (k : ℕ) → k < d.columns → pos 0 ≤ℤ get_or increments k (pos 0)
own_nonneg d row increments rows has k lt =
    subst (λ (n : ℤ). pos 0 ≤ℤ n) (sym (has.own k lt)) (weight_of-nonneg d has.dictionary row (k + 1) has.within has.blocked)

-- no vector meets the rows
pub unmet : (d : DictionaryView) (row : ℕ) (increments : List ℤ) (rows : List RowWeight) → HasWeights d row increments rows → (vector : List ℤ) → MeetsRows d.columns d.loaded vector → ⊥
unmet d row increments rows has vector meets =
    impossible
    (sum_below (λ k. get_or increments k (pos 0) *ℤ (get_or vector k (pos 0) -ℤ pos 1)) d.columns)
    (weighted (λ r. dot (loaded_at d.loaded (r - 1)).coefficients vector -ℤ (loaded_at d.loaded (r - 1)).least *ℤ pos 1) rows)
    (constant_in d row)
    (sum_nonneg (λ k. get_or increments k (pos 0) *ℤ (get_or vector k (pos 0) -ℤ pos 1)) d.columns
    (λ k lt. mul_nonneg (get_or increments k (pos 0)) (get_or vector k (pos 0) -ℤ pos 1) (own_nonneg d row increments rows has k lt)
    (less (get_or vector k (pos 0)) (meets.positive k (pos 0) (omega (arith, meets.len))))))
    (weighted_nonneg (λ r. dot (loaded_at d.loaded (r - 1)).coefficients vector -ℤ (loaded_at d.loaded (r - 1)).least *ℤ pos 1) rows has.weights.each
    (λ k x lt. slack_nonneg ((slice_index_or rows k x).row) (has.weights.each k x lt).numbered (has.loaded_rows k x lt)))
    has.negative
    (weights_at_vector d has.dictionary row increments rows vector (pos 1) has.within meets.len has.own has.slacks has.weights.each ∙ mul_one (constant_in d row))
  where
    less : (a : ℤ) → pos 1 ≤ℤ a → pos 0 ≤ℤ (a -ℤ pos 1)
    less a h = omega (arith, ints)

    difference : (a b : ℤ) → b ≤ℤ a → pos 0 ≤ℤ (a -ℤ b)
    difference a b h = omega (arith, ints)

    slack_nonneg : (r : ℕ) → 1 ≤ r → r ≤ length d.loaded → pos 0 ≤ℤ (dot (loaded_at d.loaded (r - 1)).coefficients vector -ℤ (loaded_at d.loaded (r - 1)).least *ℤ pos 1)
    slack_nonneg r low high =
        difference (dot (loaded_at d.loaded (r - 1)).coefficients vector) ((loaded_at d.loaded (r - 1)).least *ℤ pos 1)
        (subst (λ (n : ℤ). n ≤ℤ dot (loaded_at d.loaded (r - 1)).coefficients vector) (sym (mul_one (loaded_at d.loaded (r - 1)).least)) (meets.each (r - 1) (omega arith)))

    impossible : (a b c : ℤ) → pos 0 ≤ℤ a → pos 0 ≤ℤ b → c <ℤ pos 0 → a +ℤ b ≡ c → ⊥
    impossible a b c h k l e = omega (arith, ints)

-- ---- sums in an increment

unit_vector : ℕ → ℕ → List ℤ
unit_vector columns j = map (λ k. cond (k == j) (pos 1) (pos 0)) (range_with_len 0 columns)

unit_at : (columns j k : ℕ) → k < columns → get_or (unit_vector columns j) k (pos 0) ≡ cond (k == j) (pos 1) (pos 0)
unfolding unit_vector
unit_at columns j k lt = get_or-map-range_with_len (λ k. cond (k == j) (pos 1) (pos 0)) 0 columns k k (pos 0) lt (omega arith)

unit_len : (columns j : ℕ) → length (unit_vector columns j) ≡ columns
unfolding unit_vector
unit_len columns j = length-map-range_with_len (λ k. cond (k == j) (pos 1) (pos 0)) 0 columns

times_unit : (b : Bool) (a at : ℤ) → (b ≡ true → a ≡ at) → a *ℤ (cond b (pos 1) (pos 0) -ℤ pos 0) ≡ cond b at (pos 0)
times_unit true a at h = mul_one a ∙ h refl
times_unit false a at h = mul-zero a

times_plain_unit : (b : Bool) (a at : ℤ) → (b ≡ true → a ≡ at) → a *ℤ cond b (pos 1) (pos 0) ≡ cond b at (pos 0)
times_plain_unit true a at h = mul_one a ∙ h refl
times_plain_unit false a at h = mul-zero a

dot_unit : (columns j : ℕ) (xs : List ℤ) → length xs ≡ columns → j < columns → dot xs (unit_vector columns j) ≡ get_or xs j (pos 0)
dot_unit columns j xs len lt =
    dot-sum xs (unit_vector columns j) (len ∙ sym (unit_len columns j))
    ∙ ap (sum_below (λ i. get_or xs i (pos 0) *ℤ get_or (unit_vector columns j) i (pos 0))) len
    ∙ sum-ext (λ i. get_or xs i (pos 0) *ℤ get_or (unit_vector columns j) i (pos 0)) (at_place j (get_or xs j (pos 0))) columns
    (λ k l. ap (λ (n : ℤ). get_or xs k (pos 0) *ℤ n) (unit_at columns j k l)
    ∙ times_plain_unit (k == j) (get_or xs k (pos 0)) (get_or xs j (pos 0)) (λ e. ap (λ (n : ℕ). get_or xs n (pos 0)) (eqb-true k j e)))
    ∙ sum-at_place j (get_or xs j (pos 0)) columns lt

pub column_sum : (d : DictionaryView) (row : ℕ) (increments : List ℤ) (rows : List RowWeight) → HasWeights d row increments rows → (column : ℕ) → column < d.columns
    → get_or increments column (pos 0) +ℤ weighted (coefficient d.loaded column) rows ≡ pos 0
column_sum d row increments rows has column lt =
    ap (λ (s : ℤ). s +ℤ weighted (coefficient d.loaded column) rows)
    (sym (sum-ext (λ k. get_or increments k (pos 0) *ℤ (get_or (unit_vector d.columns column) k (pos 0) -ℤ pos 0)) (at_place column (get_or increments column (pos 0))) d.columns
    (λ k l. ap (λ (n : ℤ). get_or increments k (pos 0) *ℤ (n -ℤ pos 0)) (unit_at d.columns column k l)
    ∙ times_unit (k == column) (get_or increments k (pos 0)) (get_or increments column (pos 0)) (λ e. ap (λ (n : ℕ). get_or increments n (pos 0)) (eqb-true k column e)))
    ∙ sum-at_place column (get_or increments column (pos 0)) d.columns lt))
    ∙ ap (λ (s : ℤ). sum_below (λ k. get_or increments k (pos 0) *ℤ (get_or (unit_vector d.columns column) k (pos 0) -ℤ pos 0)) d.columns +ℤ s)
    (sym (weighted_same (λ r. dot (loaded_at d.loaded (r - 1)).coefficients (unit_vector d.columns column) -ℤ (loaded_at d.loaded (r - 1)).least *ℤ pos 0) (coefficient d.loaded column) rows
    (λ k x l. at_row ((slice_index_or rows k x).row) (has.weights.each k x l).numbered (has.loaded_rows k x l))))
    ∙ weights_at_vector d has.dictionary row increments rows (unit_vector d.columns column) (pos 0) has.within (unit_len d.columns column) has.own has.slacks has.weights.each
    ∙ mul-zero (constant_in d row)
  where
    minus_zero : (a b : ℤ) → b ≡ pos 0 → a -ℤ b ≡ a
    minus_zero a b e = omega (arith, sums)

    at_row : (r : ℕ) → 1 ≤ r → r ≤ length d.loaded → dot (loaded_at d.loaded (r - 1)).coefficients (unit_vector d.columns column) -ℤ (loaded_at d.loaded (r - 1)).least *ℤ pos 0 ≡ coefficient d.loaded column r
    at_row r low high =
        minus_zero (dot (loaded_at d.loaded (r - 1)).coefficients (unit_vector d.columns column)) ((loaded_at d.loaded (r - 1)).least *ℤ pos 0) (mul-zero (loaded_at d.loaded (r - 1)).least)
        ∙ dot_unit d.columns column (loaded_at d.loaded (r - 1)).coefficients (has.dictionary.rows (r - 1) (omega arith)).len lt

-- ---- a strict weight

dot_zeros : (n : ℕ) (xs : List ℤ) → dot xs (replicate n (pos 0)) ≡ pos 0
dot_zeros n [] = refl
dot_zeros zero (x ∷ xs) = refl
dot_zeros (suc n) (x ∷ xs) = ap (λ (s : ℤ). x *ℤ pos 0 +ℤ s) (dot_zeros n xs) ∙ ap (λ (m : ℤ). m +ℤ pos 0) (mul-zero x)

any_default : (xs : List ℤ) (k : ℕ) (d e : ℤ) → k < length xs → get_or xs k d ≡ get_or xs k e
any_default [] k d e lt = absurd (omega arith)
any_default (x ∷ xs) zero d e lt = refl
any_default (x ∷ xs) (suc k) d e lt = any_default xs k d e (omega arith)

any_increment : (increments : List ℤ) (n : ℕ) → n ≤ length increments → pos 0 <ℤ sum_below (λ k. get_or increments k (pos 0)) n → Any (λ weight. pos 0 <ℤ weight) increments
unfolding sum_below
any_increment increments zero le h = absurd (omega (arith, ints))
any_increment increments (suc n) le h =
    by_lt_z (pos 0) (get_or increments n (pos 0))
    (λ here. (n, get_or increments n (pos 0), omega arith, any_default increments n (get_or increments n (pos 0)) (pos 0) (omega arith), here))
    (λ none. any_increment increments n (omega arith) (rest (sum_below (λ k. get_or increments k (pos 0)) n) (get_or increments n (pos 0)) h none))
  where
    rest : (a b : ℤ) → pos 0 <ℤ (a +ℤ b) → b ≤ℤ pos 0 → pos 0 <ℤ a
    rest a b h k = omega (arith, ints)

any_row : (loaded : List LoadedRow) (rows : List RowWeight) → All (λ item. ((loaded_at loaded (item.row - 1)).least ≡ pos 0) ⊎ ((loaded_at loaded (item.row - 1)).least ≡ pos 1)) rows
    → pos 0 <ℤ weighted (λ r. (loaded_at loaded (r - 1)).least) rows → Any (IsStrictRow loaded) rows
any_row loaded [] leasts h = absurd (omega (arith, ints))
any_row loaded (x ∷ rows) leasts h =
    from (any_row loaded rows (λ k y lt. leasts (suc k) y (omega arith))) (leasts 0 x (omega arith))
  where
    rest : (w l s : ℤ) → l ≡ pos 0 → pos 0 <ℤ (w *ℤ l +ℤ s) → pos 0 <ℤ s
    rest w l s e h = plus (w *ℤ l) s (ap (λ (n : ℤ). w *ℤ n) e ∙ mul-zero w) h
      where
        plus : (a s : ℤ) → a ≡ pos 0 → pos 0 <ℤ (a +ℤ s) → pos 0 <ℤ s
        plus a s e h = omega (arith, ints)

    from : (pos 0 <ℤ weighted (λ r. (loaded_at loaded (r - 1)).least) rows → Any (IsStrictRow loaded) rows)
        → ((loaded_at loaded (x.row - 1)).least ≡ pos 0) ⊎ ((loaded_at loaded (x.row - 1)).least ≡ pos 1) → Any (IsStrictRow loaded) (x ∷ rows)
    from others (inl e) =
        let f : Any (IsStrictRow loaded) rows = others (rest x.weight (loaded_at loaded (x.row - 1)).least (weighted (λ r. (loaded_at loaded (r - 1)).least) rows) e h) in
        (suc f.0, f.1, (let l = f.2 in omega arith), f.3, f.4)
    from others (inr e) = (0, x, omega arith, refl, e)

pub has_strict : (d : DictionaryView) (row : ℕ) (increments : List ℤ) (rows : List RowWeight) → HasWeights d row increments rows
    → Any (λ weight. pos 0 <ℤ weight) increments ⊎ Any (IsStrictRow d.loaded) rows
has_strict d row increments rows has =
    by_lt_z (pos 0) (sum_below (λ k. get_or increments k (pos 0)) d.columns)
    (λ some. inl (any_increment increments d.columns (omega (arith, has.len)) some))
    (λ none. inr (any_row d.loaded rows
    (λ k x lt. (has.dictionary.rows ((slice_index_or rows k x).row - 1) (let n = (has.weights.each k x lt).numbered in let h = has.loaded_rows k x lt in omega arith)).least)
    (rest (sum_below (λ k. get_or increments k (pos 0)) d.columns) (weighted (λ r. (loaded_at d.loaded (r - 1)).least) rows) (constant_in d row) none has.negative total)))
  where
    rest : (a b c : ℤ) → a ≤ℤ pos 0 → c <ℤ pos 0 → neg_ℤ a +ℤ neg_ℤ b ≡ c → pos 0 <ℤ b
    rest a b c h k e = omega (arith, ints)

    negated : (a l : ℤ) → a ≡ pos 0 → a -ℤ l *ℤ pos 1 ≡ neg_ℤ l
    negated a l e = step a (l *ℤ pos 1) l e (mul_one l)
      where
        step : (a m l : ℤ) → a ≡ pos 0 → m ≡ l → a -ℤ m ≡ neg_ℤ l
        step a m l e f = omega (arith, sums)

    minus_one : (a : ℤ) → a *ℤ (pos 0 -ℤ pos 1) ≡ neg_ℤ a
    minus_one a = mul-neg a (pos 1) ∙ ap neg_ℤ (mul_one a)

    total : neg_ℤ (sum_below (λ k. get_or increments k (pos 0)) d.columns) +ℤ neg_ℤ (weighted (λ r. (loaded_at d.loaded (r - 1)).least) rows) ≡ constant_in d row
    total =
        ap (λ (s : ℤ). s +ℤ neg_ℤ (weighted (λ r. (loaded_at d.loaded (r - 1)).least) rows))
        (sym (sum-ext (λ k. get_or increments k (pos 0) *ℤ (get_or (replicate d.columns (pos 0)) k (pos 0) -ℤ pos 1)) (λ k. neg_ℤ (get_or increments k (pos 0))) d.columns
        (λ k l. ap (λ (n : ℤ). get_or increments k (pos 0) *ℤ (n -ℤ pos 1)) (get_or-replicate d.columns k (pos 0) (pos 0) l) ∙ minus_one (get_or increments k (pos 0)))
        ∙ sum_neg (λ k. get_or increments k (pos 0)) d.columns))
        ∙ ap (λ (s : ℤ). sum_below (λ k. get_or increments k (pos 0) *ℤ (get_or (replicate d.columns (pos 0)) k (pos 0) -ℤ pos 1)) d.columns +ℤ s)
        (sym (weighted_same (λ r. dot (loaded_at d.loaded (r - 1)).coefficients (replicate d.columns (pos 0)) -ℤ (loaded_at d.loaded (r - 1)).least *ℤ pos 1) (λ r. neg_ℤ (loaded_at d.loaded (r - 1)).least) rows
        (λ k x l. negated (dot (loaded_at d.loaded ((slice_index_or rows k x).row - 1)).coefficients (replicate d.columns (pos 0))) (loaded_at d.loaded ((slice_index_or rows k x).row - 1)).least
        (dot_zeros d.columns (loaded_at d.loaded ((slice_index_or rows k x).row - 1)).coefficients))
        ∙ weighted_neg (λ r. (loaded_at d.loaded (r - 1)).least) rows))
        ∙ weights_at_vector d has.dictionary row increments rows (replicate d.columns (pos 0)) (pos 1) has.within (length-replicate d.columns (pos 0)) has.own has.slacks has.weights.each
        ∙ mul_one (constant_in d row)

pub weights_are_clash : (d : DictionaryView) (row : ℕ) (increments : List ℤ) (rows : List RowWeight) → HasWeights d row increments rows → IsClash d.columns d.loaded (record { increments = increments; rows = rows })
weights_are_clash d row increments rows has = record {
  len = has.len;
  own = All-from_get_or (λ weight. pos 0 ≤ℤ weight) increments (pos 0) (λ k lt. own_nonneg d row increments rows has k (omega (arith, has.len)));
  weights = has.weights;
  loaded_rows = has.loaded_rows;
  sums = column_sum d row increments rows has;
  strict = has_strict d row increments rows has;
  few = omega (arith, has.few_own, has.few_rows, how_many-parts (has_slack d row) (d.columns + 1));
}
