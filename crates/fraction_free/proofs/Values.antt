-- The values of the table's rows at an assignment: those of the variables, where the slacks are those of the loaded rows.
use Rattle.std.proofs.Common.{◌≡◌, ◌∙◌, inl, inr, ℕ, suc, ◌+◌, ◌-◌, ◌<◌, ◌≤◌, ℤ, pos, neg_ℤ, ◌+ℤ◌, ◌-ℤ◌, ◌*ℤ◌, List, [], ◌∷◌, ◌++◌, length, take, map, get_or, fold, sym, ap, refl, arith}
use Rattle.std.proofs.lemmas.List.{get_or_append_left, get_or_at, length_push, length-take-le, get_or-take}
use Rattle.std.proofs.lemmas.List.FromFn.{get_or-map-range_with_len, length-map-range_with_len, length-range_with_len}
use Rattle.std.proofs.lemmas.Bool.{cases_eq, cases_lt}
use Rattle.std.specs.List.{range_with_len}
use Rattle.minors.specs.Combination.{IsCombination}
use Rattle.row_laws.proofs.Totals.{dot_is_total, total_single}
use Rattle.minors.proofs.Laws.{combination_at_point}
use Rattle.row_laws.proofs.Integers.{sums, mul-add, add-mul, neg-mul, one-mul}
use Rattle.row_laws.specs.Rows.{dot, entry}
use Rattle.row_laws.proofs.RowLemmas.{dot-append}
use Rattle.fraction_free.specs.declared.loaded.LoadedRow.{LoadedRow}
use Rattle.fraction_free.specs.Arrangement.{IsArrangement}
use Rattle.fraction_free.specs.Dictionary.{IsLoadable, HasSlacks, loaded_at, slack_of, vector_of}
use Rattle.fraction_free.specs.Representation.{unit, slack_constant, row_of, table_row, square_of}
use Rattle.fraction_free.proofs.Table.{unit_one, unit_zero, table_row-increment, table_row-slack, length-square}

-- the variables' values as a point: of the increments, and of the constant 1
abbrev pub point_of : ℕ → (ℕ → ℤ) → List ℤ
point_of m x = map x (range_with_len 1 m) ++ x 0 ∷ []

pub length-point : (m : ℕ) (x : ℕ → ℤ) → length (point_of m x) ≡ m + 1
length-point m x = length_push (map x (range_with_len 1 m)) (x 0) ∙ ap (λ k. k + 1) (length-map-range_with_len x 1 m)

pub point_last : (m : ℕ) (x : ℕ → ℤ) → entry (point_of m x) m ≡ x 0
point_last m x = get_or_at (map x (range_with_len 1 m)) (x 0) [] (pos 0) m (length-map-range_with_len x 1 m)

pub point_at : (m : ℕ) (x : ℕ → ℤ) (p : ℕ) → p < m → entry (point_of m x) p ≡ x (1 + p)
point_at m x p below =
    get_or_append_left (map x (range_with_len 1 m)) (x 0 ∷ []) (pos 0) p (omega (arith, length-map-range_with_len x 1 m))
    ∙ get_or-map-range_with_len x 1 m p (1 + p) (pos 0) below refl

pub unit_value : (m p : ℕ) (x : ℕ → ℤ) → p ≤ m → dot (unit (m + 1) p) (point_of m x) ≡ entry (point_of m x) p
unit_value m p x h =
    let len = length-point m x in
    dot_is_total (unit (m + 1) p) (point_of m x)
    ∙ total_single (entry (unit (m + 1) p)) (point_of m x) p (omega arith) (λ i below apart. unit_zero (m + 1) p i (omega arith) apart)
    ∙ ap (λ (n : ℤ). n *ℤ entry (point_of m x) p) (unit_one (m + 1) p (omega arith))
    ∙ one-mul (entry (point_of m x) p)

shift_step : (start c y k d e f : ℤ) → (start +ℤ c) *ℤ k +ℤ d ≡ e +ℤ f → start *ℤ k +ℤ (c *ℤ (y +ℤ k) +ℤ d) ≡ e +ℤ (c *ℤ y +ℤ f)
shift_step start c y k d e f h = omega (arith, sums, add-mul start c k, mul-add c y k)

-- one number more at each place adds it once for each coefficient
shifted : (x : ℕ → ℤ) (k start : ℤ) (coefficients : List ℤ) (js : List ℕ) → length coefficients ≤ length js
    → start *ℤ k +ℤ dot coefficients (map (λ j. x j +ℤ k) js) ≡ fold ◌+ℤ◌ start coefficients *ℤ k +ℤ dot coefficients (map x js)
shifted x k start [] js h = refl
shifted x k start (c ∷ cs) [] h = absurd (omega arith)
shifted x k start (c ∷ cs) (j ∷ js) h =
    shift_step start c (x j) k (dot cs (map (λ i. x i +ℤ k) js)) (fold ◌+ℤ◌ (start +ℤ c) cs *ℤ k) (dot cs (map x js)) (shifted x k (start +ℤ c) cs js (omega arith))

slack_step : (c k d v least slack : ℤ) → neg_ℤ least *ℤ k +ℤ v ≡ c *ℤ k +ℤ d → slack ≡ v -ℤ least *ℤ k → d +ℤ (c *ℤ k +ℤ pos 0) ≡ slack
slack_step c k d v least slack h e = omega (arith, sums, neg-mul least k)

pub slack_value : (m : ℕ) (row : LoadedRow) (x : ℕ → ℤ) → length row.coefficients ≡ m → dot (row_of row) (point_of m x) ≡ slack_of m row x
slack_value m row x len =
    let mapped = length-map-range_with_len x 1 m in
    dot-append row.coefficients (slack_constant row ∷ []) (map x (range_with_len 1 m)) (x 0 ∷ []) (len ∙ sym mapped)
    ∙ slack_step (slack_constant row) (x 0) (dot row.coefficients (map x (range_with_len 1 m))) (dot row.coefficients (vector_of m x)) row.least (slack_of m row x)
    (shifted x (x 0) (neg_ℤ row.least) row.coefficients (range_with_len 1 m) (omega (arith, length-range_with_len 1 m))) refl

-- each variable has the value of its row
pub variable_value : (m : ℕ) (l : List LoadedRow) (x : ℕ → ℤ) (v : ℕ) → ((row : ℕ) → row < length l → IsLoadable m (loaded_at l row)) → HasSlacks m l x
    → v < m + 1 + length l → dot (table_row m l v) (point_of m x) ≡ x v
variable_value m l x v rows h below =
    elim (cases_eq v 0) [
      | inl e ↦ ap (λ k. dot (table_row m l k) (point_of m x)) e ∙ unit_value m m x (omega arith) ∙ point_last m x ∙ ap x (sym e)
      | inr ne ↦ elim (cases_lt m v) [
        | inl high ↦
            let at : v - m - 1 < length l = omega arith in
            let index : m + 1 + (v - m - 1) ≡ v = omega arith in
            ap (λ (r : List ℤ). dot r (point_of m x)) (table_row-slack m l v high)
            ∙ slack_value m (loaded_at l (v - m - 1)) x (rows (v - m - 1) at).len
            ∙ sym (h.each (v - m - 1) at) ∙ ap x index
        | inr low ↦
            let index : 1 + (v - 1) ≡ v = omega arith in
            ap (λ (r : List ℤ). dot r (point_of m x)) (table_row-increment m l v (omega arith) low)
            ∙ unit_value m (v - 1) x (omega arith) ∙ point_at m x (v - 1) (omega arith) ∙ ap x index
      ]
    ]

mapped_values : (g : List ℤ → ℤ) (t : ℕ → List ℤ) (x : ℕ → ℤ) (vs : List ℕ) → ((k : ℕ) → k < length vs → g (t (get_or vs k 0)) ≡ x (get_or vs k 0)) → map g (map t vs) ≡ map x vs
mapped_values g t x [] h = refl
mapped_values g t x (v ∷ vs) h =
    ap (λ (n : ℤ). n ∷ map g (map t vs)) (h 0 (omega arith))
    ∙ ap (λ (ns : List ℤ). x v ∷ ns) (mapped_values g t x vs (λ k below. h (suc k) (omega arith)))

pub square_values : (m : ℕ) (l : List LoadedRow) (order : List ℕ) (x : ℕ → ℤ) → length order ≡ m + 1 + length l → IsArrangement order
    → ((row : ℕ) → row < length l → IsLoadable m (loaded_at l row)) → HasSlacks m l x
    → map (λ (r : List ℤ). dot r (point_of m x)) (square_of m l order) ≡ map x (take (m + 1) order)
square_values m l order x len arranged rows h =
    mapped_values (λ (r : List ℤ). dot r (point_of m x)) (table_row m l) x (take (m + 1) order)
    (λ k below.
    let inside : k < m + 1 = omega (arith, length-take-le (m + 1) order (omega arith)) in
    let v : get_or (take (m + 1) order) k 0 < m + 1 + length l = omega (arith, get_or-take (m + 1) order k 0 inside, arranged.below k (omega arith)) in
    variable_value m l x (get_or (take (m + 1) order) k 0) rows h v)

-- a combination of the square's rows holds of the variables' values
pub combination_value : (m : ℕ) (l : List LoadedRow) (s : ℤ) (order : List ℕ) (x : ℕ → ℤ) (row factors : List ℤ) → length order ≡ m + 1 + length l → IsArrangement order
    → ((r : ℕ) → r < length l → IsLoadable m (loaded_at l r)) → HasSlacks m l x
    → IsCombination s row factors (square_of m l order)
    → s *ℤ dot row (point_of m x) ≡ dot factors (map x (take (m + 1) order))
combination_value m l s order x row factors len arranged rows h comb =
    combination_at_point s row factors (point_of m x) (square_of m l order) comb (omega (arith, length-point m x, length-square m l order (omega arith)))
    ∙ ap (dot factors) (square_values m l order x len arranged rows h)
