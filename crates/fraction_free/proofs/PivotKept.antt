-- A pivot keeps what a dictionary keeps.
use Rattle.std.proofs.Common.{◌≡◌, ◌≢◌, ◌∙◌, ◌⊎◌, inl, inr, ℕ, zero, suc, ◌+◌, ◌<◌, ◌≤◌, ◌^◌, unsigned_abs, to_z, of_z, ℤ, pos, ◌+ℤ◌, ◌*ℤ◌, ◌≤ℤ◌, List, [], ◌∷◌, length, take, drop, map, get_or, set, sym, ap, subst, refl, arith}
use Rattle.std.proofs.Math.Seq.{take-set-lt}
use Rattle.std.proofs.lemmas.List.{take-set-le, drop-set-lt, drop-set-add, map-set, length-map, length-take-le, length-drop, get_or-drop, get_or-take, set-set, set-get_or, get_or-map}
use Rattle.std.proofs.lemmas.Bool.{cases_eq}
use Rattle.std.proofs.lemmas.List.Edits.{length-swap, swap_is, swapped_from_swap}
use Rattle.std.specs.List.{SwappedAt, swap}
use Rattle.std.specs.Int.{w128}
use Rattle.minors.specs.Combination.{IsCombination, IsScale, IsLeaving, column_of}
use Rattle.minors.proofs.Laws.{scale_after_pivot, pivot_keeps_combination, leaving_row_is_combination}
use Rattle.row_laws.proofs.Integers.{mul-zero, sums, read_back}
use Rattle.row_laws.specs.Rows.{dot, entry}
use Rattle.fraction_free.specs.declared.loaded.LoadedRow.{LoadedRow}
use Rattle.fraction_free.specs.Arrangement.{IsArrangement, Arranged}
use Rattle.fraction_free.specs.Changes.{with_sign, IsOtherLine, IsPivotLine, IsPivoted}
use Rattle.fraction_free.specs.Dictionary.{Satisfies}
use Rattle.fraction_free.specs.Representation.{table_row, square_of, AreMinors, IsRepresentation, AreExchanged}
use Rattle.fraction_free.proofs.Views.{view_with}
use Rattle.fraction_free.proofs.Table.{square_at, length-square}
use Rattle.fraction_free.proofs.Kept.{columns_and_constant, line_len}
use Rattle.fraction_free.proofs.Signs.{with_sign-self, with_sign-abs, turn, turned_scale, combination_of_turned, turned_of_combination, pivoted_of, leaving_of, pivoted_back, leaving_back}

-- what a pivot on a row and a column does to scale, order and lines
pub record IsExchange (m : ℕ) (s : ℤ) (order : List ℕ) (lines : List (List ℤ)) (new_s : ℤ) (new_order : List ℕ) (new_lines : List (List ℤ)) (row column : ℕ) : Type 0 where
  pub row_below : row < length lines
  pub column_below : column < m
  pub nonzero : entry (get_or lines row []) column ≢ pos 0
  pub scale : new_s ≡ with_sign (entry (get_or lines row []) column) (entry (get_or lines row []) column)
  pub order_len : length new_order ≡ length order
  pub swapped : SwappedAt order new_order column (m + 1 + row)
  pub arranged : IsArrangement new_order
  pub lines_len : length new_lines ≡ length lines
  pub pivot_line : IsPivotLine s column (get_or lines row []) (get_or new_lines row [])
  pub other_lines : (other : ℕ) → other < length lines → other ≢ row → IsOtherLine s column (get_or lines row []) (get_or lines other []) (get_or new_lines other [])

-- the variables of the columns after the exchange
pub swapped_columns : (m : ℕ) (order new_order : List ℕ) (row column : ℕ) → column < m → SwappedAt order new_order column (m + 1 + row)
    → take (m + 1) new_order ≡ set (take (m + 1) order) column (get_or order (m + 1 + row) 0)
swapped_columns m order new_order row column below swapped =
    ap (take (m + 1)) (swapped.3 0)
    ∙ take-set-le (m + 1) (set order column (get_or order (m + 1 + row) 0)) (m + 1 + row) (get_or order column 0) (omega arith)
    ∙ take-set-lt (m + 1) order column (get_or order (m + 1 + row) 0) (omega arith)

swapped_square : (m : ℕ) (l : List LoadedRow) (order new_order : List ℕ) (row column : ℕ) → column < m → SwappedAt order new_order column (m + 1 + row)
    → square_of m l new_order ≡ set (square_of m l order) column (table_row m l (get_or order (m + 1 + row) 0))
swapped_square m l order new_order row column below swapped =
    ap (map (table_row m l)) (swapped_columns m order new_order row column below swapped)
    ∙ map-set (table_row m l) (take (m + 1) order) column (get_or order (m + 1 + row) 0)

-- a combination along equations of its parts
moved : (a b : ℤ) (r q f g : List ℤ) (xs ys : List (List ℤ)) → a ≡ b → q ≡ r → f ≡ g → xs ≡ ys → IsCombination b q g ys → IsCombination a r f xs
moved a b r q f g xs ys i j k n comb = rw (i, sym j, k, n) comb

pub exchange_keeps : (m : ℕ) (l : List LoadedRow) (s : ℤ) (order : List ℕ) (lines : List (List ℤ)) (new_s : ℤ) (new_order : List ℕ) (new_lines : List (List ℤ)) (row column : ℕ)
    → AreMinors m l s order lines → IsExchange m s order lines new_s new_order new_lines row column → AreMinors m l new_s new_order new_lines
exchange_keeps m l s order lines new_s new_order new_lines row column t e = record {
  columns_some = t.columns_some;
  columns_most = t.columns_most;
  lines_len = e.lines_len ∙ t.lines_len;
  order_len = e.order_len ∙ t.order_len;
  constant = e.swapped.2 m 0 (omega (arith, e.column_below)) (omega arith) ∙ t.constant;
  rows = t.rows;
  variables = e.arranged;
  positive = subst (λ (n : ℤ). pos 1 ≤ℤ n) (sym e.scale) (with_sign-self p e.nonzero);
  scale_is = subst (λ (n : ℤ). IsScale n (square_of m l new_order)) (sym e.scale)
      (subst (IsScale (with_sign p p)) (sym squares)
      (turned_scale p p (set rows column entering) (scale_after_pivot s entering pivot rows column t.scale_is of_entering inside e.nonzero)));
  lines_are = λ other below. line_is other below (cases_eq other row);
}
  where
    rows : List (List ℤ)
    rows = square_of m l order

    pivot : List ℤ
    pivot = get_or lines row []

    p : ℤ
    p = entry pivot column

    entering : List ℤ
    entering = table_row m l (get_or order (m + 1 + row) 0)

    row_in : row < length l
    row_in = omega (arith, e.row_below, t.lines_len)

    long : m + 1 ≤ length order
    long = omega (arith, t.order_len)

    of_entering : IsCombination s entering pivot rows
    of_entering = t.lines_are row row_in

    inside : column < length rows
    inside = omega (arith, length-square m l order long, e.column_below)

    squares : square_of m l new_order ≡ set rows column entering
    squares = swapped_square m l order new_order row column e.column_below e.swapped

    line_is : (other : ℕ) → other < length l → (other ≡ row) ⊎ (other ≢ row)
        → IsCombination new_s (table_row m l (get_or new_order (m + 1 + other) 0)) (get_or new_lines other []) (square_of m l new_order)
    line_is other below (inl same) =
        let leaving = leaving_of s column pivot (get_or new_lines row []) e.pivot_line in
        let comb = combination_of_turned p p (get_or rows column []) (get_or new_lines row []) (set rows column entering)
        (leaving_row_is_combination s entering pivot (turn p (get_or new_lines row [])) rows column of_entering inside leaving) in
        let variable : get_or new_order (m + 1 + other) 0 ≡ get_or order column 0 = ap (λ k. get_or new_order (m + 1 + k) 0) same ∙ e.swapped.1 0 in
        let row_is : get_or rows column [] ≡ table_row m l (get_or new_order (m + 1 + other) 0) =
        square_at m l order column [] long (omega (arith, e.column_below)) ∙ ap (table_row m l) (sym variable) in
        moved new_s (with_sign p p) _ _ (get_or new_lines other []) (get_or new_lines row []) _ _ e.scale row_is (ap (λ k. get_or new_lines k []) same) squares comb
    line_is other below (inr apart) =
        let old = get_or lines other [] in
        let new = get_or new_lines other [] in
        let pivoted = pivoted_of s column pivot old new (e.other_lines other (omega (arith, t.lines_len)) apart) in
        let this = table_row m l (get_or order (m + 1 + other) 0) in
        let comb = combination_of_turned p p this new (set rows column entering)
        (pivot_keeps_combination s entering pivot this old (turn p new) rows column t.scale_is.nonzero of_entering (t.lines_are other below) inside pivoted) in
        let variable : get_or new_order (m + 1 + other) 0 ≡ get_or order (m + 1 + other) 0 = e.swapped.2 (m + 1 + other) 0 (omega (arith, e.column_below)) (omega arith) in
        moved new_s (with_sign p p) _ _ new new _ _ e.scale (ap (table_row m l) (sym variable)) refl squares comb

-- ---- the equations of a dictionary

abbrev pub Equations : ℕ → ℕ → ℤ → List ℕ → List (List ℤ) → (ℕ → ℤ) → Type 0
Equations m count s order lines x = (row : ℕ) → row < count → s *ℤ x (get_or order (m + 1 + row) 0) ≡ dot (get_or lines row []) (map x (take (m + 1) order))

pub equations_of : (m : ℕ) (l : List LoadedRow) (s : ℤ) (order : List ℕ) (lines : List (List ℤ)) (a b c d : ℕ) (x : ℕ → ℤ)
    → length order ≡ m + 1 + length l → get_or order m 0 ≡ 0 → Satisfies (view_with m l s order lines a b c d) x → Equations m (length l) s order lines x
equations_of m l s order lines a b c d x len constant h row below =
    ap (λ k. s *ℤ x k) (sym (get_or-drop (m + 1) order row 0))
    ∙ h.each row (omega (arith, length-drop (m + 1) order))
    ∙ ap (λ vs. dot (get_or lines row []) (map x vs)) (columns_and_constant m order (omega arith) constant)

pub satisfies_from : (m : ℕ) (l : List LoadedRow) (s : ℤ) (order : List ℕ) (lines : List (List ℤ)) (a b c d : ℕ) (x : ℕ → ℤ)
    → length order ≡ m + 1 + length l → get_or order m 0 ≡ 0 → Equations m (length l) s order lines x → Satisfies (view_with m l s order lines a b c d) x
satisfies_from m l s order lines a b c d x len constant h = record {
  each = λ row below.
      ap (λ k. s *ℤ x k) (get_or-drop (m + 1) order row 0)
      ∙ h row (omega (arith, length-drop (m + 1) order))
      ∙ ap (λ vs. dot (get_or lines row []) (map x vs)) (sym (columns_and_constant m order (omega arith) constant));
}

-- an equation is a combination of rows that have one number each, the variable's value
abbrev cell : (ℕ → ℤ) → ℕ → List ℤ
cell x v = x v ∷ []

cells_first : (x : ℕ → ℤ) (vs : List ℕ) → column_of (map (cell x) vs) 0 ≡ map x vs
cells_first x [] = refl
cells_first x (v ∷ vs) = ap (λ (ns : List ℤ). x v ∷ ns) (cells_first x vs)

cells_rest : (x : ℕ → ℤ) (c : ℕ) (factors : List ℤ) (vs : List ℕ) → dot factors (column_of (map (cell x) vs) (suc c)) ≡ pos 0
cells_rest x c [] vs = refl
cells_rest x c (f ∷ factors) [] = refl
cells_rest x c (f ∷ factors) (v ∷ vs) = none (f *ℤ pos 0) (dot factors (column_of (map (cell x) vs) (suc c))) (mul-zero f) (cells_rest x c factors vs)
  where
    none : (p q : ℤ) → p ≡ pos 0 → q ≡ pos 0 → p +ℤ q ≡ pos 0
    none p q h k = omega (arith, sums)

combination_of_equation : (s : ℤ) (x : ℕ → ℤ) (v : ℕ) (line : List ℤ) (vs : List ℕ) → length line ≡ length vs → s *ℤ x v ≡ dot line (map x vs)
    → IsCombination s (cell x v) line (map (cell x) vs)
combination_of_equation s x v line vs len h = record {
  len = len ∙ sym (length-map vs (cell x));
  each = λ c below. at c;
}
  where
    at : (c : ℕ) → s *ℤ entry (cell x v) c ≡ dot line (column_of (map (cell x) vs) c)
    at zero = h ∙ ap (dot line) (sym (cells_first x vs))
    at (suc c) = mul-zero s ∙ sym (cells_rest x c line vs)

equation_of_combination : (s : ℤ) (x : ℕ → ℤ) (v : ℕ) (line : List ℤ) (vs : List ℕ) → 0 < length vs → IsCombination s (cell x v) line (map (cell x) vs)
    → s *ℤ x v ≡ dot line (map x vs)
equation_of_combination s x v line vs some comb = comb.each 0 (omega (arith, length-map vs (cell x))) ∙ ap (dot line) (cells_first x vs)

-- the exchanged variable is put back
columns_back : (m : ℕ) (order new_order : List ℕ) (row column : ℕ) → column < m → SwappedAt order new_order column (m + 1 + row)
    → set (take (m + 1) new_order) column (get_or order column 0) ≡ take (m + 1) order
columns_back m order new_order row column below swapped =
    ap (λ vs. set vs column (get_or order column 0)) (swapped_columns m order new_order row column below swapped)
    ∙ set-set (take (m + 1) order) column (get_or order (m + 1 + row) 0) (get_or order column 0)
    ∙ ap (set (take (m + 1) order) column) (sym (get_or-take (m + 1) order column 0 (omega arith)))
    ∙ set-get_or (take (m + 1) order) column 0

-- what satisfies the new dictionary satisfied the old one
pub exchange_back : (m : ℕ) (l : List LoadedRow) (s : ℤ) (order : List ℕ) (lines : List (List ℤ)) (new_s : ℤ) (new_order : List ℕ) (new_lines : List (List ℤ)) (row column : ℕ) (x : ℕ → ℤ)
    → AreMinors m l s order lines → IsExchange m s order lines new_s new_order new_lines row column
    → Equations m (length l) new_s new_order new_lines x → Equations m (length l) s order lines x
exchange_back m l s order lines new_s new_order new_lines row column x t e h other below = by_row (cases_eq other row)
  where
    pivot : List ℤ
    pivot = get_or lines row []

    p : ℤ
    p = entry pivot column

    vs : List ℕ
    vs = take (m + 1) new_order

    cells : List (List ℤ)
    cells = map (cell x) vs

    row_in : row < length l
    row_in = omega (arith, e.row_below, t.lines_len)

    vs_len : length vs ≡ m + 1
    vs_len = length-take-le (m + 1) new_order (omega (arith, e.order_len, t.order_len))

    inside : column < length cells
    inside = omega (arith, length-map vs (cell x), vs_len, e.column_below)

    cells_back : set cells column (cell x (get_or order column 0)) ≡ map (cell x) (take (m + 1) order)
    cells_back = sym (map-set (cell x) vs column (get_or order column 0)) ∙ ap (map (cell x)) (columns_back m order new_order row column e.column_below e.swapped)

    some : 0 < length (take (m + 1) order)
    some = omega (arith, length-take-le (m + 1) order (omega (arith, t.order_len)))

    new_row : (i : ℕ) → i < length l → length (get_or new_lines i []) ≡ length (get_or lines i [])
        → IsCombination p (cell x (get_or new_order (m + 1 + i) 0)) (turn p (get_or new_lines i [])) cells
    new_row i i_below same =
        turned_of_combination p p (cell x (get_or new_order (m + 1 + i) 0)) (get_or new_lines i []) cells
        (subst (λ (n : ℤ). IsCombination n (cell x (get_or new_order (m + 1 + i) 0)) (get_or new_lines i []) cells) e.scale
        (combination_of_equation new_s x (get_or new_order (m + 1 + i) 0) (get_or new_lines i []) vs
        (same ∙ line_len m l s order lines i t i_below ∙ sym vs_len) (h i i_below)))

    leaving : IsLeaving s column pivot (turn p (get_or new_lines row []))
    leaving = leaving_of s column pivot (get_or new_lines row []) e.pivot_line

    entering : IsCombination p (cell x (get_or order column 0)) (turn p (get_or new_lines row [])) cells
    entering = subst (λ k. IsCombination p (cell x k) (turn p (get_or new_lines row [])) cells) (e.swapped.1 0) (new_row row row_in e.pivot_line.len)

    by_row : (other ≡ row) ⊎ (other ≢ row) → s *ℤ x (get_or order (m + 1 + other) 0) ≡ dot (get_or lines other []) (map x (take (m + 1) order))
    by_row (inl same) =
        let comb = leaving_row_is_combination p (cell x (get_or order column 0)) (turn p (get_or new_lines row [])) pivot cells column entering inside (leaving_back s column pivot (turn p (get_or new_lines row [])) leaving) in
        let first : get_or cells column [] ≡ cell x (get_or order (m + 1 + other) 0) =
        get_or-map (cell x) vs column 0 [] (omega (arith, vs_len, e.column_below))
        ∙ ap (cell x) (get_or-take (m + 1) new_order column 0 (omega (arith, e.column_below)) ∙ e.swapped.0 0 ∙ ap (λ k. get_or order (m + 1 + k) 0) (sym same)) in
        equation_of_combination s x (get_or order (m + 1 + other) 0) (get_or lines other []) (take (m + 1) order) some
        (moved s _ _ _ (get_or lines other []) pivot _ _ (sym leaving.kept) first (ap (λ k. get_or lines k []) same) (sym cells_back) comb)
    by_row (inr apart) =
        let line = e.other_lines other (omega (arith, t.lines_len)) apart in
        let old = get_or lines other [] in
        let turned = turn p (get_or new_lines other []) in
        let pivoted = pivoted_of s column pivot old (get_or new_lines other []) line in
        let same_len : length pivot ≡ length old = line_len m l s order lines row t row_in ∙ sym (line_len m l s order lines other t below) in
        let comb = pivot_keeps_combination p (cell x (get_or order column 0)) (turn p (get_or new_lines row [])) (cell x (get_or new_order (m + 1 + other) 0)) turned old cells column
        e.nonzero entering (new_row other below line.len) inside (pivoted_back s column pivot old turned (turn p (get_or new_lines row [])) pivoted leaving same_len) in
        let variable : get_or new_order (m + 1 + other) 0 ≡ get_or order (m + 1 + other) 0 = e.swapped.2 (m + 1 + other) 0 (omega (arith, e.column_below)) (omega arith) in
        equation_of_combination s x (get_or order (m + 1 + other) 0) old (take (m + 1) order) some
        (moved s _ _ _ old old _ _ (sym leaving.kept) (ap (cell x) variable) refl (sym cells_back) comb)

-- ---- from what the code does

pub swapped_at : (xs ys : List ℕ) (i j : ℕ) → i < length xs → j < length xs → ys ≡ swap xs i j → SwappedAt xs ys i j
swapped_at xs ys i j i_below j_below e = (
  (λ d. (swapped_from_swap xs ys i j d i_below j_below e).0),
  (λ d. (swapped_from_swap xs ys i j d i_below j_below e).1),
  (λ k d not_i not_j. (swapped_from_swap xs ys i j d i_below j_below e).2 k not_i not_j),
  (λ d. e ∙ sym (swap_is xs i j d i_below j_below)),
)

pub exchange_from : (m : ℕ) (l : List LoadedRow) (s t : ℤ) (order new_order : List ℕ) (lines new_lines : List (List ℤ)) (row column n q : ℕ) (entry_is w new_s : ℤ)
    → AreMinors m l s order lines → row < length l → column < m → entry (get_or lines row []) column ≢ pos 0
    → t ≡ s → AreExchanged t row column lines new_lines
    → entry_is ≡ entry (get_or lines row []) column → unsigned_abs entry_is < 2 ^ 89
    → w ≡ with_sign (to_z w128 (of_z w128 entry_is)) (to_z w128 (of_z w128 entry_is)) → new_s ≡ to_z w128 (of_z w128 w)
    → q ≡ m + 1 + row → new_order ≡ swap order column q → IsArrangement new_order
    → IsExchange m s order lines new_s new_order new_lines row column
exchange_from m l s t order new_order lines new_lines row column n q entry_is w new_s k row_in column_in nonzero same lines_are is size signed new at swapped arranged = record {
  row_below = omega (arith, k.lines_len);
  column_below = column_in;
  nonzero = nonzero;
  scale =
      let back : to_z w128 (of_z w128 entry_is) ≡ entry_is = read_back w128 entry_is (omega arith) in
      let value : w ≡ with_sign entry_is entry_is = signed ∙ ap (λ (z : ℤ). with_sign z z) back in
      new ∙ ap (λ (z : ℤ). to_z w128 (of_z w128 z)) value ∙ read_back w128 (with_sign entry_is entry_is) (omega (arith, with_sign-abs entry_is entry_is)) ∙ ap (λ (z : ℤ). with_sign z z) is;
  order_len = ap length swapped ∙ length-swap order column q;
  swapped = swapped_at order new_order column (m + 1 + row) (omega (arith, k.order_len)) (omega (arith, k.order_len)) (swapped ∙ ap (swap order column) at);
  arranged = arranged;
  lines_len = lines_are.len;
  pivot_line = subst (λ (z : ℤ). IsPivotLine z column (get_or lines row []) (get_or new_lines row [])) same lines_are.pivot_line;
  other_lines = λ other below apart. subst (λ (z : ℤ). IsOtherLine z column (get_or lines row []) (get_or lines other []) (get_or new_lines other [])) same (lines_are.other_lines other below apart);
}

pub exchanged_back_all : (m : ℕ) (l : List LoadedRow) (s : ℤ) (places : Arranged) (lines : List (List ℤ)) (new_s : ℤ) (new_places : Arranged) (new_lines : List (List ℤ)) (row column a b e f : ℕ) (v : ℕ → ℤ)
    → AreMinors m l s places.order lines → IsExchange m s places.order lines new_s new_places.order new_lines row column
    → Satisfies (view_with m l new_s new_places.order new_lines a b e f) v → Satisfies (view_with m l s places.order lines a b e f) v
exchanged_back_all m l s places lines new_s new_places new_lines row column a b e f v k x h =
    let new = exchange_keeps m l s places.order lines new_s new_places.order new_lines row column k x in
    satisfies_from m l s places.order lines a b e f v k.order_len k.constant
    (exchange_back m l s places.order lines new_s new_places.order new_lines row column v k x
    (equations_of m l new_s new_places.order new_lines a b e f v new.order_len new.constant h))

pub exchanged_kept : (m : ℕ) (l : List LoadedRow) (s : ℤ) (places : Arranged) (lines : List (List ℤ)) (new_s : ℤ) (new_places : Arranged) (new_lines : List (List ℤ)) (row column a b c d new_c e f : ℕ)
    → IsRepresentation (view_with m l s places.order lines a b e f) places c d → IsExchange m s places.order lines new_s new_places.order new_lines row column → new_places.room ≡ places.room → new_c ≡ c
    → IsRepresentation (view_with m l new_s new_places.order new_lines a b e f) new_places new_c d
exchanged_kept m l s places lines new_s new_places new_lines row column a b c d new_c e f k x room same = record {
  minors = exchange_keeps m l s places.order lines new_s new_places.order new_lines row column k.minors x;
  solutions = λ v h. k.solutions v (exchanged_back_all m l s places lines new_s new_places new_lines row column a b e f v k.minors x h);
  columns_room = k.columns_room;
  columns_most = k.columns_most;
  rows_room = k.rows_room;
  rows_most = k.rows_most;
  places_room = omega (arith, k.places_room);
  has_lines_room = omega (arith, k.has_lines_room);
  has_loaded_room = k.has_loaded_room;
}

pub pivoted_from : (m : ℕ) (l : List LoadedRow) (s : ℤ) (order : List ℕ) (lines : List (List ℤ)) (new_s : ℤ) (new_order : List ℕ) (new_lines : List (List ℤ)) (row column a b e f : ℕ)
    → IsExchange m s order lines new_s new_order new_lines row column
    → IsPivoted (view_with m l s order lines a b e f) (view_with m l new_s new_order new_lines a b e f) row column
pivoted_from m l s order lines new_s new_order new_lines row column a b e f x = record {
  rest = refl;
  nonbasic =
      ap (take m) (x.swapped.3 0)
      ∙ take-set-le m (set order column entering) (m + 1 + row) leaving (omega arith)
      ∙ take-set-lt m order column entering x.column_below
      ∙ ap (set (take m order) column) (sym (get_or-drop (m + 1) order row 0));
  basic =
      ap (drop (m + 1)) (x.swapped.3 0)
      ∙ drop-set-add (m + 1) (set order column entering) row leaving
      ∙ ap (λ xs. set xs row leaving) (drop-set-lt (m + 1) order column entering (omega (arith, x.column_below)))
      ∙ ap (set (drop (m + 1) order) row) (sym (get_or-take m order column 0 x.column_below));
  scale = x.scale;
  lines_len = x.lines_len;
  pivot_line = x.pivot_line;
  other_lines = x.other_lines;
}
  where
    entering : ℕ
    entering = get_or order (m + 1 + row) 0

    leaving : ℕ
    leaving = get_or order column 0
