-- What every dictionary keeps gives what callers see of it.
use Rattle.std.proofs.Common.{◌≡◌, ◌∙◌, ◌≢◌, inl, inr, lit<, ◌^◌, ◌-ℤ◌, set, ℕ, ◌+◌, ◌<◌, ◌≤◌, ℤ, pos, ◌*ℤ◌, unsigned_abs, List, [], ◌∷◌, ◌++◌, length, take, drop, map, get_or, sym, ap, subst, arith}
use Rattle.std.proofs.lemmas.List.{length-take-le, length-drop, get_or-drop, take_more, take-append-drop, drop_more, get_or_read, get_or_past, length-set, get_or-set_same, get_or-set_other}
use Rattle.std.proofs.lemmas.Bool.{cases_eq, cases_lt}
use Rattle.std.specs.List.{All}
use Rattle.wide_step.specs.Quotient.{HasQuotient}
use Rattle.minors.specs.Minor.{minor, HasSmallEntries}
use Rattle.minors.proofs.Laws.{factor_is_bounded, minor_is_bounded, scale_is_bounded, bound_is_small, pivot_divides}
use Rattle.row_laws.specs.Rows.{dot, entry}
use Rattle.fraction_free.specs.declared.loaded.LoadedRow.{LoadedRow}
use Rattle.fraction_free.specs.Arrangement.{IsArrangement, Arranged}
use Rattle.fraction_free.specs.Dictionary.{IsDictionary, HasSlacks, Satisfies, max_number}
use Rattle.fraction_free.specs.Representation.{table_row, square_of, AreMinors, IsRepresentation, CanExchange}
use Rattle.fraction_free.proofs.Views.{view_with}
use Rattle.fraction_free.proofs.Table.{square_small, length-square, table_row_small}
use Rattle.fraction_free.proofs.Values.{combination_value, variable_value}

-- the variables of the columns and of the constant are the first of the order
pub columns_and_constant : (m : ℕ) (order : List ℕ) → m < length order → get_or order m 0 ≡ 0 → take m order ++ 0 ∷ [] ≡ take (m + 1) order
columns_and_constant m order below constant = sym (take_more order m 0 below ∙ ap (λ k. take m order ++ k ∷ []) constant)

pub whole_order : (m : ℕ) (order : List ℕ) → m < length order → get_or order m 0 ≡ 0 → take m order ++ 0 ∷ drop (m + 1) order ≡ order
whole_order m order below constant =
    ap (λ rest. take m order ++ rest) (sym (drop_more order m 0 below ∙ ap (λ k. k ∷ drop (m + 1) order) constant)) ∙ take-append-drop m order

-- the loaded rows' slacks satisfy the dictionary
pub satisfied : (m : ℕ) (l : List LoadedRow) (s : ℤ) (order : List ℕ) (lines : List (List ℤ)) (a b c d : ℕ) (x : ℕ → ℤ)
    → AreMinors m l s order lines → HasSlacks m l x → Satisfies (view_with m l s order lines a b c d) x
satisfied m l s order lines a b c d x t h = record {
  each = λ row below.
      let inside : row < length l = omega (arith, length-drop (m + 1) order, t.order_len) in
      let variable : get_or (drop (m + 1) order) row 0 ≡ get_or order (m + 1 + row) 0 = get_or-drop (m + 1) order row 0 in
      let value = variable_value m l x (get_or order (m + 1 + row) 0) t.rows h (omega (arith, t.variables.below (m + 1 + row) (omega (arith, t.order_len)), t.order_len)) in
      ap (λ k. s *ℤ x k) variable
      ∙ ap (λ (n : ℤ). s *ℤ n) (sym value)
      ∙ combination_value m l s order x (table_row m l (get_or order (m + 1 + row) 0)) (get_or lines row []) t.order_len t.variables t.rows h (t.lines_are row inside)
      ∙ ap (λ vs. dot (get_or lines row []) (map x vs)) (sym (columns_and_constant m order (omega (arith, t.order_len)) t.constant));
}

pub small_scale : (m : ℕ) (l : List LoadedRow) (s : ℤ) (order : List ℕ) (lines : List (List ℤ)) → AreMinors m l s order lines → unsigned_abs s ≤ max_number
small_scale m l s order lines t =
    let len : length (square_of m l order) ≡ m + 1 = length-square m l order (omega (arith, t.order_len)) in
    let bound = scale_is_bounded s (square_of m l order) 25 t.scale_is (omega arith) (square_small m l order t.columns_most t.order_len t.variables t.rows) in
    let most = bound_is_small.0 (length (square_of m l order)) (omega (arith, t.columns_most)) in
    omega arith

pub small_number : (m : ℕ) (l : List LoadedRow) (s : ℤ) (order : List ℕ) (lines : List (List ℤ)) (row column : ℕ) → AreMinors m l s order lines → row < length l
    → unsigned_abs (get_or (get_or lines row []) column (pos 0)) ≤ max_number
small_number m l s order lines row column t inside =
    let len : length (square_of m l order) ≡ m + 1 = length-square m l order (omega (arith, t.order_len)) in
    let v : get_or order (m + 1 + row) 0 < m + 1 + length l = omega (arith, t.variables.below (m + 1 + row) (omega (arith, t.order_len)), t.order_len) in
    let small = subst (λ n. HasSmallEntries n 25 (table_row m l (get_or order (m + 1 + row) 0))) (sym len) (table_row_small m l (get_or order (m + 1 + row) 0) t.columns_most t.rows v) in
    let bound = factor_is_bounded s (table_row m l (get_or order (m + 1 + row) 0)) (get_or lines row []) (square_of m l order) column 25 t.scale_is (t.lines_are row inside) (omega arith) (square_small m l order t.columns_most t.order_len t.variables t.rows) small in
    let most = bound_is_small.0 (length (square_of m l order)) (omega (arith, t.columns_most)) in
    omega arith

pub line_len : (m : ℕ) (l : List LoadedRow) (s : ℤ) (order : List ℕ) (lines : List (List ℤ)) (row : ℕ) → AreMinors m l s order lines → row < length l
    → length (get_or lines row []) ≡ m + 1
line_len m l s order lines row t inside = (t.lines_are row inside).len ∙ length-square m l order (omega (arith, t.order_len))

pub dictionary_from_kept : (m : ℕ) (l : List LoadedRow) (s : ℤ) (places : Arranged) (lines : List (List ℤ)) (a b c d e f : ℕ)
    → IsRepresentation (view_with m l s places.order lines a b e f) places c d → IsDictionary (view_with m l s places.order lines a b e f)
dictionary_from_kept m l s places lines a b c d e f k =
    let t = k.minors in
    let order = places.order in
    record {
      columns_some = t.columns_some;
      columns_most = t.columns_most;
      columns_room = k.columns_room;
      rows_room = k.rows_room;
      rows_most = k.rows_most;
      nonbasic_len = length-take-le m order (omega (arith, t.order_len));
      basic_len = omega (arith, length-drop (m + 1) order, t.order_len);
      lines_len = t.lines_len;
      line_len = λ row inside. line_len m l s order lines row t inside;
      rows = t.rows;
      variables = subst IsArrangement (sym (whole_order m order (omega (arith, t.order_len)) t.constant)) t.variables;
      positive = t.positive;
      scale_size = small_scale m l s order lines t;
      sizes = λ row column inside within. small_number m l s order lines row column t inside;
      solutions = λ x. (k.solutions x, satisfied m l s order lines a b e f x t);
    }

pub most_fits : max_number < 2 ^ 89
most_fits = bound_is_small.1

pub number_fits : (m : ℕ) (l : List LoadedRow) (s : ℤ) (order : List ℕ) (lines : List (List ℤ)) (row column : ℕ) → AreMinors m l s order lines
    → unsigned_abs (get_or (get_or lines row []) column (pos 0)) < 2 ^ 89
number_fits m l s order lines row column t =
    elim (cases_lt row (length l)) [
      | inl inside ↦ omega (arith, small_number m l s order lines row column t inside, most_fits)
      | inr past ↦ subst (λ (n : ℤ). unsigned_abs n < 2 ^ 89) (sym (ap (λ (line : List ℤ). get_or line column (pos 0)) (get_or_past lines row [] (omega (arith, t.lines_len))))) (lit< tt)
    ]

pub scale_fits : (m : ℕ) (l : List LoadedRow) (s : ℤ) (order : List ℕ) (lines : List (List ℤ)) → AreMinors m l s order lines → unsigned_abs s < 2 ^ 89
scale_fits m l s order lines t = omega (arith, small_scale m l s order lines t, most_fits)

-- what holds of each element, and of one that is written, holds of each afterwards
All-set : (P : List ℤ → Type 0) (xs : List (List ℤ)) (k : ℕ) (y : List ℤ) → All P xs → P y → All P (set xs k y)
All-set P xs k y all here i d below =
    elim (cases_eq i k) [
      | inl e ↦ subst P (sym (ap (λ j. get_or (set xs k y) j d) e ∙ get_or-set_same xs k y d (omega (arith, length-set xs k y)))) here
      | inr ne ↦ subst P (sym (get_or-set_other xs k i y d ne)) (all i d (omega (arith, length-set xs k y)))
    ]

-- each difference of products that a pivot divides has an exact quotient, and that is a minor
pub can_exchange : (m : ℕ) (l : List LoadedRow) (s : ℤ) (order : List ℕ) (lines : List (List ℤ)) (at column : ℕ) → AreMinors m l s order lines → at < length l → column < m
    → entry (get_or lines at []) column ≢ pos 0 → CanExchange s at column lines
can_exchange m l s order lines at column t at_in below nonzero = record {
  positive = t.positive;
  scale_size = scale_fits m l s order lines t;
  len = λ row inside. line_len m l s order lines row t (omega (arith, t.lines_len)) ∙ sym (line_len m l s order lines at t at_in);
  column_below = omega (arith, line_len m l s order lines at t at_in);
  sizes = λ row place. number_fits m l s order lines row place t;
  exact = λ row place inside apart place_in other. quotient row place (omega (arith, t.lines_len)) (omega (arith, line_len m l s order lines at t at_in)) other;
}
  where
    rows : List (List ℤ)
    rows = square_of m l order

    rows_len : length rows ≡ m + 1
    rows_len = length-square m l order (omega (arith, t.order_len))

    entering : List ℤ
    entering = table_row m l (get_or order (m + 1 + at) 0)

    is_small : (row : ℕ) → row < length l → HasSmallEntries (m + 1) 25 (table_row m l (get_or order (m + 1 + row) 0))
    is_small row inside = table_row_small m l (get_or order (m + 1 + row) 0) t.columns_most t.rows (omega (arith, t.variables.below (m + 1 + row) (omega (arith, t.order_len)), t.order_len))

    small_rows : All (HasSmallEntries (m + 1) 25) rows
    small_rows = subst (λ n. All (HasSmallEntries n 25) rows) rows_len (square_small m l order t.columns_most t.order_len t.variables t.rows)

    bounded : (row place : ℕ) → row < length l → place < m + 1 → unsigned_abs (minor (set (set rows column entering) place (table_row m l (get_or order (m + 1 + row) 0)))) < 2 ^ 126
    bounded row place inside place_in =
        let this = table_row m l (get_or order (m + 1 + row) 0) in
        let two = set (set rows column entering) place this in
        let two_len : length two ≡ m + 1 = length-set (set rows column entering) place this ∙ length-set rows column entering ∙ rows_len in
        let all = All-set (HasSmallEntries (m + 1) 25) (set rows column entering) place this (All-set (HasSmallEntries (m + 1) 25) rows column entering small_rows (is_small at at_in)) (is_small row inside) in
        let bound = minor_is_bounded two 25 (omega arith) (subst (λ n. All (HasSmallEntries n 25) two) (sym two_len) all) in
        let most = bound_is_small.0 (length two) (omega (arith, t.columns_most)) in
        omega (arith, most_fits)

    quotient : (row place : ℕ) → row < length l → place < m + 1 → place ≢ column
        → HasQuotient (entry (get_or lines at []) column *ℤ entry (get_or lines row []) place -ℤ entry (get_or lines row []) column *ℤ entry (get_or lines at []) place) s
    quotient row place inside place_in other =
        let q = pivot_divides s entering (get_or lines at []) (table_row m l (get_or order (m + 1 + row) 0)) (get_or lines row []) rows column place t.scale_is (t.lines_are at at_in) (t.lines_are row inside) (omega (arith, rows_len, below)) (omega (arith, rows_len)) other nonzero in
        record { quotient = q.0; exact = q.1; size = subst (λ n. n < 2 ^ 126) (sym q.2) (bounded row place inside place_in) }

-- a line that was read
pub read_len : (m : ℕ) (l : List LoadedRow) (s : ℤ) (order : List ℕ) (lines : List (List ℤ)) (row : ℕ) (line : List ℤ) → AreMinors m l s order lines → row < length l
    → line ≡ get_or lines row line → length line ≡ m + 1
read_len m l s order lines row line t inside is = ap length (get_or_read lines row line (omega (arith, t.lines_len)) is []) ∙ line_len m l s order lines row t inside
