-- Rows that change places, and the last row gone, keep what a dictionary keeps.
use Rattle.std.proofs.Common.{◌≡◌, ◌≢◌, ◌∙◌, ◌⊎◌, inl, inr, ℕ, suc, ◌+◌, ◌-◌, ◌<◌, ◌≤◌, cond, eqb, ℤ, pos, ◌+ℤ◌, ◌-ℤ◌, ◌*ℤ◌, List, [], ◌∷◌, length, take, drop, map, get_or, set, sym, ap, subst, refl, arith}
use Rattle.std.proofs.lemmas.List.{length-take-le, length-drop, get_or-take, get_or-drop, take-set-le, take-take, drop-take, drop-set-add}
use Rattle.std.proofs.lemmas.Bool.{cases_eq, cases_lt}
use Rattle.std.proofs.lemmas.List.FromFn.{length-range_with_len, get_or-range_with_len}
use Rattle.std.proofs.lemmas.Bool.Decides.{nat_tests}
use Rattle.std.specs.List.{SwappedAt, range_with_len, swap_remove}
use Rattle.minors.specs.Combination.{IsScale}
use Rattle.row_laws.proofs.Integers.{cancel, mul-add, mul_left_comm, mul-zero, zero-mul, mul-sub, sums}
use Rattle.row_laws.specs.Rows.{dot}
use Rattle.fraction_free.specs.declared.loaded.LoadedRow.{LoadedRow}
use Rattle.fraction_free.specs.Arrangement.{IsArrangement, Arranged}
use Rattle.fraction_free.specs.Dictionary.{IsLoadable, HasSlacks, loaded_at, no_row, slack_of, vector_of}
use Rattle.fraction_free.specs.Changes.{DropsRow}
use Rattle.fraction_free.specs.Representation.{table_row, square_of, AreMinors, IsRepresentation}
use Rattle.fraction_free.proofs.Views.{view_with}
use Rattle.fraction_free.proofs.AddRow.{BeginsWith, table_row_same, square_same, moved}
use Rattle.fraction_free.proofs.PivotKept.{Equations, equations_of, satisfies_from}

-- ---- two rows change places

pub record AreRowsSwapped (m : ℕ) (order : List ℕ) (lines : List (List ℤ)) (new_order : List ℕ) (new_lines : List (List ℤ)) (first second : ℕ) : Type 0 where
  pub first_below : first < length lines
  pub second_below : second < length lines
  pub order_len : length new_order ≡ length order
  pub lines_len : length new_lines ≡ length lines
  pub order_swapped : SwappedAt order new_order (m + 1 + first) (m + 1 + second)
  pub lines_swapped : SwappedAt lines new_lines first second

-- each row stands where another stood
pub source : (m : ℕ) (order : List ℕ) (lines : List (List ℤ)) (new_order : List ℕ) (new_lines : List (List ℤ)) (first second : ℕ) → AreRowsSwapped m order lines new_order new_lines first second
    → (row : ℕ) → row < length lines → (from : ℕ) × (from < length lines) × (get_or new_order (m + 1 + row) 0 ≡ get_or order (m + 1 + from) 0) × (get_or new_lines row [] ≡ get_or lines from [])
source m order lines new_order new_lines first second h row below =
    elim (cases_eq row first) [
      | inl e ↦ (second, h.second_below, ap (λ k. get_or new_order (m + 1 + k) 0) e ∙ h.order_swapped.0 0, ap (λ k. get_or new_lines k []) e ∙ h.lines_swapped.0 [])
      | inr ne ↦ elim (cases_eq row second) [
        | inl f ↦ (first, h.first_below, ap (λ k. get_or new_order (m + 1 + k) 0) f ∙ h.order_swapped.1 0, ap (λ k. get_or new_lines k []) f ∙ h.lines_swapped.1 [])
        | inr nf ↦ (row, below, h.order_swapped.2 (m + 1 + row) 0 (omega arith) (omega arith), h.lines_swapped.2 row [] ne nf)
      ]
    ]

-- and each stands somewhere
pub target : (m : ℕ) (order : List ℕ) (lines : List (List ℤ)) (new_order : List ℕ) (new_lines : List (List ℤ)) (first second : ℕ) → AreRowsSwapped m order lines new_order new_lines first second
    → (row : ℕ) → row < length lines → (to : ℕ) × (to < length lines) × (get_or new_order (m + 1 + to) 0 ≡ get_or order (m + 1 + row) 0) × (get_or new_lines to [] ≡ get_or lines row [])
target m order lines new_order new_lines first second h row below =
    elim (cases_eq row first) [
      | inl e ↦ (second, h.second_below, h.order_swapped.1 0 ∙ ap (λ k. get_or order (m + 1 + k) 0) (sym e), h.lines_swapped.1 [] ∙ ap (λ k. get_or lines k []) (sym e))
      | inr ne ↦ elim (cases_eq row second) [
        | inl f ↦ (first, h.first_below, h.order_swapped.0 0 ∙ ap (λ k. get_or order (m + 1 + k) 0) (sym f), h.lines_swapped.0 [] ∙ ap (λ k. get_or lines k []) (sym f))
        | inr nf ↦ (row, below, h.order_swapped.2 (m + 1 + row) 0 (omega arith) (omega arith), h.lines_swapped.2 row [] ne nf)
      ]
    ]

same_columns : (m : ℕ) (order : List ℕ) (lines : List (List ℤ)) (new_order : List ℕ) (new_lines : List (List ℤ)) (first second : ℕ) → AreRowsSwapped m order lines new_order new_lines first second
    → take (m + 1) new_order ≡ take (m + 1) order
same_columns m order lines new_order new_lines first second h =
    ap (take (m + 1)) (h.order_swapped.3 0)
    ∙ take-set-le (m + 1) (set order (m + 1 + first) (get_or order (m + 1 + second) 0)) (m + 1 + second) (get_or order (m + 1 + first) 0) (omega arith)
    ∙ take-set-le (m + 1) order (m + 1 + first) (get_or order (m + 1 + second) 0) (omega arith)

pub swapped_minors : (m : ℕ) (l : List LoadedRow) (s : ℤ) (order : List ℕ) (lines : List (List ℤ)) (new_order : List ℕ) (new_lines : List (List ℤ)) (first second : ℕ)
    → AreMinors m l s order lines → AreRowsSwapped m order lines new_order new_lines first second → IsArrangement new_order → AreMinors m l s new_order new_lines
swapped_minors m l s order lines new_order new_lines first second t h arranged = record {
  columns_some = t.columns_some;
  columns_most = t.columns_most;
  lines_len = h.lines_len ∙ t.lines_len;
  order_len = h.order_len ∙ t.order_len;
  constant = h.order_swapped.2 m 0 (omega arith) (omega arith) ∙ t.constant;
  rows = t.rows;
  variables = arranged;
  positive = t.positive;
  scale_is = subst (IsScale s) (sym squares) t.scale_is;
  lines_are = λ row below.
      let from = source m order lines new_order new_lines first second h row (omega (arith, t.lines_len)) in
      moved s _ _ (get_or new_lines row []) (get_or lines from.0 []) _ _ (ap (table_row m l) from.2) from.3 squares (t.lines_are from.0 (omega (arith, from.1, t.lines_len)));
}
  where
    squares : square_of m l new_order ≡ square_of m l order
    squares = ap (map (table_row m l)) (same_columns m order lines new_order new_lines first second h)

pub swapped_equations : (m count : ℕ) (s : ℤ) (order : List ℕ) (lines : List (List ℤ)) (new_order : List ℕ) (new_lines : List (List ℤ)) (first second : ℕ) (x : ℕ → ℤ)
    → AreRowsSwapped m order lines new_order new_lines first second → length lines ≡ count → Equations m count s new_order new_lines x → Equations m count s order lines x
swapped_equations m count s order lines new_order new_lines first second x h len e row below =
    let to = target m order lines new_order new_lines first second h row (omega arith) in
    ap (λ k. s *ℤ x k) (sym to.2) ∙ e to.0 (omega (arith, to.1)) ∙ ap (λ (f : List ℤ). dot f (map x (take (m + 1) new_order))) to.3
    ∙ ap (λ vs. dot (get_or lines row []) (map x vs)) (same_columns m order lines new_order new_lines first second h)

-- ---- the last row gone, whose variable is the last slack

begins_with_take : (l : List LoadedRow) (k : ℕ) → k ≤ length l → BeginsWith (take k l) l
begins_with_take l k h = record {
  len = omega (arith, length-take-le k l h);
  same = λ row below. sym (get_or-take k l row no_row (omega (arith, length-take-le k l h)));
}

pub popped_minors : (m : ℕ) (l : List LoadedRow) (s : ℤ) (order : List ℕ) (lines : List (List ℤ)) (k : ℕ) → AreMinors m l s order lines → length l ≡ k + 1
    → IsArrangement (take (m + 1 + k) order) → AreMinors m (take k l) s (take (m + 1 + k) order) (take k lines)
popped_minors m l s order lines k t len arranged = record {
  columns_some = t.columns_some;
  columns_most = t.columns_most;
  lines_len = length-take-le k lines (omega (arith, t.lines_len)) ∙ sym l_len;
  order_len = o_len ∙ omega (arith, l_len);
  constant = get_or-take (m + 1 + k) order m 0 (omega arith) ∙ t.constant;
  rows = λ row below. subst (IsLoadable m) (begins.same row below) (t.rows row (omega (arith, l_len)));
  variables = arranged;
  positive = t.positive;
  scale_is = subst (IsScale s) squares t.scale_is;
  lines_are = λ row below.
      let variable : get_or (take (m + 1 + k) order) (m + 1 + row) 0 ≡ get_or order (m + 1 + row) 0 = get_or-take (m + 1 + k) order (m + 1 + row) 0 (omega (arith, l_len)) in
      let v_below : get_or (take (m + 1 + k) order) (m + 1 + row) 0 < length (take (m + 1 + k) order) = arranged.below (m + 1 + row) (omega (arith, o_len, l_len)) in
      moved s _ _ (get_or (take k lines) row []) (get_or lines row []) _ _
      (sym (table_row_same m (take k l) l (get_or (take (m + 1 + k) order) (m + 1 + row) 0) begins (omega (arith, o_len, l_len))) ∙ ap (table_row m l) variable)
      (get_or-take k lines row [] (omega (arith, l_len))) (sym squares) (t.lines_are row (omega (arith, l_len)));
}
  where
    l_len : length (take k l) ≡ k
    l_len = length-take-le k l (omega arith)

    o_len : length (take (m + 1 + k) order) ≡ m + 1 + k
    o_len = length-take-le (m + 1 + k) order (omega (arith, t.order_len))

    begins : BeginsWith (take k l) l
    begins = begins_with_take l k (omega arith)

    squares : square_of m l order ≡ square_of m (take k l) (take (m + 1 + k) order)
    squares = square_same m (take k l) l (take (m + 1 + k) order) order begins (o_len ∙ omega (arith, l_len)) (sym (take-take (m + 1) (m + 1 + k) order (omega arith))) arranged.below

-- sums of multiples
dot_scaled : (s : ℤ) (x y : ℕ → ℤ) (f : List ℤ) (vs : List ℕ) → ((k : ℕ) → k < length vs → y (get_or vs k 0) ≡ s *ℤ x (get_or vs k 0)) → dot f (map y vs) ≡ s *ℤ dot f (map x vs)
dot_scaled s x y [] vs h = sym (mul-zero s)
dot_scaled s x y (c ∷ f) [] h = sym (mul-zero s)
dot_scaled s x y (c ∷ f) (v ∷ vs) h =
    ap (λ (n : ℤ). c *ℤ n +ℤ dot f (map y vs)) (h 0 (omega arith))
    ∙ ap (λ (n : ℤ). c *ℤ (s *ℤ x v) +ℤ n) (dot_scaled s x y f vs (λ k below. h (suc k) (omega arith)))
    ∙ ap (λ (n : ℤ). n +ℤ s *ℤ dot f (map x vs)) (mul_left_comm c s (x v))
    ∙ sym (mul-add s (c *ℤ x v) (dot f (map x vs)))

slack_scaled : (m : ℕ) (row : LoadedRow) (s : ℤ) (x y : ℕ → ℤ) → ((v : ℕ) → v ≤ m → y v ≡ s *ℤ x v) → slack_of m row y ≡ s *ℤ slack_of m row x
slack_scaled m row s x y h =
    let plus : (k : ℕ) → k < length (range_with_len 1 m) → y (get_or (range_with_len 1 m) k 0) +ℤ y 0 ≡ s *ℤ (x (get_or (range_with_len 1 m) k 0) +ℤ x 0) =
    (λ k below.
    let v : get_or (range_with_len 1 m) k 0 ≤ m = omega (arith, length-range_with_len 1 m, get_or-range_with_len 1 m k 0 (omega (arith, length-range_with_len 1 m))) in
    ap (λ (n : ℤ). n +ℤ y 0) (h (get_or (range_with_len 1 m) k 0) v) ∙ ap (λ (n : ℤ). s *ℤ x (get_or (range_with_len 1 m) k 0) +ℤ n) (h 0 (omega arith))
    ∙ sym (mul-add s (x (get_or (range_with_len 1 m) k 0)) (x 0))) in
    ap (λ (n : ℤ). n -ℤ row.least *ℤ y 0)
    (dot_scaled s (λ j. x j +ℤ x 0) (λ j. y j +ℤ y 0) row.coefficients (range_with_len 1 m) plus)
    ∙ ap (λ (n : ℤ). s *ℤ dot row.coefficients (vector_of m x) -ℤ n) (ap (λ (n : ℤ). row.least *ℤ n) (h 0 (omega arith)) ∙ mul_left_comm row.least s (x 0))
    ∙ sym (mul-sub s (dot row.coefficients (vector_of m x)) (row.least *ℤ x 0))

-- what satisfies the shorter dictionary, times the scale and with a value for the last slack, satisfies the longer one
pub popped_solutions : (m : ℕ) (l : List LoadedRow) (s : ℤ) (order : List ℕ) (lines : List (List ℤ)) (k : ℕ) (x : ℕ → ℤ) → AreMinors m l s order lines → length l ≡ k + 1
    → get_or order (m + 1 + k) 0 ≡ m + 1 + k → ((y : ℕ → ℤ) → Equations m (length l) s order lines y → HasSlacks m l y)
    → Equations m k s (take (m + 1 + k) order) (take k lines) x → HasSlacks m (take k l) x
popped_solutions m l s order lines k x t len last solutions h = record { each = λ row below. slack row (omega (arith, length-take-le k l (omega arith))) }
  where
    n : ℕ
    n = m + 1 + k

    columns : List ℕ
    columns = take (m + 1) order

    value : ℤ
    value = dot (get_or lines k []) (map x columns)

    y : ℕ → ℤ
    y v = cond (eqb v n) value (s *ℤ x v)

    y_last : (v : ℕ) → v ≡ n → y v ≡ value
    y_last v e = grind (arith, nat_tests)

    y_other : (v : ℕ) → v ≢ n → y v ≡ s *ℤ x v
    y_other v ne = grind (arith, nat_tests)

    not_last : (at : ℕ) → at < n → get_or order at 0 ≢ n
    not_last at below e =
        absurd (omega (arith, sym (t.variables.back at (omega (arith, t.order_len))) ∙ ap t.variables.place (e ∙ sym last) ∙ t.variables.back n (omega (arith, t.order_len))))

    scaled : (f : List ℤ) → dot f (map y columns) ≡ s *ℤ dot f (map x columns)
    scaled f = dot_scaled s x y f columns
        (λ j below.
        let j_in : j < m + 1 = omega (arith, length-take-le (m + 1) order (omega (arith, t.order_len))) in
        y_other (get_or columns j 0) (λ e. not_last j (omega arith) (sym (get_or-take (m + 1) order j 0 j_in) ∙ e)))

    equation : (row : ℕ) → (row ≡ k) ⊎ (row ≢ k) → row < length l → s *ℤ y (get_or order (m + 1 + row) 0) ≡ dot (get_or lines row []) (map y columns)
    equation row (inl e) below =
        ap (λ (z : ℤ). s *ℤ z) (y_last (get_or order (m + 1 + row) 0) (ap (λ i. get_or order (m + 1 + i) 0) e ∙ last))
        ∙ sym (scaled (get_or lines k [])) ∙ ap (λ i. dot (get_or lines i []) (map y columns)) (sym e)
    equation row (inr ne) below =
        let inside : row < k = omega arith in
        ap (λ (z : ℤ). s *ℤ z) (y_other (get_or order (m + 1 + row) 0) (not_last (m + 1 + row) (omega arith)))
        ∙ ap (λ (z : ℤ). s *ℤ z)
        (ap (λ v. s *ℤ x v) (sym (get_or-take n order (m + 1 + row) 0 (omega arith))) ∙ h row inside
        ∙ ap (λ (f : List ℤ). dot f (map x (take (m + 1) (take n order)))) (get_or-take k lines row [] inside)
        ∙ ap (λ vs. dot (get_or lines row []) (map x vs)) (take-take (m + 1) n order (omega arith)))
        ∙ sym (scaled (get_or lines row []))

    slacks : HasSlacks m l y
    slacks = solutions y (λ row below. equation row (cases_eq row k) below)

    slack : (row : ℕ) → row < k → x (m + 1 + row) ≡ slack_of m (loaded_at (take k l) row) x
    slack row below =
        cancel s (x (m + 1 + row)) (slack_of m (loaded_at (take k l) row) x) t.scale_is.nonzero
        (sym (y_other (m + 1 + row) (omega arith)) ∙ slacks.each row (omega arith)
        ∙ slack_scaled m (loaded_at l row) s x y (λ v small. y_other v (omega arith))
        ∙ ap (λ (r : LoadedRow). s *ℤ slack_of m r x) (sym (get_or-take k l row no_row below)))

pub dropped_kept : (m : ℕ) (l new_l : List LoadedRow) (s : ℤ) (places new_places : Arranged) (lines new_lines mid_lines : List (List ℤ)) (mid_order : List ℕ) (a b c d e f new_c new_d k first : ℕ)
    → IsRepresentation (view_with m l s places.order lines a b e f) places c d → length l ≡ k + 1
    → AreRowsSwapped m places.order lines mid_order mid_lines first k → IsArrangement mid_order → get_or mid_order (m + 1 + k) 0 ≡ m + 1 + k
    → new_l ≡ take k l → new_lines ≡ take k mid_lines → new_places.order ≡ take (m + 1 + k) mid_order → new_places.room ≡ places.room → IsArrangement new_places.order
    → c ≤ new_c → d ≤ new_d → IsRepresentation (view_with m new_l s new_places.order new_lines a b e f) new_places new_c new_d
dropped_kept m l new_l s places new_places lines new_lines mid_lines mid_order a b c d e f new_c new_d k first kept len swapped mid_arranged last l_is lines_is order_is room_is arranged c_room d_room =
    let t = kept.minors in
    let mid = swapped_minors m l s places.order lines mid_order mid_lines first k t swapped mid_arranged in
    let new = popped_minors m l s mid_order mid_lines k mid len (subst IsArrangement order_is arranged) in
    let new_len : length (take k l) ≡ k = length-take-le k l (omega arith) in
    record {
      minors = rw (l_is, lines_is, order_is) new;
      solutions = rw (l_is, lines_is, order_is)
          (λ x h.
          popped_solutions m l s mid_order mid_lines k x mid len last
          (λ y eqs. kept.solutions y (satisfies_from m l s places.order lines a b e f y t.order_len t.constant
          (swapped_equations m (length l) s places.order lines mid_order mid_lines first k y swapped t.lines_len eqs)))
          (subst (λ n. Equations m n s (take (m + 1 + k) mid_order) (take k mid_lines) x) new_len
          (equations_of m (take k l) s (take (m + 1 + k) mid_order) (take k mid_lines) a b e f x new.order_len new.constant h)));
      columns_room = kept.columns_room;
      columns_most = kept.columns_most;
      rows_room = omega (arith, ap length l_is, kept.rows_room);
      rows_most = kept.rows_most;
      places_room = omega (arith, kept.places_room);
      has_lines_room = omega (arith, kept.has_lines_room);
      has_loaded_room = omega (arith, kept.has_loaded_room);
    }

-- what is left of two places exchanged, without the last, is what `swap_remove` leaves
removed_end : {X : Type 0} (xs ys : List X) (i k : ℕ) (d : X) → length xs ≡ k + 1 → SwappedAt xs ys i k → take k ys ≡ swap_remove xs i d
removed_end xs ys i k d len s =
    let end : k ≡ length xs - 1 = omega arith in
    ap (take k) (s.3 d) ∙ take-set-le k (set xs i (get_or xs k d)) k (get_or xs i d) (omega arith) ∙ ap (λ n. take n (set xs i (get_or xs n d))) end

-- past the first n places of the list too
drop-swap_remove : (n k i : ℕ) (xs : List ℕ) → length xs ≡ n + k + 1 → drop n (swap_remove xs (n + i) 0) ≡ swap_remove (drop n xs) i 0
drop-swap_remove n k i xs len =
    let whole : length xs - 1 ≡ n + k = omega arith in
    let rest : k ≡ length (drop n xs) - 1 = omega (arith, length-drop n xs) in
    ap (λ j. drop n (take j (set xs (n + i) (get_or xs j 0)))) whole
    ∙ drop-take n k (set xs (n + i) (get_or xs (n + k) 0))
    ∙ ap (take k) (drop-set-add n xs i (get_or xs (n + k) 0) ∙ ap (set (drop n xs) i) (sym (get_or-drop n xs k 0)))
    ∙ ap (λ j. take j (set (drop n xs) i (get_or (drop n xs) j 0))) rest

take-swap_remove : (n i : ℕ) (xs : List ℕ) → n ≤ i → n < length xs → take n (swap_remove xs i 0) ≡ take n xs
take-swap_remove n i xs low high =
    take-take n (length xs - 1) (set xs i (get_or xs (length xs - 1) 0)) (omega arith) ∙ take-set-le n xs i (get_or xs (length xs - 1) 0) low

pub dropped_row : (m : ℕ) (l new_l : List LoadedRow) (s : ℤ) (order mid_order new_order : List ℕ) (lines mid_lines new_lines : List (List ℤ)) (a b e f k row : ℕ)
    → length l ≡ k + 1 → length lines ≡ k + 1 → length order ≡ m + 1 + k + 1 → AreRowsSwapped m order lines mid_order mid_lines row k
    → get_or (drop (m + 1) order) row 0 ≡ m + (k + 1)
    → new_l ≡ take k l → new_lines ≡ take k mid_lines → new_order ≡ take (m + 1 + k) mid_order
    → DropsRow (view_with m l s order lines a b e f) (view_with m new_l s new_order new_lines a b e f) row
dropped_row m l new_l s order mid_order new_order lines mid_lines new_lines a b e f k row len lines_len order_len swapped slack l_is lines_is order_is =
    let order_removed : new_order ≡ swap_remove order (m + 1 + row) 0 = order_is ∙ removed_end order mid_order (m + 1 + row) (m + 1 + k) 0 order_len swapped.order_swapped in
    let loaded : new_l ≡ take (length l - 1) l = l_is ∙ ap (λ n. take n l) (omega arith) in
    let lines_removed : new_lines ≡ swap_remove lines row [] = lines_is ∙ removed_end lines mid_lines row k [] lines_len swapped.lines_swapped in
    let nonbasic : take m new_order ≡ take m order = ap (take m) order_removed ∙ take-swap_remove m (m + 1 + row) order (omega arith) (omega arith) in
    let basic : drop (m + 1) new_order ≡ swap_remove (drop (m + 1) order) row 0 = ap (drop (m + 1)) order_removed ∙ drop-swap_remove (m + 1) k row order order_len in
    record {
      within = omega (arith, swapped.first_below);
      slack = slack ∙ omega arith;
      is = rw (loaded, nonbasic, basic, lines_removed) refl;
    }

-- ---- a nonbasic slack has a row with an entry that isn't 0

dot_none : (x : ℕ → ℤ) (f : List ℤ) (vs : List ℕ) → ((k : ℕ) → k < length vs → (get_or f k (pos 0) ≡ pos 0) ⊎ (x (get_or vs k 0) ≡ pos 0)) → dot f (map x vs) ≡ pos 0
dot_none x [] vs h = refl
dot_none x (c ∷ f) [] h = refl
dot_none x (c ∷ f) (v ∷ vs) h = none (c *ℤ x v) (dot f (map x vs)) (product (h 0 (omega arith))) (dot_none x f vs (λ k below. h (suc k) (omega arith)))
  where
    none : (p q : ℤ) → p ≡ pos 0 → q ≡ pos 0 → p +ℤ q ≡ pos 0
    none p q i j = omega (arith, sums)

    product : (c ≡ pos 0) ⊎ (x v ≡ pos 0) → c *ℤ x v ≡ pos 0
    product (inl e) = ap (λ (n : ℤ). n *ℤ x v) e ∙ zero-mul (x v)
    product (inr e) = ap (λ (n : ℤ). c *ℤ n) e ∙ mul-zero c

pub slack_has_entry : (m : ℕ) (l : List LoadedRow) (s : ℤ) (order : List ℕ) (lines : List (List ℤ)) (column k : ℕ) → AreMinors m l s order lines → length l ≡ k + 1 → column < m
    → get_or order column 0 ≡ m + 1 + k → ((y : ℕ → ℤ) → Equations m (length l) s order lines y → HasSlacks m l y)
    → ((row : ℕ) → row < length l → get_or (get_or lines row []) column (pos 0) ≡ pos 0) → ⊥
slack_has_entry m l s order lines column k t len below is solutions zeros =
    one_apart (sym (x_last (m + 1 + k) refl) ∙ slacks.each k (omega arith) ∙ slack_scaled m (loaded_at l k) (pos 0) x x (λ v small. x_other v (omega arith) ∙ sym (zero-mul (x v))) ∙ zero-mul (slack_of m (loaded_at l k) x))
  where
    n : ℕ
    n = m + 1 + k

    x : ℕ → ℤ
    x v = cond (eqb v n) (pos 1) (pos 0)

    x_last : (v : ℕ) → v ≡ n → x v ≡ pos 1
    x_last v e = grind (arith, nat_tests)

    x_other : (v : ℕ) → v ≢ n → x v ≡ pos 0
    x_other v ne = grind (arith, nat_tests)

    one_apart : pos 1 ≡ pos 0 → ⊥
    one_apart e = omega (arith, sums)

    apart : (at : ℕ) → at < length order → at ≢ column → get_or order at 0 ≢ n
    apart at inside ne e = ne (sym (t.variables.back at inside) ∙ ap t.variables.place (e ∙ sym is) ∙ t.variables.back column (omega (arith, t.order_len)))

    factor : (row : ℕ) → row < length l → (j : ℕ) → j < length (take (m + 1) order) → (get_or (get_or lines row []) j (pos 0) ≡ pos 0) ⊎ (x (get_or (take (m + 1) order) j 0) ≡ pos 0)
    factor row inside j j_below =
        let j_in : j < m + 1 = omega (arith, length-take-le (m + 1) order (omega (arith, t.order_len))) in
        elim (cases_eq j column) [
          | inl e ↦ inl (ap (λ i. get_or (get_or lines row []) i (pos 0)) e ∙ zeros row inside)
          | inr ne ↦ inr (x_other (get_or (take (m + 1) order) j 0) (λ e. apart j (omega (arith, t.order_len)) ne (sym (get_or-take (m + 1) order j 0 j_in) ∙ e)))
        ]

    slacks : HasSlacks m l x
    slacks = solutions x
        (λ row inside.
        ap (λ (z : ℤ). s *ℤ z) (x_other (get_or order (m + 1 + row) 0) (apart (m + 1 + row) (omega (arith, t.order_len)) (omega arith))) ∙ mul-zero s
        ∙ sym (dot_none x (get_or lines row []) (take (m + 1) order) (factor row inside)))

-- so the first row with an entry that isn't 0 is there
pub found_below : (m : ℕ) (l : List LoadedRow) (s : ℤ) (places : Arranged) (lines given : List (List ℤ)) (a b c d e f column row last : ℕ) → IsRepresentation (view_with m l s places.order lines a b e f) places c d → 0 < length l → last ≡ m + length l
    → column < m → get_or places.order column 0 ≡ last → given ≡ lines → ((r : ℕ) → r < row → get_or (get_or given r []) column (pos 0) ≡ pos 0) → row < length l
found_below m l s places lines given a b c d e f column row last kept some last_is below value same before =
    let t = kept.minors in
    elim (cases_lt row (length l)) [
      | inl inside ↦ inside
      | inr past ↦ absurd
          (slack_has_entry m l s places.order lines column (length l - 1) t (omega arith) below (value ∙ omega arith)
          (λ y eqs. kept.solutions y (satisfies_from m l s places.order lines a b e f y t.order_len t.constant eqs))
          (λ r inside. ap (λ (ls : List (List ℤ)). get_or (get_or ls r []) column (pos 0)) (sym same) ∙ before r (omega arith)))
    ]
