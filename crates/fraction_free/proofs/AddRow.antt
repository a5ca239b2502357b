-- A row more keeps what a dictionary keeps.
use Rattle.std.proofs.Common.{◌≡◌, ◌∙◌, ◌⊎◌, inl, inr, ℕ, suc, ◌+◌, ◌-◌, ◌<◌, ◌≤◌, ℤ, ◌*ℤ◌, List, [], ◌∷◌, ◌++◌, length, take, drop, map, get_or, sym, ap, subst, refl, arith}
use Rattle.std.proofs.lemmas.List.{get_or_append_left, get_or_at, length_push, take-append-le, drop-append-le, length-take-le, get_or-take}
use Rattle.std.proofs.lemmas.Bool.{cases_eq, cases_lt}
use Rattle.minors.specs.Combination.{IsCombination, IsScale}
use Rattle.row_laws.specs.Rows.{dot}
use Rattle.row_laws.proofs.Integers.{cancel}
use Rattle.fraction_free.specs.declared.loaded.LoadedRow.{LoadedRow}
use Rattle.fraction_free.specs.Arrangement.{IsArrangement, Arranged}
use Rattle.fraction_free.specs.Changes.{AddsRow, next_count}
use Rattle.fraction_free.specs.Dictionary.{DictionaryView, IsLoadable, HasSlacks, Satisfies, loaded_at, no_row, slack_of}
use Rattle.fraction_free.specs.Representation.{row_of, table_row, square_of, AreMinors, IsRepresentation, CanCombine}
use Rattle.fraction_free.proofs.Views.{view_with}
use Rattle.fraction_free.proofs.Table.{table_row-constant, table_row-increment, table_row-slack}
use Rattle.fraction_free.proofs.Values.{combination_value, slack_value}
use Rattle.fraction_free.proofs.Kept.{line_len, number_fits, scale_fits}
use Rattle.fraction_free.proofs.PivotKept.{Equations, equations_of, satisfies_from}

-- ---- loaded rows that agree as far as the first list goes

-- the second list begins with the first
pub record BeginsWith (l more : List LoadedRow) : Type 0 where
  pub len : length l ≤ length more
  pub same : (row : ℕ) → row < length l → loaded_at more row ≡ loaded_at l row

pub begins_with_push : (l : List LoadedRow) (row : LoadedRow) → BeginsWith l (l ++ row ∷ [])
begins_with_push l row = record {
  len = omega (arith, length_push l row);
  same = λ i below. get_or_append_left l (row ∷ []) no_row i below;
}

pub table_row_same : (m : ℕ) (l more : List LoadedRow) (v : ℕ) → BeginsWith l more → v < m + 1 + length l → table_row m more v ≡ table_row m l v
table_row_same m l more v h below =
    elim (cases_eq v 0) [
      | inl e ↦ ap (table_row m more) e ∙ table_row-constant m more ∙ sym (table_row-constant m l) ∙ ap (table_row m l) (sym e)
      | inr ne ↦ elim (cases_lt m v) [
        | inl high ↦ table_row-slack m more v high ∙ ap row_of (h.same (v - m - 1) (omega arith)) ∙ sym (table_row-slack m l v high)
        | inr low ↦ table_row-increment m more v (omega arith) low ∙ sym (table_row-increment m l v (omega arith) low)
      ]
    ]

map_same : (f g : ℕ → List ℤ) (vs : List ℕ) → ((k : ℕ) → k < length vs → f (get_or vs k 0) ≡ g (get_or vs k 0)) → map f vs ≡ map g vs
map_same f g [] h = refl
map_same f g (v ∷ vs) h =
    ap (λ (r : List ℤ). r ∷ map f vs) (h 0 (omega arith)) ∙ ap (λ (rs : List (List ℤ)). g v ∷ rs) (map_same f g vs (λ k below. h (suc k) (omega arith)))

pub square_same : (m : ℕ) (l more : List LoadedRow) (order longer : List ℕ) → BeginsWith l more → length order ≡ m + 1 + length l → take (m + 1) longer ≡ take (m + 1) order
    → ((at : ℕ) → at < length order → get_or order at 0 < length order) → square_of m more longer ≡ square_of m l order
square_same m l more order longer h len columns below =
    ap (map (table_row m more)) columns
    ∙ map_same (table_row m more) (table_row m l) (take (m + 1) order)
    (λ k inside.
    let k_in : k < m + 1 = omega (arith, length-take-le (m + 1) order (omega arith)) in
    table_row_same m l more (get_or (take (m + 1) order) k 0) h (omega (arith, get_or-take (m + 1) order k 0 k_in, below k (omega arith))))

-- ---- a row more

-- a combination along equations of its parts
pub moved : (a : ℤ) (r q f g : List ℤ) (xs ys : List (List ℤ)) → r ≡ q → f ≡ g → xs ≡ ys → IsCombination a q g ys → IsCombination a r f xs
moved a r q f g xs ys j k n comb = rw (j, k, n) comb

pub added_minors : (m : ℕ) (l : List LoadedRow) (s : ℤ) (order : List ℕ) (lines : List (List ℤ)) (row : LoadedRow) (line : List ℤ)
    → AreMinors m l s order lines → IsLoadable m row → IsCombination s (row_of row) line (square_of m l order) → IsArrangement (order ++ length order ∷ [])
    → AreMinors m (l ++ row ∷ []) s (order ++ length order ∷ []) (lines ++ line ∷ [])
added_minors m l s order lines row line t loadable comb arranged = record {
  columns_some = t.columns_some;
  columns_most = t.columns_most;
  lines_len = omega (arith, length_push lines line, length_push l row, t.lines_len);
  order_len = omega (arith, length_push order (length order), length_push l row, t.order_len);
  constant = get_or_append_left order (length order ∷ []) 0 m (omega (arith, t.order_len)) ∙ t.constant;
  rows = λ i below.
      elim (cases_lt i (length l)) [
        | inl inside ↦ subst (IsLoadable m) (sym ((begins_with_push l row).same i inside)) (t.rows i inside)
        | inr last ↦ subst (IsLoadable m) (sym (last_row i (omega (arith, length_push l row)))) loadable
      ];
  variables = arranged;
  positive = t.positive;
  scale_is = subst (IsScale s) (sym squares) t.scale_is;
  lines_are = λ i below.
      elim (cases_lt i (length l)) [
        | inl inside ↦
            let variable : get_or (order ++ length order ∷ []) (m + 1 + i) 0 ≡ get_or order (m + 1 + i) 0 = get_or_append_left order (length order ∷ []) 0 (m + 1 + i) (omega (arith, t.order_len)) in
            let v_below = t.variables.below (m + 1 + i) (omega (arith, t.order_len)) in
            moved s _ _ (get_or (lines ++ line ∷ []) i []) (get_or lines i []) _ _
            (ap (table_row m (l ++ row ∷ [])) variable ∙ table_row_same m l (l ++ row ∷ []) (get_or order (m + 1 + i) 0) (begins_with_push l row) (omega (arith, t.order_len)))
            (get_or_append_left lines (line ∷ []) [] i (omega (arith, t.lines_len))) squares (t.lines_are i inside)
        | inr last ↦
            let at : i ≡ length l = omega (arith, length_push l row) in
            let variable : get_or (order ++ length order ∷ []) (m + 1 + i) 0 ≡ length order = get_or_at order (length order) [] 0 (m + 1 + i) (omega (arith, t.order_len)) in
            let index : length order - m - 1 ≡ i = omega (arith, t.order_len) in
            moved s _ _ (get_or (lines ++ line ∷ []) i []) line _ _
            (ap (table_row m (l ++ row ∷ [])) variable ∙ table_row-slack m (l ++ row ∷ []) (length order) (omega (arith, t.order_len)) ∙ ap (λ k. row_of (loaded_at (l ++ row ∷ []) k)) index ∙ ap row_of (last_row i at))
            (get_or_at lines line [] [] i (omega (arith, t.lines_len))) squares comb
      ];
}
  where
    last_row : (i : ℕ) → i ≡ length l → loaded_at (l ++ row ∷ []) i ≡ row
    last_row i e = get_or_at l row [] no_row i (sym e)

    squares : square_of m (l ++ row ∷ []) (order ++ length order ∷ []) ≡ square_of m l order
    squares = square_same m l (l ++ row ∷ []) order (order ++ length order ∷ []) (begins_with_push l row) t.order_len (take-append-le (m + 1) order (length order ∷ []) (omega (arith, t.order_len))) t.variables.below

-- what satisfies the longer dictionary has the slacks of the longer list
pub added_solutions : (m : ℕ) (l : List LoadedRow) (s : ℤ) (order : List ℕ) (lines : List (List ℤ)) (row : LoadedRow) (line : List ℤ) (a b e f g h : ℕ) (x : ℕ → ℤ)
    → AreMinors m l s order lines → AreMinors m (l ++ row ∷ []) s (order ++ length order ∷ []) (lines ++ line ∷ [])
    → IsLoadable m row → IsCombination s (row_of row) line (square_of m l order)
    → (Satisfies (view_with m l s order lines a b e f) x → HasSlacks m l x)
    → Satisfies (view_with m (l ++ row ∷ []) s (order ++ length order ∷ []) (lines ++ line ∷ []) a b g h) x → HasSlacks m (l ++ row ∷ []) x
added_solutions m l s order lines row line a b e f g h x t new loadable comb solutions satisfied =
    record { each = λ i below. slack i (cases_lt i (length l)) (omega (arith, length_push l row)) }
  where
    longer : List ℕ
    longer = order ++ length order ∷ []

    columns : take (m + 1) longer ≡ take (m + 1) order
    columns = take-append-le (m + 1) order (length order ∷ []) (omega (arith, t.order_len))

    all : Equations m (length (l ++ row ∷ [])) s longer (lines ++ line ∷ []) x
    all = equations_of m (l ++ row ∷ []) s longer (lines ++ line ∷ []) a b g h x new.order_len new.constant satisfied

    old : Equations m (length l) s order lines x
    old i below =
        ap (λ k. s *ℤ x k) (sym (get_or_append_left order (length order ∷ []) 0 (m + 1 + i) (omega (arith, t.order_len))))
        ∙ all i (omega (arith, length_push l row))
        ∙ ap (λ (f : List ℤ). dot f (map x (take (m + 1) longer))) (get_or_append_left lines (line ∷ []) [] i (omega (arith, t.lines_len)))
        ∙ ap (λ vs. dot (get_or lines i []) (map x vs)) columns

    slacks : HasSlacks m l x
    slacks = solutions (satisfies_from m l s order lines a b e f x t.order_len t.constant old)

    last : s *ℤ x (length order) ≡ s *ℤ slack_of m row x
    last =
        ap (λ k. s *ℤ x k) (sym (get_or_at order (length order) [] 0 (m + 1 + length l) t.order_len))
        ∙ all (length l) (omega (arith, length_push l row))
        ∙ ap (λ (f : List ℤ). dot f (map x (take (m + 1) longer))) (get_or_at lines line [] [] (length l) t.lines_len)
        ∙ ap (λ vs. dot line (map x vs)) columns
        ∙ sym (combination_value m l s order x (row_of row) line t.order_len t.variables t.rows slacks comb)
        ∙ ap (λ (n : ℤ). s *ℤ n) (slack_value m row x loadable.len)

    slack : (i : ℕ) → (i < length l) ⊎ (length l ≤ i) → i < length l + 1 → x (m + 1 + i) ≡ slack_of m (loaded_at (l ++ row ∷ []) i) x
    slack i (inl inside) below = slacks.each i inside ∙ ap (λ (r : LoadedRow). slack_of m r x) (sym ((begins_with_push l row).same i inside))
    slack i (inr past) below =
        let at : length l ≡ i = omega arith in
        let number : m + 1 + i ≡ length order = omega (arith, t.order_len) in
        ap x number ∙ cancel s (x (length order)) (slack_of m row x) t.scale_is.nonzero last
        ∙ ap (λ (r : LoadedRow). slack_of m r x) (sym (get_or_at l row [] no_row i at))

pub added_kept : (m : ℕ) (l new_l : List LoadedRow) (s : ℤ) (places new_places : Arranged) (lines new_lines : List (List ℤ)) (row : LoadedRow) (line : List ℤ) (a b c d e f new_c new_d g : ℕ)
    → IsRepresentation (view_with m l s places.order lines a b e f) places c d → IsLoadable m row → IsCombination s (row_of row) line (square_of m l places.order) → length l < b
    → new_l ≡ l ++ row ∷ [] → new_lines ≡ lines ++ line ∷ [] → new_places ≡ record places { order = places.order ++ length places.order ∷ [] } → IsArrangement new_places.order
    → c ≤ new_c → d ≤ new_d → IsRepresentation (view_with m new_l s new_places.order new_lines a b e g) new_places new_c new_d
added_kept m l new_l s places new_places lines new_lines row line a b c d e f new_c new_d g k loadable comb room l_is lines_are places_are arranged c_room d_room =
    let order = places.order in
    let new = added_minors m l s order lines row line k.minors loadable comb (subst IsArrangement (ap (λ (p : Arranged). p.order) places_are) arranged) in
    record {
      minors = rw (l_is, lines_are, places_are) new;
      solutions = rw (l_is, lines_are, places_are) (λ x h. added_solutions m l s order lines row line a b e f e g x k.minors new loadable comb (k.solutions x) h);
      columns_room = k.columns_room;
      columns_most = k.columns_most;
      rows_room = omega (arith, ap length l_is, length_push l row);
      rows_most = k.rows_most;
      places_room = omega (arith, k.places_room, ap (λ (p : Arranged). p.room) places_are);
      has_lines_room = omega (arith, k.has_lines_room);
      has_loaded_room = omega (arith, k.has_loaded_room);
    }

pub can_combine : (m : ℕ) (l : List LoadedRow) (s : ℤ) (order : List ℕ) (lines : List (List ℤ)) → AreMinors m l s order lines → CanCombine m s order lines
can_combine m l s order lines t = record {
  columns_some = t.columns_some;
  columns_most = t.columns_most;
  order_len = omega (arith, t.order_len, t.lines_len);
  constant = t.constant;
  scale_size = scale_fits m l s order lines t;
  len = λ row below. line_len m l s order lines row t (omega (arith, t.lines_len));
  sizes = λ row place. number_fits m l s order lines row place t;
}

pub added_view : (m : ℕ) (l new_l : List LoadedRow) (s : ℤ) (places new_places : Arranged) (lines new_lines : List (List ℤ)) (row : LoadedRow) (line : List ℤ) (a b e f g : ℕ) (old : DictionaryView)
    → view_with m l s places.order lines a b e f ≡ old → length places.order ≡ m + 1 + length l
    → new_l ≡ l ++ row ∷ [] → new_lines ≡ lines ++ line ∷ [] → new_places ≡ record places { order = places.order ++ length places.order ∷ [] } → g ≡ next_count f
    → AddsRow old (view_with m new_l s new_places.order new_lines a b e g) row
added_view m l new_l s places new_places lines new_lines row line a b e f g old is len l_is lines_are places_are count =
    subst (λ (t : DictionaryView). AddsRow t (view_with m new_l s new_places.order new_lines a b e g) row) is (record { line = line; is = new })
  where
    order : List ℕ
    order = places.order

    columns : take m (order ++ length order ∷ []) ≡ take m order
    columns = take-append-le m order (length order ∷ []) (omega arith)

    rows : drop (m + 1) (order ++ length order ∷ []) ≡ drop (m + 1) order ++ (m + 1 + length l) ∷ []
    rows = drop-append-le (m + 1) order (length order ∷ []) (omega arith) ∙ ap (λ n. drop (m + 1) order ++ n ∷ []) len

    new : view_with m new_l s new_places.order new_lines a b e g ≡ record (view_with m l s order lines a b e f) {
      loaded = l ++ row ∷ [];
      basic = drop (m + 1) order ++ (m + 1 + length l) ∷ [];
      lines = lines ++ line ∷ [];
      added = next_count f;
    }
    new = rw (l_is, lines_are, places_are, count, columns, rows) refl
