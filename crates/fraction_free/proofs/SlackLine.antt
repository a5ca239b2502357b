-- The line of a new row, variable by variable.
use Rattle.std.proofs.Common.{◌≡◌, ◌≢◌, ◌∙◌, ◌⊎◌, inl, inr, lit<, ℕ, ◌+◌, ◌-◌, ◌*◌, ◌<◌, ◌≤◌, ◌^◌, cond, eqb, ltb, ℤ, pos, ◌+ℤ◌, ◌*ℤ◌, unsigned_abs, List, [], length, map, get_or, set, replicate, sym, ap, subst, refl, arith}
use Rattle.std.proofs.lemmas.List.{length-set, length-replicate, get_or-replicate, get_or-set_same, get_or-set_other, get_or_past}
use Rattle.std.proofs.lemmas.List.FromFn.{get_or-map-range_with_len}
use Rattle.std.proofs.lemmas.Bool.{cases_eq, cases_lt}
use Rattle.std.proofs.lemmas.Int.{unsigned_abs-mul}
use Rattle.std.proofs.lemmas.Nat.{mul-le}
use Rattle.std.proofs.Math.IntN.{*ℤ_comm}
use Rattle.std.proofs.lemmas.Bool.Decides.{nat_tests}
use Rattle.std.specs.List.{range_with_len}
use Rattle.minors.specs.Combination.{IsCombination, column_of}
use Rattle.minors.proofs.Laws.{sum_of_combinations, square_row_is_combination}
use Rattle.row_laws.proofs.Totals.{dot_is_total, total-zero, total_same}
use Rattle.row_laws.proofs.Integers.{sums, mul-zero, one-mul, unsigned_abs-add}
use Rattle.fraction_free.specs.declared.loaded.LoadedRow.{LoadedRow}
use Rattle.row_laws.specs.Rows.{entry}
use Rattle.fraction_free.specs.Representation.{unit, slack_constant, row_of, table_row, square_of, AreMinors, factors_at, IsAdded}
use Rattle.fraction_free.proofs.Table.{unit_one, unit_zero, table_row-increment, table_row-constant, length-square, square_at, row_of_last, row_of_plain}

pub factors_at-column : (s : ℤ) (lines : List (List ℤ)) (width place : ℕ) → place < width → factors_at s lines width place ≡ set (replicate width (pos 0)) place s
factors_at-column s lines width place below = grind (arith, nat_tests)

pub factors_at-row : (s : ℤ) (lines : List (List ℤ)) (width place : ℕ) → width ≤ place → factors_at s lines width place ≡ get_or lines (place - width) []
factors_at-row s lines width place above = grind (arith, nat_tests)

pub zeros_at : (width at : ℕ) → entry (replicate width (pos 0)) at ≡ pos 0
zeros_at width at =
    elim (cases_lt at width) [
      | inl below ↦ get_or-replicate width at (pos 0) (pos 0) below
      | inr past ↦ get_or_past (replicate width (pos 0)) at (pos 0) (omega (arith, length-replicate width (pos 0)))
    ]

pub column_factor_here : (s : ℤ) (width place : ℕ) → place < width → entry (set (replicate width (pos 0)) place s) place ≡ s
column_factor_here s width place below = get_or-set_same (replicate width (pos 0)) place s (pos 0) (omega (arith, length-replicate width (pos 0)))

pub column_factor_other : (s : ℤ) (width place at : ℕ) → at ≢ place → entry (set (replicate width (pos 0)) place s) at ≡ pos 0
column_factor_other s width place at apart = get_or-set_other (replicate width (pos 0)) place at s (pos 0) apart ∙ zeros_at width at

-- the number of a column's place is set to the sum
pub added_at_column : (t s v : ℤ) (old : List ℤ) (width place : ℕ) → length old ≡ width → place < width → v ≡ entry old place +ℤ t *ℤ s
    → IsAdded t old (set (replicate width (pos 0)) place s) (set old place v)
added_at_column t s v old width place len below is = record {
  len = length-set old place v;
  sums = λ at inside.
      elim (cases_eq at place) [
        | inl e ↦
            ap (entry (set old place v)) e ∙ get_or-set_same old place v (pos 0) (omega arith) ∙ is
            ∙ ap (λ (n : ℤ). entry old place +ℤ t *ℤ n) (sym (column_factor_here s width place below))
            ∙ ap (λ k. entry old k +ℤ t *ℤ entry (set (replicate width (pos 0)) place s) k) (sym e)
        | inr ne ↦
            get_or-set_other old place at v (pos 0) ne ∙ plus_nothing (entry old at) t
            ∙ ap (λ (n : ℤ). entry old at +ℤ t *ℤ n) (sym (column_factor_other s width place at ne))
      ];
}
  where
    plus_nothing : (n t : ℤ) → n ≡ n +ℤ t *ℤ pos 0
    plus_nothing n t = omega (arith, sums, mul-zero t)

-- ---- combinations

pub add_combination : (s k : ℤ) (row a new_row factors of_a new_factors : List ℤ) (rows : List (List ℤ)) → IsCombination s row factors rows → IsCombination s a of_a rows
    → ((c : ℕ) → c < length rows → entry new_row c ≡ entry row c +ℤ k *ℤ entry a c) → IsAdded k factors of_a new_factors → IsCombination s new_row new_factors rows
add_combination s k row a new_row factors of_a new_factors rows comb comb_a row_is added =
    sum_of_combinations s (pos 1) k row a new_row factors of_a new_factors rows comb comb_a
    (λ c below. row_is c below ∙ ap (λ (n : ℤ). n +ℤ k *ℤ entry a c) (sym (one-mul (entry row c))))
    (added.len ∙ comb.len)
    (λ at below. added.sums at (omega (arith, comb.len)) ∙ ap (λ (n : ℤ). n +ℤ k *ℤ entry of_a at) (sym (one-mul (entry factors at))))

pub zero_combination : (s : ℤ) (width : ℕ) (rows : List (List ℤ)) → length rows ≡ width → IsCombination s [] (replicate width (pos 0)) rows
zero_combination s width rows len = record {
  len = length-replicate width (pos 0) ∙ sym len;
  each = λ c below.
      let numbers = column_of rows c in
      mul-zero s ∙ sym (dot_is_total (replicate width (pos 0)) numbers ∙ total_same (entry (replicate width (pos 0))) (λ i. pos 0) numbers (λ i l. zeros_at width i) ∙ total-zero numbers);
}

-- the factors of the variable at a place
pub variable_factors : (m : ℕ) (l : List LoadedRow) (s : ℤ) (order : List ℕ) (lines : List (List ℤ)) (place : ℕ) → AreMinors m l s order lines → place < length order
    → IsCombination s (table_row m l (get_or order place 0)) (factors_at s lines (m + 1) place) (square_of m l order)
variable_factors m l s order lines place t below =
    elim (cases_lt place (m + 1)) [
      | inl column ↦
          let rows = square_of m l order in
          let len : length rows ≡ m + 1 = length-square m l order (omega (arith, t.order_len)) in
          let factors = set (replicate (m + 1) (pos 0)) place s in
          let comb = square_row_is_combination s factors rows place (omega arith) (length-set (replicate (m + 1) (pos 0)) place s ∙ length-replicate (m + 1) (pos 0) ∙ sym len)
          (column_factor_here s (m + 1) place column) (λ other inside apart. column_factor_other s (m + 1) place other apart) in
          subst (λ (r : List ℤ). IsCombination s r (factors_at s lines (m + 1) place) rows) (square_at m l order place [] (omega (arith, t.order_len)) column)
          (subst (λ (f : List ℤ). IsCombination s (get_or rows place []) f rows) (sym (factors_at-column s lines (m + 1) place column)) comb)
      | inr row ↦
          let index : m + 1 + (place - (m + 1)) ≡ place = omega arith in
          subst (λ (f : List ℤ). IsCombination s (table_row m l (get_or order place 0)) f (square_of m l order)) (sym (factors_at-row s lines (m + 1) place row))
          (subst (λ k. IsCombination s (table_row m l (get_or order k 0)) (get_or lines (place - (m + 1)) []) (square_of m l order)) index (t.lines_are (place - (m + 1)) (omega (arith, t.order_len))))
    ]

-- ---- the row so far: the constant, and the coefficients of the first n variables

abbrev part_number : ℕ → ℤ → List ℤ → ℕ → ℕ → ℤ
part_number m constant coefficients n j = cond (ltb j n) (entry coefficients j) (cond (eqb j m) constant (pos 0))

pub part : ℕ → ℤ → List ℤ → ℕ → List ℤ
part m constant coefficients n = map (part_number m constant coefficients n) (range_with_len 0 (m + 1))

part_at : (m : ℕ) (constant : ℤ) (coefficients : List ℤ) (n j : ℕ) → j < m + 1 → entry (part m constant coefficients n) j ≡ part_number m constant coefficients n j
unfolding part
part_at m constant coefficients n j below = get_or-map-range_with_len (part_number m constant coefficients n) 0 (m + 1) j j (pos 0) below (omega arith)

low_number : (m : ℕ) (constant : ℤ) (coefficients : List ℤ) (n j : ℕ) → j < n → part_number m constant coefficients n j ≡ entry coefficients j
low_number m constant coefficients n j below = grind (arith, nat_tests)

last_number : (m : ℕ) (constant : ℤ) (coefficients : List ℤ) (n j : ℕ) → n ≤ j → j ≡ m → part_number m constant coefficients n j ≡ constant
last_number m constant coefficients n j above is = grind (arith, nat_tests)

no_number : (m : ℕ) (constant : ℤ) (coefficients : List ℤ) (n j : ℕ) → n ≤ j → j ≢ m → part_number m constant coefficients n j ≡ pos 0
no_number m constant coefficients n j above apart = grind (arith, nat_tests)

plus_one_time : (n k u : ℤ) → n ≡ pos 0 → u ≡ pos 1 → k ≡ n +ℤ k *ℤ u
plus_one_time n k u h i = rw (h, i) (omega (arith, sums, one_time k))
  where
    one_time : (k : ℤ) → k *ℤ pos 1 ≡ k
    one_time k = *ℤ_comm k (pos 1) ∙ one-mul k

plus_no_time : (n k u : ℤ) → u ≡ pos 0 → n ≡ n +ℤ k *ℤ u
plus_no_time n k u i = rw i (omega (arith, sums, mul-zero k))

pub part_first : (m : ℕ) (constant : ℤ) (coefficients : List ℤ) (j : ℕ) → j < m + 1 → entry (part m constant coefficients 0) j ≡ entry [] j +ℤ constant *ℤ entry (unit (m + 1) m) j
part_first m constant coefficients j below =
    elim (cases_eq j m) [
      | inl e ↦ part_at m constant coefficients 0 j below ∙ last_number m constant coefficients 0 j (omega arith) e
          ∙ plus_one_time (pos 0) constant (entry (unit (m + 1) m) j) refl (ap (entry (unit (m + 1) m)) e ∙ unit_one (m + 1) m (omega arith))
      | inr ne ↦ part_at m constant coefficients 0 j below ∙ no_number m constant coefficients 0 j (omega arith) ne
          ∙ plus_no_time (pos 0) constant (entry (unit (m + 1) m) j) (unit_zero (m + 1) m j below ne)
    ]

pub part_more : (m : ℕ) (constant : ℤ) (coefficients : List ℤ) (n j : ℕ) → n < m → j < m + 1
    → entry (part m constant coefficients (n + 1)) j ≡ entry (part m constant coefficients n) j +ℤ entry coefficients n *ℤ entry (unit (m + 1) n) j
part_more m constant coefficients n j n_below below =
    elim (cases_eq j n) [
      | inl e ↦
          part_at m constant coefficients (n + 1) j below ∙ low_number m constant coefficients (n + 1) j (omega arith) ∙ ap (entry coefficients) e
          ∙ plus_one_time (entry (part m constant coefficients n) j) (entry coefficients n) (entry (unit (m + 1) n) j)
          (part_at m constant coefficients n j below ∙ no_number m constant coefficients n j (omega arith) (omega arith))
          (ap (entry (unit (m + 1) n)) e ∙ unit_one (m + 1) n (omega arith))
      | inr ne ↦
          part_at m constant coefficients (n + 1) j below ∙ same (cases_lt j n) ne ∙ sym (part_at m constant coefficients n j below)
          ∙ plus_no_time (entry (part m constant coefficients n) j) (entry coefficients n) (entry (unit (m + 1) n) j) (unit_zero (m + 1) n j below ne)
    ]
  where
    same : (j < n) ⊎ (n ≤ j) → j ≢ n → part_number m constant coefficients (n + 1) j ≡ part_number m constant coefficients n j
    same (inl low) ne = low_number m constant coefficients (n + 1) j (omega arith) ∙ sym (low_number m constant coefficients n j low)
    same (inr high) ne =
        elim (cases_eq j m) [
          | inl e ↦ last_number m constant coefficients (n + 1) j (omega arith) e ∙ sym (last_number m constant coefficients n j high e)
          | inr other ↦ no_number m constant coefficients (n + 1) j (omega arith) other ∙ sym (no_number m constant coefficients n j high other)
        ]

part_last : (m : ℕ) (row : LoadedRow) (j : ℕ) → length row.coefficients ≡ m → j < m + 1 → entry (part m (slack_constant row) row.coefficients m) j ≡ entry (row_of row) j
part_last m row j len below =
    elim (cases_eq j m) [
      | inl e ↦ part_at m (slack_constant row) row.coefficients m j below ∙ last_number m (slack_constant row) row.coefficients m j (omega arith) e
          ∙ sym (ap (entry (row_of row)) e ∙ row_of_last m row len)
      | inr ne ↦ part_at m (slack_constant row) row.coefficients m j below ∙ low_number m (slack_constant row) row.coefficients m j (omega arith)
          ∙ sym (row_of_plain m row j len (omega arith))
    ]

pub whole_row : (m : ℕ) (row : LoadedRow) (s : ℤ) (factors : List ℤ) (rows : List (List ℤ)) → length row.coefficients ≡ m → length rows ≡ m + 1
    → IsCombination s (part m (slack_constant row) row.coefficients m) factors rows → IsCombination s (row_of row) factors rows
whole_row m row s factors rows len rows_len comb = record {
  len = comb.len;
  each = λ c below. ap (λ (n : ℤ). s *ℤ n) (sym (part_last m row c len (omega arith))) ∙ comb.each c below;
}

-- ---- sizes

pub factor_size : (s : ℤ) (lines : List (List ℤ)) (width place at : ℕ) → unsigned_abs s < 2 ^ 89 → ((row k : ℕ) → unsigned_abs (entry (get_or lines row []) k) < 2 ^ 89)
    → unsigned_abs (entry (factors_at s lines width place) at) < 2 ^ 89
factor_size s lines width place at s_size sizes =
    elim (cases_lt place width) [
      | inl column ↦ subst (λ (f : List ℤ). unsigned_abs (entry f at) < 2 ^ 89) (sym (factors_at-column s lines width place column))
          (elim (cases_eq at place) [
            | inl e ↦ subst (λ (n : ℤ). unsigned_abs n < 2 ^ 89) (sym (ap (entry (set (replicate width (pos 0)) place s)) e ∙ column_factor_here s width place column)) s_size
            | inr ne ↦ subst (λ (n : ℤ). unsigned_abs n < 2 ^ 89) (sym (column_factor_other s width place at ne)) (lit< tt)
          ])
      | inr row ↦ subst (λ (f : List ℤ). unsigned_abs (entry f at) < 2 ^ 89) (sym (factors_at-row s lines width place row)) (sizes (place - width) at)
    ]

pub added_size : (k : ℤ) (old other new : List ℤ) (at times most : ℕ) → IsAdded k old other new → unsigned_abs k ≤ times → unsigned_abs (entry old at) ≤ most → unsigned_abs (entry other at) < 2 ^ 89
    → unsigned_abs (entry new at) ≤ most + times * 2 ^ 89
added_size k old other new at times most added k_size size other_size =
    elim (cases_lt at (length old)) [
      | inl below ↦
          subst (λ (n : ℤ). unsigned_abs n ≤ most + times * 2 ^ 89) (sym (added.sums at below))
          (omega (arith, unsigned_abs-add (entry old at) (k *ℤ entry other at), unsigned_abs-mul k (entry other at), mul-le (unsigned_abs k) (unsigned_abs (entry other at)) times (2 ^ 89) k_size (omega arith)))
      | inr past ↦ subst (λ (n : ℤ). unsigned_abs n ≤ most + times * 2 ^ 89) (sym (get_or_past new at (pos 0) (omega (arith, added.len)))) (omega arith)
    ]

-- ---- the rounds

pub first_line : (m : ℕ) (l : List LoadedRow) (s : ℤ) (order : List ℕ) (lines : List (List ℤ)) (coefficients zeros line : List ℤ) (k constant : ℤ) (width place : ℕ)
    → zeros ≡ replicate width (pos 0) → width ≡ m + 1 → place ≡ m → k ≡ constant → IsAdded k zeros (factors_at s lines (length zeros) place) line
    → AreMinors m l s order lines → IsCombination s (part m constant coefficients 0) line (square_of m l order)
first_line m l s order lines coefficients zeros line k constant width place is width_is place_is k_is added t =
    let rows = square_of m l order in
    let rows_len : length rows ≡ m + 1 = length-square m l order (omega (arith, t.order_len)) in
    let zeros_len : length zeros ≡ m + 1 = ap length is ∙ length-replicate width (pos 0) ∙ width_is in
    let zero_is : zeros ≡ replicate (m + 1) (pos 0) = is ∙ ap (λ n. replicate n (pos 0)) width_is in
    let row : table_row m l (get_or order m 0) ≡ unit (m + 1) m = ap (table_row m l) t.constant ∙ table_row-constant m l in
    add_combination s constant [] (table_row m l (get_or order m 0)) (part m constant coefficients 0) zeros (factors_at s lines (m + 1) m) line rows
    (subst (λ (f : List ℤ). IsCombination s [] f rows) (sym zero_is) (zero_combination s (m + 1) rows rows_len))
    (variable_factors m l s order lines m t (omega (arith, t.order_len)))
    (λ c below. part_first m constant coefficients c (omega arith) ∙ ap (λ (r : List ℤ). entry [] c +ℤ constant *ℤ entry r c) (sym row))
    (rw (sym k_is, sym zeros_len, sym place_is) added)

pub next_line : (m : ℕ) (l : List LoadedRow) (s : ℤ) (order : List ℕ) (lines : List (List ℤ)) (coefficients line new : List ℤ) (k constant : ℤ) (n next place : ℕ)
    → length line ≡ m + 1 → get_or order place 0 ≡ n + 1 → place < length order → n < m → k ≡ entry coefficients n → next ≡ n + 1
    → IsAdded k line (factors_at s lines (length line) place) new
    → AreMinors m l s order lines → IsCombination s (part m constant coefficients n) line (square_of m l order)
    → IsCombination s (part m constant coefficients next) new (square_of m l order)
next_line m l s order lines coefficients line new k constant n next place len variable place_in below k_is next_is added t comb =
    let rows = square_of m l order in
    let rows_len : length rows ≡ m + 1 = length-square m l order (omega (arith, t.order_len)) in
    let back : n + 1 - 1 ≡ n = omega arith in
    let row : table_row m l (get_or order place 0) ≡ unit (m + 1) n = ap (table_row m l) variable ∙ table_row-increment m l (n + 1) (omega arith) (omega arith) ∙ ap (unit (m + 1)) back in
    subst (λ i. IsCombination s (part m constant coefficients i) new rows) (sym next_is)
    (add_combination s k (part m constant coefficients n) (table_row m l (get_or order place 0)) (part m constant coefficients (n + 1)) line (factors_at s lines (m + 1) place) new rows
    comb (variable_factors m l s order lines place t place_in)
    (λ c inside. part_more m constant coefficients n c below (omega arith)
    ∙ ap (λ (i : ℤ). entry (part m constant coefficients n) c +ℤ i *ℤ entry (unit (m + 1) n) c) (sym k_is)
    ∙ ap (λ (r : List ℤ). entry (part m constant coefficients n) c +ℤ k *ℤ entry r c) (sym row))
    (subst (λ width. IsAdded k line (factors_at s lines width place) new) len added))

pub last_line : (m : ℕ) (l : List LoadedRow) (s t : ℤ) (order : List ℕ) (lines : List (List ℤ)) (coefficients line : List ℤ) (least u : ℤ) (n : ℕ)
    → t ≡ s → u ≡ least → n ≡ m → length coefficients ≡ m
    → (AreMinors m l t order lines → IsCombination t (part m (slack_constant (record { coefficients = coefficients; least = u })) coefficients n) line (square_of m l order))
    → AreMinors m l s order lines → IsCombination s (row_of (record { coefficients = coefficients; least = least })) line (square_of m l order)
last_line m l s t order lines coefficients line least u n same least_is n_is len h k =
    let row : LoadedRow = record { coefficients = coefficients; least = least } in
    let at_u : LoadedRow = record { coefficients = coefficients; least = u } in
    let given = h (subst (λ (z : ℤ). AreMinors m l z order lines) (sym same) k) in
    let moved = subst (λ (z : ℤ). IsCombination z (part m (slack_constant at_u) coefficients n) line (square_of m l order)) same given in
    let based = subst (λ (z : ℤ). IsCombination s (part m (slack_constant (record { coefficients = coefficients; least = z })) coefficients n) line (square_of m l order)) least_is moved in
    let whole = subst (λ i. IsCombination s (part m (slack_constant row) coefficients i) line (square_of m l order)) n_is based in
    whole_row m row s line (square_of m l order) len (length-square m l order (omega (arith, k.order_len))) whole
