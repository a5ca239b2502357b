-- The table of a dictionary's variables: its rows, their sizes, and their values at an assignment.
use Rattle.std.proofs.Common.{◌≡◌, ◌≢◌, ◌∙◌, ◌⊎◌, inl, inr, ℕ, suc, ◌+◌, ◌-◌, ◌<◌, ◌≤◌, cond, eqb, ℤ, pos, neg_ℤ, ◌+ℤ◌, unsigned_abs, List, [], ◌∷◌, length, take, get_or, fold, sym, ap, subst, refl, arith}
use Rattle.std.proofs.lemmas.List.{get_or_append_left, get_or_at, get_or-map, length-map, length-take-le, get_or-take}
use Rattle.std.proofs.lemmas.List.FromFn.{get_or-map-range_with_len, length-map-range_with_len}
use Rattle.std.proofs.lemmas.Bool.{cases_eq, cases_lt}
use Rattle.std.proofs.lemmas.Bool.Decides.{nat_tests}
use Rattle.std.specs.List.{All}
use Rattle.row_laws.specs.Rows.{entry}
use Rattle.minors.specs.Minor.{IsUnit, HasSmallEntries}
use Rattle.row_laws.proofs.Integers.{unsigned_abs-add}
use Rattle.fraction_free.specs.declared.loaded.LoadedRow.{LoadedRow}
use Rattle.fraction_free.specs.Arrangement.{IsArrangement}
use Rattle.fraction_free.specs.Dictionary.{IsLoadable, loaded_at}
use Rattle.fraction_free.specs.Representation.{unit, slack_constant, row_of, table_row, square_of}

pub table_row-constant : (m : ℕ) (l : List LoadedRow) → table_row m l 0 ≡ unit (m + 1) m
table_row-constant m l = refl

pub table_row-increment : (m : ℕ) (l : List LoadedRow) (v : ℕ) → 1 ≤ v → v ≤ m → table_row m l v ≡ unit (m + 1) (v - 1)
table_row-increment m l v low high = grind (arith, nat_tests)

pub table_row-slack : (m : ℕ) (l : List LoadedRow) (v : ℕ) → m < v → table_row m l v ≡ row_of (loaded_at l (v - m - 1))
table_row-slack m l v high = grind (arith, nat_tests)

-- ---- rows of the identity

unit_at : (n p c : ℕ) → c < n → entry (unit n p) c ≡ cond (eqb c p) (pos 1) (pos 0)
unit_at n p c below = get_or-map-range_with_len (λ k. cond (eqb k p) (pos 1) (pos 0)) 0 n c c (pos 0) below (omega arith)

pub unit_one : (n p : ℕ) → p < n → entry (unit n p) p ≡ pos 1
unit_one n p below = unit_at n p p below ∙ one
  where
    one : cond (eqb p p) (pos 1) (pos 0) ≡ pos 1
    one = grind (arith, nat_tests)

pub unit_zero : (n p c : ℕ) → c < n → c ≢ p → entry (unit n p) c ≡ pos 0
unit_zero n p c below apart = unit_at n p c below ∙ none
  where
    none : cond (eqb c p) (pos 1) (pos 0) ≡ pos 0
    none = grind (arith, nat_tests)

pub unit_is : (n p : ℕ) → IsUnit n p (unit n p)
unit_is n p = record { one = unit_one n p; zeros = unit_zero n p }

pub length-unit : (n p : ℕ) → length (unit n p) ≡ n
length-unit n p = length-map-range_with_len (λ k. cond (eqb k p) (pos 1) (pos 0)) 0 n

-- ---- sizes

unit_size : (n p c : ℕ) → c < n → unsigned_abs (entry (unit n p) c) ≤ 1
unit_size n p c below =
    elim (cases_eq c p) [
      | inl e ↦ subst (λ (z : ℤ). unsigned_abs z ≤ 1) (sym (ap (entry (unit n p)) e ∙ unit_one n p (omega arith))) (omega arith)
      | inr ne ↦ subst (λ (z : ℤ). unsigned_abs z ≤ 1) (sym (unit_zero n p c below ne)) (omega arith)
    ]

pub unit_small : (n p : ℕ) → HasSmallEntries n 25 (unit n p)
unit_small n p = record {
  plain = λ c h. unit_size n p c (omega arith);
  last = λ c e. let s = unit_size n p c (omega arith) in omega arith;
}

fold_size : (xs : List ℤ) (start : ℤ) (n : ℕ) → All (λ x. unsigned_abs x ≤ 1) xs → unsigned_abs start ≤ n → unsigned_abs (fold ◌+ℤ◌ start xs) ≤ n + length xs
fold_size [] start n all h = omega arith
fold_size (x ∷ xs) start n all h =
    let one : unsigned_abs x ≤ 1 = all 0 (pos 0) (omega arith) in
    let rest = fold_size xs (start +ℤ x) (n + 1) (λ k d below. all (suc k) d (omega arith)) (omega (arith, unsigned_abs-add start x)) in
    omega arith

least_size : (least : ℤ) → (least ≡ pos 0) ⊎ (least ≡ pos 1) → unsigned_abs (neg_ℤ least) ≤ 1
least_size least (inl e) = subst (λ (z : ℤ). unsigned_abs (neg_ℤ z) ≤ 1) (sym e) (omega arith)
least_size least (inr e) = subst (λ (z : ℤ). unsigned_abs (neg_ℤ z) ≤ 1) (sym e) (omega arith)

pub slack_constant_size : (m : ℕ) (row : LoadedRow) → m ≤ 24 → IsLoadable m row → unsigned_abs (slack_constant row) ≤ 25
slack_constant_size m row most h =
    let s = fold_size row.coefficients (neg_ℤ row.least) 1 h.coefficients.within (least_size row.least h.least) in omega (arith, h.len)

pub row_of_last : (m : ℕ) (row : LoadedRow) → length row.coefficients ≡ m → entry (row_of row) m ≡ slack_constant row
row_of_last m row len = get_or_at row.coefficients (slack_constant row) [] (pos 0) m len

pub row_of_plain : (m : ℕ) (row : LoadedRow) (c : ℕ) → length row.coefficients ≡ m → c < m → entry (row_of row) c ≡ entry row.coefficients c
row_of_plain m row c len below = get_or_append_left row.coefficients (slack_constant row ∷ []) (pos 0) c (omega arith)

pub row_small : (m : ℕ) (row : LoadedRow) → m ≤ 24 → IsLoadable m row → HasSmallEntries (m + 1) 25 (row_of row)
row_small m row most h = record {
  plain = λ c l. subst (λ (z : ℤ). unsigned_abs z ≤ 1) (sym (row_of_plain m row c h.len (omega arith))) (h.coefficients.within c (pos 0) (omega (arith, h.len)));
  last = λ c e. let same : c ≡ m = omega arith in subst (λ (z : ℤ). unsigned_abs z ≤ 25) (sym (ap (entry (row_of row)) same ∙ row_of_last m row h.len)) (slack_constant_size m row most h);
}

-- ---- the table's rows of variables that are there

-- of each variable up to a number of slacks, the fact of the three kinds of rows
pub by_kind : (P : List ℤ → Type 0) (m : ℕ) (l : List LoadedRow) (v : ℕ)
    → ((p : ℕ) → p ≤ m → P (unit (m + 1) p)) → ((row : ℕ) → row < length l → P (row_of (loaded_at l row))) → v < m + 1 + length l → P (table_row m l v)
by_kind P m l v units slacks below =
    elim (cases_eq v 0) [
      | inl e ↦ subst (λ k. P (table_row m l k)) (sym e) (units m (omega arith))
      | inr ne ↦ elim (cases_lt m v) [
        | inl high ↦ subst P (sym (table_row-slack m l v high)) (slacks (v - m - 1) (omega arith))
        | inr low ↦ subst P (sym (table_row-increment m l v (omega arith) low)) (units (v - 1) (omega arith))
      ]
    ]

pub table_row_small : (m : ℕ) (l : List LoadedRow) (v : ℕ) → m ≤ 24 → ((row : ℕ) → row < length l → IsLoadable m (loaded_at l row)) → v < m + 1 + length l → HasSmallEntries (m + 1) 25 (table_row m l v)
table_row_small m l v most rows below =
    by_kind (HasSmallEntries (m + 1) 25) m l v (λ p h. unit_small (m + 1) p) (λ row h. row_small m (loaded_at l row) most (rows row h)) below

pub length-square : (m : ℕ) (l : List LoadedRow) (order : List ℕ) → m + 1 ≤ length order → length (square_of m l order) ≡ m + 1
length-square m l order h = length-map (take (m + 1) order) (table_row m l) ∙ length-take-le (m + 1) order h

pub square_at : (m : ℕ) (l : List LoadedRow) (order : List ℕ) (p : ℕ) (d : List ℤ) → m + 1 ≤ length order → p < m + 1 → get_or (square_of m l order) p d ≡ table_row m l (get_or order p 0)
square_at m l order p d h below =
    get_or-map (table_row m l) (take (m + 1) order) p 0 d (omega (arith, length-take-le (m + 1) order h))
    ∙ ap (table_row m l) (get_or-take (m + 1) order p 0 below)

pub square_small : (m : ℕ) (l : List LoadedRow) (order : List ℕ) → m ≤ 24 → length order ≡ m + 1 + length l → IsArrangement order → ((row : ℕ) → row < length l → IsLoadable m (loaded_at l row))
    → All (HasSmallEntries (length (square_of m l order)) 25) (square_of m l order)
square_small m l order most len arranged rows k d below =
    let n : length (square_of m l order) ≡ m + 1 = length-square m l order (omega arith) in
    let inside : k < m + 1 = omega arith in
    subst (λ order_len. HasSmallEntries order_len 25 (get_or (square_of m l order) k d)) (sym n)
    (subst (HasSmallEntries (m + 1) 25) (sym (square_at m l order k d (omega arith) inside))
    (table_row_small m l (get_or order k 0) most rows (omega (arith, arranged.below k (omega arith)))))
