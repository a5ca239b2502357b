-- A dictionary by variable, to which the laws of the least-index rule apply.
use Rattle.std.proofs.Common.{◌≡◌, ◌≢◌, ℕ, suc, ◌+◌, ◌-◌, ◌<◌, ◌≤◌, Bool, true, false, cond, List, [], ◌∷◌, map, length, get_or, ◌⊎◌, inl, inr, ℤ, pos, ◌+ℤ◌, ◌*ℤ◌, ◌<ℤ◌, refl, sym, ap, ◌∙◌, arith, length-append}
use Rattle.std.specs.Prelude.{nat_lt, ◌==◌, slice_index, slice_set, int_lt, not, ◌&&◌}
use Rattle.std.proofs.lemmas.Int.{ints}
use Rattle.std.proofs.lemmas.Bool.{cond-true, cond-false, cases_Bool, ltb-true, lt-ltb, eqb-true, eqb-false, true≢false, false≢true, false_from_ne_true, true_from_ne_false, not_from_false, not_from_true}
use Rattle.std.proofs.lemmas.List.{length-map, get_or_append_left, get_or-append_right, get_or-map, get_or-set_same, get_or-set_other}
use Rattle.std.specs.Cmp.Derive.{both_true}
use Rattle.row_laws.proofs.Integers.{sums, zero-mul}
use Rattle.row_laws.specs.Rows.{dot}
use Rattle.least_index.specs.Dictionary.{RationalDictionary, sum_below, term, right_side}
use Rattle.least_index.specs.Dictionary as rational
use Rattle.least_index.specs.Rule.{first, is_infeasible, helps, leaving, entering, is_end, next, pivots_left, Covers}
use Rattle.least_index.proofs.First.{first-is}
use Rattle.least_index.proofs.Sums.{sum-ext}
use Rattle.least_index.proofs.Exchange.{exchange_reflects}
use Rattle.least_index.proofs.Choice.{and_left, and_right, negative, positive, not_negative, not_positive, choice_is_exchange, next_scale}
use Rattle.least_index.proofs.Ends.{fall}
use Rattle.fraction_free.specs.Dictionary.{DictionaryView, line_of, column_variables, IsDictionary, Satisfies, constant_in, entry_in}
use Rattle.simplex.specs.Choice.{IsLeavingRow, IsEnteringColumn}
use Rattle.simplex.proofs.Positions.{place_in, place-of, place-found, placed, sum-placed, dot-sum}
use Rattle.simplex.proofs.Variables.{HasVariables, variables_of}

abbrev pub row_place : DictionaryView → ℕ → ℕ
row_place d v = place_in (slice_index d.basic) (length d.loaded) v

abbrev pub column_place : DictionaryView → ℕ → ℕ
column_place d w = place_in (slice_index d.nonbasic) d.columns w

abbrev pub by_variable : DictionaryView → RationalDictionary
by_variable d = record {
  size = d.columns + 1 + length d.loaded;
  scale = d.scale;
  is_basic = λ v. nat_lt (row_place d v) (length d.loaded);
  entry = λ v w. cond (nat_lt (column_place d w) d.columns) (entry_in d (row_place d v) (column_place d w)) (pos 0);
  constant = λ v. constant_in d (row_place d v);
}

-- the values with that of the constant 1 at 0
abbrev pub with_one : ℤ → (ℕ → ℤ) → ℕ → ℤ
with_one one x v = cond (v == 0) one (x v)

pub with_one-same : (one : ℤ) (x : ℕ → ℤ) (v : ℕ) → 1 ≤ v → with_one one x v ≡ x v
with_one-same one x v low = cond-false (v == 0) one (x v) (false_from_ne_true (v == 0) (λ e. let z : v ≡ 0 = eqb-true v 0 e in omega arith))

-- ---- which variables are basic

pub basic_at : (d : DictionaryView) → HasVariables d → (i : ℕ) → i < length d.loaded → row_place d (slice_index d.basic i) ≡ i
basic_at d vs i lt = place-of (slice_index d.basic) (length d.loaded) i vs.basic_distinct lt

pub basic_is_basic : (d : DictionaryView) → HasVariables d → (i : ℕ) → i < length d.loaded → (by_variable d).is_basic (slice_index d.basic i) ≡ true
basic_is_basic d vs i lt = ap (λ (n : ℕ). nat_lt n (length d.loaded)) (basic_at d vs i lt) ∙ lt-ltb i (length d.loaded) lt

pub basic_found : (d : DictionaryView) (v : ℕ) → (by_variable d).is_basic v ≡ true → (row_place d v < length d.loaded) × (slice_index d.basic (row_place d v) ≡ v)
basic_found d v b =
    let lt : row_place d v < length d.loaded = ltb-true (row_place d v) (length d.loaded) b in
    (lt, place-found (slice_index d.basic) (length d.loaded) v lt)

pub not_basic : (d : DictionaryView) (v : ℕ) → ((i : ℕ) → i < length d.loaded → slice_index d.basic i ≢ v) → (by_variable d).is_basic v ≡ false
not_basic d v none = false_from_ne_true ((by_variable d).is_basic v) (λ b. let f = basic_found d v b in none (row_place d v) f.0 f.1)

pub nonbasic_at : (d : DictionaryView) → HasVariables d → (j : ℕ) → j < d.columns → column_place d (slice_index d.nonbasic j) ≡ j
nonbasic_at d vs j lt = place-of (slice_index d.nonbasic) d.columns j vs.nonbasic_distinct lt

pub nonbasic_is_not_basic : (d : DictionaryView) → HasVariables d → (j : ℕ) → j < d.columns → (by_variable d).is_basic (slice_index d.nonbasic j) ≡ false
nonbasic_is_not_basic d vs j lt = not_basic d (slice_index d.nonbasic j) (λ i li e. vs.apart i j li lt e)

-- ---- its equations

no_or : (b c : Bool) (e x : ℤ) → (c ≡ true → b ≡ false) → cond b (pos 0) (cond c e (pos 0) *ℤ x) ≡ cond c (e *ℤ x) (pos 0)
no_or true true e x h = absurd (true≢false (h refl))
no_or true false e x h = refl
no_or false true e x h = refl
no_or false false e x h = zero-mul x

-- the sum of a row's entries times the nonbasic variables, over all variables
row_terms : (d : DictionaryView) → HasVariables d → (x : ℕ → ℤ) (v i : ℕ) → row_place d v ≡ i
    → sum_below (term (by_variable d) v x) (d.columns + 1 + length d.loaded) ≡ sum_below (λ j. entry_in d i j *ℤ x (slice_index d.nonbasic j)) d.columns
row_terms d vs x v i at =
    sum-ext (term (by_variable d) v x) (placed (slice_index d.nonbasic) d.columns (λ j. entry_in d i j *ℤ x (slice_index d.nonbasic j)) d.columns) (d.columns + 1 + length d.loaded)
    (λ w lt.
    no_or ((by_variable d).is_basic w) (nat_lt (column_place d w) d.columns) (entry_in d (row_place d v) (column_place d w)) (x w)
    (λ c. let l : column_place d w < d.columns = ltb-true (column_place d w) d.columns c in
    ap (by_variable d).is_basic (sym (place-found (slice_index d.nonbasic) d.columns w l)) ∙ nonbasic_is_not_basic d vs (column_place d w) l)
    ∙ same_value (nat_lt (column_place d w) d.columns) (entry_in d (row_place d v) (column_place d w) *ℤ x w) (entry_in d i (column_place d w) *ℤ x (slice_index d.nonbasic (column_place d w)))
    (λ c. let l : column_place d w < d.columns = ltb-true (column_place d w) d.columns c in
    ap (λ (n : ℕ). entry_in d n (column_place d w) *ℤ x w) at
    ∙ ap (λ (n : ℕ). entry_in d i (column_place d w) *ℤ x n) (sym (place-found (slice_index d.nonbasic) d.columns w l))))
    ∙ sum-placed (slice_index d.nonbasic) d.columns (λ j. entry_in d i j *ℤ x (slice_index d.nonbasic j)) (d.columns + 1 + length d.loaded) d.columns vs.nonbasic_distinct
    (λ j lt. let high = vs.nonbasic_high j lt in omega arith) (omega arith)
  where
    same_value : (c : Bool) (a b : ℤ) → (c ≡ true → a ≡ b) → cond c a (pos 0) ≡ cond c b (pos 0)
    same_value true a b h = h refl
    same_value false a b h = refl

pub equation_sum : (d : DictionaryView) → IsDictionary d → (y : ℕ → ℤ) (i : ℕ) → i < length d.loaded
    → dot (line_of d i) (map y (column_variables d)) ≡ sum_below (λ j. entry_in d i j *ℤ y (slice_index d.nonbasic j)) d.columns +ℤ constant_in d i *ℤ y 0
unfolding sum_below
equation_sum d is y i lt =
    let line_len : length (line_of d i) ≡ suc d.columns = let l = is.line_len i lt in omega arith in
    let variables_len : length (map y (column_variables d)) ≡ suc d.columns = length-map (column_variables d) y ∙ length-append d.nonbasic (0 ∷ []) ∙ omega (arith, is.nonbasic_len) in
    dot-sum (line_of d i) (map y (column_variables d)) (line_len ∙ sym variables_len)
    ∙ ap (sum_below (λ j. get_or (line_of d i) j (pos 0) *ℤ get_or (map y (column_variables d)) j (pos 0))) line_len
    ∙ ap (λ (s : ℤ). s +ℤ get_or (line_of d i) d.columns (pos 0) *ℤ get_or (map y (column_variables d)) d.columns (pos 0))
    (sum-ext (λ j. get_or (line_of d i) j (pos 0) *ℤ get_or (map y (column_variables d)) j (pos 0)) (λ j. entry_in d i j *ℤ y (slice_index d.nonbasic j)) d.columns
    (λ j l. ap (λ (n : ℤ). get_or (line_of d i) j (pos 0) *ℤ n) (at_column j l)))
    ∙ ap (λ (n : ℤ). sum_below (λ j. entry_in d i j *ℤ y (slice_index d.nonbasic j)) d.columns +ℤ get_or (line_of d i) d.columns (pos 0) *ℤ n) at_constant
  where
    len : length (column_variables d) ≡ suc d.columns
    len = length-append d.nonbasic (0 ∷ []) ∙ omega (arith, is.nonbasic_len)

    at_column : (j : ℕ) → j < d.columns → get_or (map y (column_variables d)) j (pos 0) ≡ y (slice_index d.nonbasic j)
    at_column j l =
        get_or-map y (column_variables d) j 0 (pos 0) (omega (arith, len))
        ∙ ap y (get_or_append_left d.nonbasic (0 ∷ []) 0 j (omega (arith, is.nonbasic_len)))

    at_constant : get_or (map y (column_variables d)) d.columns (pos 0) ≡ y 0
    at_constant =
        let zero_place : d.columns - d.columns ≡ 0 = omega arith in
        get_or-map y (column_variables d) d.columns 0 (pos 0) (omega (arith, len))
        ∙ ap y (get_or-append_right d.nonbasic (0 ∷ []) d.columns d.columns 0 is.nonbasic_len (omega arith) ∙ ap (λ (n : ℕ). get_or (0 ∷ []) n 0) zero_place)

swap_sum : (a b : ℤ) → a +ℤ b ≡ b +ℤ a
swap_sum a b = omega (arith, sums)

pub right_side_is : (d : DictionaryView) → IsDictionary d → (one : ℤ) (x : ℕ → ℤ) (v i : ℕ) → i < length d.loaded → row_place d v ≡ i
    → right_side (by_variable d) one x v ≡ dot (line_of d i) (map (with_one one x) (column_variables d))
right_side_is d is one x v i lt at =
    let vs : HasVariables d = variables_of d is in
    ap (λ (n : ℕ). constant_in d n *ℤ one +ℤ sum_below (term (by_variable d) v x) (d.columns + 1 + length d.loaded)) at
    ∙ ap (λ (s : ℤ). constant_in d i *ℤ one +ℤ s)
    (row_terms d vs x v i at
    ∙ sum-ext (λ j. entry_in d i j *ℤ x (slice_index d.nonbasic j)) (λ j. entry_in d i j *ℤ with_one one x (slice_index d.nonbasic j)) d.columns
    (λ j l. ap (λ (n : ℤ). entry_in d i j *ℤ n) (sym (with_one-same one x (slice_index d.nonbasic j) (vs.nonbasic_low j l)))))
    ∙ swap_sum (constant_in d i *ℤ one) (sum_below (λ j. entry_in d i j *ℤ with_one one x (slice_index d.nonbasic j)) d.columns)
    ∙ sym (equation_sum d is (with_one one x) i lt)

pub to_by_variable : (d : DictionaryView) → IsDictionary d → (one : ℤ) (x : ℕ → ℤ) → Satisfies d (with_one one x) → rational.IsSolution (by_variable d) one x
to_by_variable d is one x sat = record {
  each = λ v lt b.
      let f = basic_found d v b in
      let vs : HasVariables d = variables_of d is in
      let within : row_place d v < length d.basic = omega (arith, f.0, is.basic_len) in
      ap (λ (n : ℕ). d.scale *ℤ x n) (sym f.1)
      ∙ ap (λ (n : ℤ). d.scale *ℤ n) (sym (with_one-same one x (slice_index d.basic (row_place d v)) (vs.basic_low (row_place d v) f.0)))
      ∙ sat.each (row_place d v) within
      ∙ sym (right_side_is d is one x v (row_place d v) f.0 refl);
}

pub from_by_variable : (d : DictionaryView) → IsDictionary d → (one : ℤ) (x : ℕ → ℤ) → rational.IsSolution (by_variable d) one x → Satisfies d (with_one one x)
from_by_variable d is one x sat = record {
  each = λ i lt.
      let vs : HasVariables d = variables_of d is in
      let within : i < length d.loaded = omega (arith, lt, is.basic_len) in
      let high = vs.basic_high i within in
      ap (λ (n : ℤ). d.scale *ℤ n) (with_one-same one x (slice_index d.basic i) (vs.basic_low i within))
      ∙ sat.each (slice_index d.basic i) (omega arith) (basic_is_basic d vs i within)
      ∙ right_side_is d is one x (slice_index d.basic i) i within (basic_at d vs i within);
}

-- ---- the rule's choice

negative_test : (a : ℤ) → a <ℤ pos 0 → int_lt a (pos 0) ≡ true
negative_test a h = true_from_ne_false (int_lt a (pos 0)) (λ e. let g = not_negative a e in omega (arith, ints))

positive_test : (a : ℤ) → pos 0 <ℤ a → int_lt (pos 0) a ≡ true
positive_test a h = true_from_ne_false (int_lt (pos 0) a) (λ e. let g = not_positive a e in omega (arith, ints))

pub leaving_is : (d : DictionaryView) → IsDictionary d → (row : ℕ) → IsLeavingRow d row → leaving (by_variable d) ≡ slice_index d.basic row
unfolding leaving
leaving_is d is row l =
    first-is (is_infeasible (by_variable d)) (d.columns + 1 + length d.loaded) (slice_index d.basic row)
    (let high = vs.basic_high row l.within in omega arith)
    (both_true (basic_is_basic d vs row l.within) (ap (λ (n : ℕ). int_lt (constant_in d n) (pos 0)) (basic_at d vs row l.within) ∙ negative_test (constant_in d row) l.negative))
    (λ v lt. false_from_ne_true (is_infeasible (by_variable d) v) (λ e.
    let f = basic_found d v (and_left ((by_variable d).is_basic v) (int_lt (constant_in d (row_place d v)) (pos 0)) e) in
    let le : slice_index d.basic row ≤ slice_index d.basic (row_place d v) =
    l.least (row_place d v) f.0 (negative (constant_in d (row_place d v)) (and_right ((by_variable d).is_basic v) (int_lt (constant_in d (row_place d v)) (pos 0)) e)) in
    let same : slice_index d.basic (row_place d v) ≡ v = f.1 in
    omega arith))
  where
    vs : HasVariables d
    vs = variables_of d is

entering_first : (d : DictionaryView) → IsDictionary d → (row column : ℕ) → row < length d.loaded → IsEnteringColumn d row column
    → first (helps (by_variable d) (slice_index d.basic row)) (d.columns + 1 + length d.loaded) ≡ slice_index d.nonbasic column
entering_first d is row column within e =
    first-is (helps (by_variable d) (slice_index d.basic row)) (d.columns + 1 + length d.loaded) (slice_index d.nonbasic column)
    (let high = vs.nonbasic_high column e.within in omega arith)
    (both_true (not_from_false ((by_variable d).is_basic (slice_index d.nonbasic column)) (nonbasic_is_not_basic d vs column e.within))
    (ap (int_lt (pos 0)) (entry_at (slice_index d.nonbasic column) column (nonbasic_at d vs column e.within) e.within) ∙ positive_test (entry_in d row column) e.positive))
    (λ w lt. false_from_ne_true (helps (by_variable d) (slice_index d.basic row) w) (λ h.
    helper w lt (and_right (not ((by_variable d).is_basic w)) (int_lt (pos 0) ((by_variable d).entry (slice_index d.basic row) w)) h)
    (cases_Bool (nat_lt (column_place d w) d.columns))))
  where
    vs : HasVariables d
    vs = variables_of d is

    entry_at : (w j : ℕ) → column_place d w ≡ j → j < d.columns → (by_variable d).entry (slice_index d.basic row) w ≡ entry_in d row j
    entry_at w j at lt =
        cond-true (nat_lt (column_place d w) d.columns) (entry_in d (row_place d (slice_index d.basic row)) (column_place d w)) (pos 0) (ap (λ (n : ℕ). nat_lt n d.columns) at ∙ lt-ltb j d.columns lt)
        ∙ ap (λ (n : ℕ). entry_in d n (column_place d w)) (basic_at d vs row within)
        ∙ ap (entry_in d row) at

    helper : (w : ℕ) → w < slice_index d.nonbasic column → int_lt (pos 0) ((by_variable d).entry (slice_index d.basic row) w) ≡ true
        → (nat_lt (column_place d w) d.columns ≡ true) ⊎ (nat_lt (column_place d w) d.columns ≡ false) → ⊥
    helper w lt t (inl c) =
        let l : column_place d w < d.columns = ltb-true (column_place d w) d.columns c in
        let same : slice_index d.nonbasic (column_place d w) ≡ w = place-found (slice_index d.nonbasic) d.columns w l in
        let le : slice_index d.nonbasic column ≤ slice_index d.nonbasic (column_place d w) =
        e.least (column_place d w) l (positive (entry_in d row (column_place d w)) (ap (int_lt (pos 0)) (sym (entry_at w (column_place d w) refl l)) ∙ t)) in
        omega arith
    helper w lt t (inr c) =
        false≢true (ap (int_lt (pos 0)) (sym (cond-false (nat_lt (column_place d w) d.columns) (entry_in d (row_place d (slice_index d.basic row)) (column_place d w)) (pos 0) c)) ∙ t)

pub entering_is : (d : DictionaryView) → IsDictionary d → (row column : ℕ) → IsLeavingRow d row → IsEnteringColumn d row column → entering (by_variable d) ≡ slice_index d.nonbasic column
unfolding entering
entering_is d is row column l e =
    ap (λ (r : ℕ). first (helps (by_variable d) r) (d.columns + 1 + length d.loaded)) (leaving_is d is row l)
    ∙ entering_first d is row column l.within e

pub not_end : (d : DictionaryView) → IsDictionary d → (row column : ℕ) → IsLeavingRow d row → IsEnteringColumn d row column → is_end (by_variable d) ≡ false
not_end d is row column l e =
    let vs : HasVariables d = variables_of d is in
    let high = vs.basic_high row l.within in
    let high_too = vs.nonbasic_high column e.within in
    not_from_true (nat_lt (leaving (by_variable d)) (d.columns + 1 + length d.loaded) && nat_lt (entering (by_variable d)) (d.columns + 1 + length d.loaded))
    (both_true
    (lt-ltb (leaving (by_variable d)) (d.columns + 1 + length d.loaded) (omega (arith, leaving_is d is row l)))
    (lt-ltb (entering (by_variable d)) (d.columns + 1 + length d.loaded) (omega (arith, entering_is d is row column l e))))

-- ---- a pivot by it

positive_scale : (d : DictionaryView) → IsDictionary d → pos 0 <ℤ d.scale
positive_scale d is = let h = is.positive in omega (arith, ints)

-- which variables are basic after an exchange
basis_after : (d new : DictionaryView) → IsDictionary d → IsDictionary new → (row column : ℕ) → row < length d.loaded → column < d.columns
    → new.loaded ≡ d.loaded → new.basic ≡ slice_set d.basic row (slice_index d.nonbasic column)
    → (v : ℕ)
    → (by_variable new).is_basic v ≡ cond (v == slice_index d.nonbasic column) true (cond (v == slice_index d.basic row) false ((by_variable d).is_basic v))
basis_after d new is is_new row column within inside loaded basic v =
    split (cases_Bool (v == slice_index d.nonbasic column)) (cases_Bool (v == slice_index d.basic row)) (cases_Bool ((by_variable d).is_basic v))
  where
    vs : HasVariables d
    vs = variables_of d is

    ws : HasVariables new
    ws = variables_of new is_new

    rows : length new.loaded ≡ length d.loaded
    rows = ap length loaded

    here : slice_index new.basic row ≡ slice_index d.nonbasic column
    here = ap (λ (l : List ℕ). slice_index l row) basic ∙ get_or-set_same d.basic row (slice_index d.nonbasic column) 0 (omega (arith, is.basic_len))

    there : (i : ℕ) → i ≢ row → slice_index new.basic i ≡ slice_index d.basic i
    there i ne = ap (λ (l : List ℕ). slice_index l i) basic ∙ get_or-set_other d.basic row i (slice_index d.nonbasic column) 0 ne

    value : ℕ → Bool
    value v = cond (v == slice_index d.nonbasic column) true (cond (v == slice_index d.basic row) false ((by_variable d).is_basic v))

    split : ((v == slice_index d.nonbasic column) ≡ true) ⊎ ((v == slice_index d.nonbasic column) ≡ false)
        → ((v == slice_index d.basic row) ≡ true) ⊎ ((v == slice_index d.basic row) ≡ false)
        → ((by_variable d).is_basic v ≡ true) ⊎ ((by_variable d).is_basic v ≡ false)
        → (by_variable new).is_basic v ≡ cond (v == slice_index d.nonbasic column) true (cond (v == slice_index d.basic row) false ((by_variable d).is_basic v))
    split (inl a) r b =
        let same : v ≡ slice_index d.nonbasic column = eqb-true v (slice_index d.nonbasic column) a in
        ap (by_variable new).is_basic (same ∙ sym here) ∙ basic_is_basic new ws row (omega (arith, rows, within))
        ∙ sym (cond-true (v == slice_index d.nonbasic column) true (cond (v == slice_index d.basic row) false ((by_variable d).is_basic v)) a)
    split (inr a) (inl r) b =
        let same : v ≡ slice_index d.basic row = eqb-true v (slice_index d.basic row) r in
        not_basic new v (λ i li e. no_place i li e same (cases_Bool (i == row)))
        ∙ sym (cond-false (v == slice_index d.nonbasic column) true (cond (v == slice_index d.basic row) false ((by_variable d).is_basic v)) a
        ∙ cond-true (v == slice_index d.basic row) false ((by_variable d).is_basic v) r)
      where
        no_place : (i : ℕ) → i < length new.loaded → slice_index new.basic i ≡ v → v ≡ slice_index d.basic row → ((i == row) ≡ true) ⊎ ((i == row) ≡ false) → ⊥
        no_place i li e same (inl t) =
            let at : i ≡ row = eqb-true i row t in
            eqb-false v (slice_index d.nonbasic column) a (sym e ∙ ap (slice_index new.basic) at ∙ here)
        no_place i li e same (inr f) =
            let ne : i ≢ row = eqb-false i row f in
            ne (vs.basic_distinct i row (omega (arith, rows)) within (sym (there i ne) ∙ e ∙ same))
    split (inr a) (inr r) (inl b) =
        let f = basic_found d v b in
        let ne : row_place d v ≢ row = λ e. eqb-false v (slice_index d.basic row) r (sym f.1 ∙ ap (slice_index d.basic) e) in
        ap (by_variable new).is_basic (sym f.1 ∙ sym (there (row_place d v) ne)) ∙ basic_is_basic new ws (row_place d v) (omega (arith, f.0, rows))
        ∙ sym (cond-false (v == slice_index d.nonbasic column) true (cond (v == slice_index d.basic row) false ((by_variable d).is_basic v)) a
        ∙ cond-false (v == slice_index d.basic row) false ((by_variable d).is_basic v) r ∙ b)
    split (inr a) (inr r) (inr b) =
        not_basic new v (λ i li e. no_place i li e (cases_Bool (i == row)))
        ∙ sym (cond-false (v == slice_index d.nonbasic column) true (cond (v == slice_index d.basic row) false ((by_variable d).is_basic v)) a
        ∙ cond-false (v == slice_index d.basic row) false ((by_variable d).is_basic v) r ∙ b)
      where
        no_place : (i : ℕ) → i < length new.loaded → slice_index new.basic i ≡ v → ((i == row) ≡ true) ⊎ ((i == row) ≡ false) → ⊥
        no_place i li e (inl t) =
            let at : i ≡ row = eqb-true i row t in
            eqb-false v (slice_index d.nonbasic column) a (sym e ∙ ap (slice_index new.basic) at ∙ here)
        no_place i li e (inr f) =
            let ne : i ≢ row = eqb-false i row f in
            true≢false (sym (basic_is_basic d vs i (omega (arith, rows))) ∙ ap (by_variable d).is_basic (sym (there i ne) ∙ e) ∙ b)

pub covers_next : (d new : DictionaryView) → IsDictionary d → IsDictionary new → (row column : ℕ) → IsLeavingRow d row → IsEnteringColumn d row column
    → new.loaded ≡ d.loaded → new.columns ≡ d.columns → new.basic ≡ slice_set d.basic row (slice_index d.nonbasic column)
    → ((x : ℕ → ℤ) → Satisfies d x → Satisfies new x)
    → Covers (next (by_variable d)) (by_variable new)
unfolding next
covers_next d new is is_new row column l e loaded columns basic solutions =
    let going : is_end (by_variable d) ≡ false = not_end d is row column l e in
    record {
      size = ap (λ (n : ℕ). n + 1 + length new.loaded) columns ∙ ap (λ (r : ℕ). d.columns + 1 + r) (ap length loaded);
      basis = λ v lt.
          basis_after d new is is_new row column l.within e.within loaded basic v
          ∙ ap (λ (n : ℕ). cond (v == n) true (cond (v == slice_index d.basic row) false ((by_variable d).is_basic v))) (sym (entering_is d is row column l e))
          ∙ ap (λ (n : ℕ). cond (v == entering (by_variable d)) true (cond (v == n) false ((by_variable d).is_basic v))) (sym (leaving_is d is row l));
      positive = next_scale (by_variable d) (positive_scale d is) going;
      other_positive = positive_scale new is_new;
      solutions = λ one x sat.
          to_by_variable new is_new one x (solutions (with_one one x)
          (from_by_variable d is one x (exchange_reflects (by_variable d) (leaving (by_variable d)) (entering (by_variable d)) one x (choice_is_exchange (by_variable d) (positive_scale d is) going) sat)));
    }

-- a pivot by the rule leaves fewer pivots to make
pub pivot_falls : (d new : DictionaryView) → IsDictionary d → IsDictionary new → (row column : ℕ) → IsLeavingRow d row → IsEnteringColumn d row column
    → new.loaded ≡ d.loaded → new.columns ≡ d.columns → new.basic ≡ slice_set d.basic row (slice_index d.nonbasic column)
    → ((x : ℕ → ℤ) → Satisfies d x → Satisfies new x)
    → pivots_left (by_variable new) < pivots_left (by_variable d)
pivot_falls d new is is_new row column l e loaded columns basic solutions =
    fall (by_variable d) (by_variable new) (positive_scale d is) (not_end d is row column l e)
    (covers_next d new is is_new row column l e loaded columns basic solutions)
