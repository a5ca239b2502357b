-- Rows of whole numbers, each with a least: some positive vector gives each row its least, or none does.
use Rattle.std.proofs.Common.{◌≡◌, ◌⊎◌, ℕ, zero, suc, ◌+◌, ◌-◌, ◌<◌, ◌≤◌, true, false, cond, not, nat_lt, List, [], ◌∷◌, length, map, get_or, All, ℤ, pos, ◌+ℤ◌, ◌-ℤ◌, ◌*ℤ◌, ◌<ℤ◌, ◌≤ℤ◌, refl, ap, sym, subst, ◌∙◌, inl, inr, arith}
use Rattle.std.specs.List.{range_with_len}
use Rattle.std.proofs.Math.IntN.{*ℤ_comm}
use Rattle.std.proofs.lemmas.Int.{ints}
use Rattle.std.proofs.lemmas.Bool.{lt-ltb, le-ltb, cond-true, cond-false, cases_lt}
use Rattle.std.proofs.lemmas.List.FromFn.{fill_by_all, get_or-map-range_with_len, length-map-range_with_len}
use Rattle.row_laws.proofs.Integers.{sums, mul-add, add-mul, sub-mul, mul-sub, zero-mul, one-mul}
use Rattle.row_laws.proofs.Integers.{mul-one}
use Rattle.row_laws.specs.Rows.{dot}
use Rattle.least_index.specs.Dictionary.{RationalDictionary, sum_below, term, right_side, IsSolution}
use Rattle.least_index.specs.Rule.{pivots_left}
use Rattle.least_index.proofs.Sums.{sum-ext, sum-zero}
use Rattle.row_laws.proofs.Signs.{mul_nonneg}
use Rattle.survey_core.proofs.ListSteps.{Each}
use Rattle.simplex.proofs.Positions.{sum-front, sum-split}
use Rattle.reply_laws.proofs.DictionaryPoints.{HasPoint, point_or_none}

pub record LinearRow : Type 0 where
  pub coefficients : List ℤ
  pub least : ℤ

-- the row is short enough, and its least is 0 or 1
pub record IsShort (m : ℕ) (row : LinearRow) : Type 0 where
  pub len : length row.coefficients ≤ m
  pub low : pos 0 ≤ℤ row.least
  pub high : row.least ≤ℤ pos 1

-- the sum of products over the places below m
abbrev over : ℕ → List ℤ → (ℕ → ℤ) → ℤ
over m cs f = sum_below (λ j. get_or cs j (pos 0) *ℤ f j) m

swap_product : (a b : ℤ) → a *ℤ b ≡ b *ℤ a
swap_product a b = *ℤ_comm a b

dot_over : (m : ℕ) (values cs : List ℤ) → length values ≡ m → length cs ≤ m → dot values cs ≡ over m cs (λ j. get_or values j (pos 0))
unfolding sum_below
dot_over zero [] cs same short = refl
dot_over zero (x ∷ values) cs same short = absurd (omega arith)
dot_over (suc m) [] cs same short = absurd (omega arith)
dot_over (suc m) (x ∷ values) [] same short =
    sym (sum-zero (λ j. pos 0 *ℤ get_or (x ∷ values) j (pos 0)) (suc m) (λ j lt. zero-mul (get_or (x ∷ values) j (pos 0))))
dot_over (suc m) (x ∷ values) (c ∷ cs) same short =
    ap (λ (s : ℤ). x *ℤ c +ℤ s) (dot_over m values cs (omega arith) (omega arith))
    ∙ ap (λ (s : ℤ). s +ℤ over m cs (λ j. get_or values j (pos 0))) (swap_product x c)
    ∙ sym (sum-front (λ j. get_or (c ∷ cs) j (pos 0) *ℤ get_or (x ∷ values) j (pos 0)) m)

-- a row that isn't there
abbrev pub no_row : LinearRow
no_row = record { coefficients = []; least = pos 0 }

abbrev row_at : List LinearRow → ℕ → LinearRow
row_at rows i = get_or rows i no_row

-- the slacks of the rows, over the vector's numbers minus 1
abbrev dictionary_of : ℕ → List LinearRow → RationalDictionary
dictionary_of m rows = record {
  size = m + length rows;
  scale = pos 1;
  is_basic = λ v. not (nat_lt v m);
  entry = λ v w. get_or (row_at rows (v - m)).coefficients w (pos 0);
  constant = λ v. over m (row_at rows (v - m)).coefficients (λ j. pos 1) -ℤ (row_at rows (v - m)).least;
}

-- the vector of a solution
abbrev vector_of : ℕ → ℤ → (ℕ → ℤ) → List ℤ
vector_of m one x = map (λ j. x j +ℤ one) (range_with_len 0 m)

not_low : (v m : ℕ) → v < m → not (nat_lt v m) ≡ false
not_low v m lt = ap not (lt-ltb v m lt)

not_high : (v m : ℕ) → m ≤ v → not (nat_lt v m) ≡ true
not_high v m le = ap not (le-ltb v m le)

over_sum : (m : ℕ) (cs : List ℤ) (one : ℤ) (x : ℕ → ℤ) → over m cs (λ j. x j +ℤ one) ≡ over m cs x +ℤ over m cs (λ j. pos 1) *ℤ one
unfolding sum_below
over_sum zero cs one x = omega (arith, sums, zero-mul one)
over_sum (suc m) cs one x =
    one_more (over m cs (λ j. x j +ℤ one)) (over m cs x) (over m cs (λ j. pos 1)) (get_or cs m (pos 0)) (x m) one (over_sum m cs one x)
  where
    one_more : (s p q c y one : ℤ) → s ≡ p +ℤ q *ℤ one → s +ℤ c *ℤ (y +ℤ one) ≡ (p +ℤ c *ℤ y) +ℤ (q +ℤ c *ℤ pos 1) *ℤ one
    one_more s p q c y one h =
        let same : (c *ℤ pos 1) *ℤ one ≡ c *ℤ one = ap (λ (a : ℤ). a *ℤ one) (mul-one c) in
        omega (arith, sums, h, mul-add c y one, add-mul q (c *ℤ pos 1) one, same)

add_zero_right : (a : ℤ) → a +ℤ pos 0 ≡ a
add_zero_right a = omega (arith, sums)

regroup : (c l d one : ℤ) → (c -ℤ l) *ℤ one +ℤ d ≡ (d +ℤ c *ℤ one) -ℤ l *ℤ one
regroup c l d one = omega (arith, sums, sub-mul c l one)

module _ (m : ℕ) (rows : List LinearRow) where
  -- the terms are those of the places below m
  terms : (v : ℕ) (x : ℕ → ℤ) → sum_below (term (dictionary_of m rows) v x) (m + length rows) ≡ over m (row_at rows (v - m)).coefficients x
  terms v x =
      sum-split (term (dictionary_of m rows) v x) m (length rows)
      ∙ ap (λ (s : ℤ). sum_below (term (dictionary_of m rows) v x) m +ℤ s)
      (sum-zero (λ i. term (dictionary_of m rows) v x (m + i)) (length rows)
      (λ i lt. cond-true (not (nat_lt (m + i) m)) (pos 0) (get_or (row_at rows (v - m)).coefficients (m + i) (pos 0) *ℤ x (m + i)) (not_high (m + i) m (omega arith))))
      ∙ add_zero_right (sum_below (term (dictionary_of m rows) v x) m)
      ∙ sum-ext (term (dictionary_of m rows) v x) (λ j. get_or (row_at rows (v - m)).coefficients j (pos 0) *ℤ x j) m
      (λ j lt. cond-false (not (nat_lt j m)) (pos 0) (get_or (row_at rows (v - m)).coefficients j (pos 0) *ℤ x j) (not_low j m lt))

  -- the equation of a row says that its slack is what the vector gives it above its least
  slack : (v : ℕ) (one : ℤ) (x : ℕ → ℤ) → length (row_at rows (v - m)).coefficients ≤ m
      → right_side (dictionary_of m rows) one x v ≡ dot (vector_of m one x) (row_at rows (v - m)).coefficients -ℤ (row_at rows (v - m)).least *ℤ one
  slack v one x short =
      let cs : List ℤ = (row_at rows (v - m)).coefficients in
      let least : ℤ = (row_at rows (v - m)).least in
      let values : dot (vector_of m one x) cs ≡ over m cs x +ℤ over m cs (λ j. pos 1) *ℤ one =
      dot_over m (vector_of m one x) cs (length-map-range_with_len (λ j. x j +ℤ one) 0 m) short
      ∙ sum-ext (λ j. get_or cs j (pos 0) *ℤ get_or (vector_of m one x) j (pos 0)) (λ j. get_or cs j (pos 0) *ℤ (x j +ℤ one)) m
      (λ j lt. ap (λ (s : ℤ). get_or cs j (pos 0) *ℤ s) (get_or-map-range_with_len (λ j. x j +ℤ one) 0 m j j (pos 0) lt (omega arith)))
      ∙ over_sum m cs one x in
      ap (λ (s : ℤ). (over m cs (λ j. pos 1) -ℤ least) *ℤ one +ℤ s) (terms v x)
      ∙ regroup (over m cs (λ j. pos 1)) least (over m cs x) one
      ∙ ap (λ (s : ℤ). s -ℤ least *ℤ one) (sym values)

-- the vector gives the row its least
abbrev pub MeetsRow : List ℤ → LinearRow → Type 0
MeetsRow values row = row.least ≤ℤ dot values row.coefficients

pub record RowPoint (m : ℕ) (rows : List LinearRow) : Type 0 where
  pub values : List ℤ
  pub len : length values ≡ m
  pub positive : All (λ x. pos 1 ≤ℤ x) values
  pub each : Each (MeetsRow values) rows

abbrev pub HasNoRowPoint : ℕ → List LinearRow → Type 0
HasNoRowPoint m rows = (values : List ℤ) → length values ≡ m → All (λ x. pos 1 ≤ℤ x) values → Each (MeetsRow values) rows → ⊥

each_or : {X : Type 0} (P : X → Type 0) (xs : List X) (i : ℕ) (d : X) → Each P xs → i < length xs → P (get_or xs i d)
each_or P [] i d each lt = absurd (omega arith)
each_or P (x ∷ xs) zero d each lt = each.0
each_or P (x ∷ xs) (suc i) d each lt = each_or P xs i d each.1 (omega arith)

each_from_or : {X : Type 0} (P : X → Type 0) (xs : List X) (d : X) → ((i : ℕ) → i < length xs → P (get_or xs i d)) → Each P xs
each_from_or P [] d h = tt
each_from_or P (x ∷ xs) d h = (h 0 (omega arith), each_from_or P xs d (λ i lt. h (suc i) (omega arith)))

least_holds : (one least product x value : ℤ) → pos 0 <ℤ one → pos 0 ≤ℤ least → pos 0 ≤ℤ x → pos 1 *ℤ x ≡ value -ℤ least *ℤ one → least ≤ℤ value
least_holds one least product x value positive low nonneg same =
    let more : pos 0 ≤ℤ (least *ℤ (one -ℤ pos 1)) = mul_nonneg least (one -ℤ pos 1) low (omega (arith, ints)) in
    let apart : least *ℤ (one -ℤ pos 1) ≡ least *ℤ one -ℤ least = mul-sub least one (pos 1) ∙ ap (λ (s : ℤ). least *ℤ one -ℤ s) (mul-one least) in
    omega (arith, ints, same, one-mul x, more, apart)

positive_sum : (x one : ℤ) → pos 0 ≤ℤ x → pos 0 <ℤ one → pos 1 ≤ℤ (x +ℤ one)
positive_sum x one h g = omega (arith, ints)

point_of : (m : ℕ) (rows : List LinearRow) → Each (IsShort m) rows → HasPoint (dictionary_of m rows) → RowPoint m rows
point_of m rows short point = record {
  values = vector_of m point.one point.x;
  len = length-map-range_with_len (λ j. point.x j +ℤ point.one) 0 m;
  positive =
      λ k d within.
      (let lt : k < m = omega (arith, length-map-range_with_len (λ j. point.x j +ℤ point.one) 0 m) in
      subst (λ (y : ℤ). pos 1 ≤ℤ y) (sym (get_or-map-range_with_len (λ j. point.x j +ℤ point.one) 0 m k k d lt (omega arith)))
      (positive_sum (point.x k) point.one (point.nonneg k (omega arith)) point.positive));
  each =
      each_from_or (MeetsRow (vector_of m point.one point.x)) rows no_row
      (λ i lt.
      let v : ℕ = m + i in
      let is : v - m ≡ i = omega arith in
      let row : IsShort m (get_or rows i no_row) = each_or (IsShort m) rows i no_row short lt in
      let here : IsShort m (row_at rows (v - m)) = subst (λ k. IsShort m (row_at rows k)) (sym is) row in
      let equation = point.satisfies.each v (omega arith) (not_high v m (omega arith)) ∙ slack m rows v point.one point.x here.len in
      subst (λ k. MeetsRow (vector_of m point.one point.x) (row_at rows k)) is
      (least_holds point.one (row_at rows (v - m)).least (pos 0) (point.x v) (dot (vector_of m point.one point.x) (row_at rows (v - m)).coefficients)
      point.positive here.low (point.nonneg v (omega arith)) equation));
}

module _ (m : ℕ) (rows : List LinearRow) (values : List ℤ) (short : Each (IsShort m) rows) (len : length values ≡ m) (positive : All (λ x. pos 1 ≤ℤ x) values) (each : Each (MeetsRow values) rows) where
  abbrev solution : ℕ → ℤ
  solution v = cond (nat_lt v m) (get_or values v (pos 0) -ℤ pos 1) (dot values (row_at rows (v - m)).coefficients -ℤ (row_at rows (v - m)).least)

  low_solution : (v : ℕ) → v < m → solution v ≡ get_or values v (pos 0) -ℤ pos 1
  low_solution v lt =
      cond-true (nat_lt v m) (get_or values v (pos 0) -ℤ pos 1) (dot values (row_at rows (v - m)).coefficients -ℤ (row_at rows (v - m)).least) (lt-ltb v m lt)

  high_solution : (v : ℕ) → m ≤ v → solution v ≡ dot values (row_at rows (v - m)).coefficients -ℤ (row_at rows (v - m)).least
  high_solution v le =
      cond-false (nat_lt v m) (get_or values v (pos 0) -ℤ pos 1) (dot values (row_at rows (v - m)).coefficients -ℤ (row_at rows (v - m)).least) (le-ltb v m le)

  minus_plus : (a : ℤ) → a ≡ (a -ℤ pos 1) +ℤ pos 1
  minus_plus a = omega (arith, sums)

  same_vector : values ≡ vector_of m (pos 1) solution
  same_vector =
      fill_by_all (λ j. solution j +ℤ pos 1) values m (pos 0) len
      (λ k lt. minus_plus (get_or values k (pos 0)) ∙ ap (λ (s : ℤ). s +ℤ pos 1) (sym (low_solution k lt)))

  basic_high : (v : ℕ) → not (nat_lt v m) ≡ true → m ≤ v
  basic_high v basic =
      elim (cases_lt v m) [
        | inl lt ↦ (let low : not (nat_lt v m) ≡ false = not_low v m lt in absurd cc)
        | inr le ↦ le
      ]

  one_least : (a least : ℤ) → a -ℤ least ≡ a -ℤ least *ℤ pos 1
  one_least a least = ap (λ (s : ℤ). a -ℤ s) (sym (mul-one least))

  solves : IsSolution (dictionary_of m rows) (pos 1) solution
  solves = record {
    each = λ v lt basic.
        (let high : m ≤ v = basic_high v basic in
        let i : ℕ = v - m in
        let row : IsShort m (row_at rows i) = each_or (IsShort m) rows i no_row short (omega arith) in
        one-mul (solution v) ∙ high_solution v high
        ∙ one_least (dot values (row_at rows i).coefficients) (row_at rows i).least
        ∙ ap (λ (l : List ℤ). dot l (row_at rows i).coefficients -ℤ (row_at rows i).least *ℤ pos 1) same_vector
        ∙ sym (slack m rows v (pos 1) solution row.len));
  }

  less_one : (a b : ℤ) → b ≡ a -ℤ pos 1 → pos 1 ≤ℤ a → pos 0 ≤ℤ b
  less_one a b same h = omega (arith, ints, same, h)

  above_least : (a least b : ℤ) → b ≡ a -ℤ least → least ≤ℤ a → pos 0 ≤ℤ b
  above_least a least b same h = omega (arith, ints, same, h)

  solution_nonneg : (v : ℕ) → v < m + length rows → pos 0 ≤ℤ solution v
  solution_nonneg v lt =
      elim (cases_lt v m) [
        | inl low ↦ less_one (get_or values v (pos 0)) (solution v) (low_solution v low) (positive v (pos 0) (omega arith))
        | inr high ↦
            (let i : ℕ = v - m in
            above_least (dot values (row_at rows i).coefficients) (row_at rows i).least (solution v) (high_solution v high)
            (each_or (MeetsRow values) rows i no_row each (omega arith)))
      ]

pub rows_decided : (m : ℕ) (rows : List LinearRow) → Each (IsShort m) rows → RowPoint m rows ⊎ HasNoRowPoint m rows
rows_decided m rows short =
    elim (point_or_none (suc (pivots_left (dictionary_of m rows))) (dictionary_of m rows) (omega (arith, ints)) (omega arith)) [
      | inl point ↦ inl (point_of m rows short point)
      | inr none ↦
          inr (λ values len positive each.
          none (pos 1) (solution m rows values short len positive each) (omega (arith, ints)) (solves m rows values short len positive each)
          (solution_nonneg m rows values short len positive each))
    ]
