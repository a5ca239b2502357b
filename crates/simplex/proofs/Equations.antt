-- The places of a row's equation: their variables and weights.
use Rattle.std.proofs.Common.{◌≡◌, ◌≢◌, ℕ, ◌+◌, ◌-◌, ◌^◌, ◌<◌, ◌≤◌, true, false, List, length, get_or, take, replicate, ◌⊎◌, inl, inr, ℤ, pos, neg_ℤ, ◌≤ℤ◌, unsigned_abs, refl, sym, ap, subst, ◌∙◌, arith}
use Rattle.std.specs.Prelude.{slice_index, slice_set, nat_lt, ◌==◌}
use Rattle.std.proofs.lemmas.Int.{ints}
use Rattle.std.proofs.lemmas.List.{get_or-take}
use Rattle.row_laws.proofs.Integers.{unsigned_abs-neg}
use Rattle.std.proofs.lemmas.Bool.{cond-true, cond-false, cases_Bool, eqb-true, eqb-false, ltb-true, ltb-false, lt-ltb, false_from_ne_true}
use Rattle.fraction_free.specs.Dictionary.{DictionaryView, IsDictionary, entry_in}
use Rattle.simplex.specs.Choice.{IsBlocked}
use Rattle.simplex.specs.Equation.{variable_at, weight_at, place_in_equation, weight_of}
use Rattle.simplex.proofs.Positions.{AreDistinct, place-of, place-found, place-none}
use Rattle.simplex.proofs.Sizes.{scale_small, entry_small}
use Rattle.simplex.proofs.ScaledPoints.{Written, written_none, written_more, written_past}
use Rattle.simplex.proofs.Variables.{HasVariables, variables_of}

pub first_variable : (d : DictionaryView) (row : ℕ) → variable_at d row 0 ≡ slice_index d.basic row
first_variable d row = refl

pub first_weight : (d : DictionaryView) (row : ℕ) → weight_at d row 0 ≡ d.scale
first_weight d row = refl

pub later_variable : (d : DictionaryView) (row place : ℕ) → 0 < place → variable_at d row place ≡ slice_index d.nonbasic (place - 1)
later_variable d row place h = cond-false (place == 0) (slice_index d.basic row) (slice_index d.nonbasic (place - 1)) (false_from_ne_true (place == 0) (λ e. let z : place ≡ 0 = eqb-true place 0 e in omega arith))

pub later_weight : (d : DictionaryView) (row place : ℕ) → 0 < place → weight_at d row place ≡ neg_ℤ (entry_in d row (place - 1))
later_weight d row place h = cond-false (place == 0) d.scale (neg_ℤ (entry_in d row (place - 1))) (false_from_ne_true (place == 0) (λ e. let z : place ≡ 0 = eqb-true place 0 e in omega arith))

pub variables_distinct : (d : DictionaryView) → IsDictionary d → (row : ℕ) → row < length d.loaded → AreDistinct (variable_at d row) (d.columns + 1)
variables_distinct d is row lt i j li lj e = from (cases_Bool (i == 0)) (cases_Bool (j == 0))
  where
    vs : HasVariables d
    vs = variables_of d is

    from : ((i == 0) ≡ true) ⊎ ((i == 0) ≡ false) → ((j == 0) ≡ true) ⊎ ((j == 0) ≡ false) → i ≡ j
    from (inl a) (inl b) = let p : i ≡ 0 = eqb-true i 0 a in let q : j ≡ 0 = eqb-true j 0 b in omega arith
    from (inl a) (inr b) =
        let p : i ≡ 0 = eqb-true i 0 a in
        let q : j ≢ 0 = eqb-false j 0 b in
        absurd (vs.apart row (j - 1) lt (omega arith) (sym (ap (variable_at d row) p) ∙ e ∙ later_variable d row j (omega arith)))
    from (inr a) (inl b) =
        let p : i ≢ 0 = eqb-false i 0 a in
        let q : j ≡ 0 = eqb-true j 0 b in
        absurd (vs.apart row (i - 1) lt (omega arith) (sym (sym (later_variable d row i (omega arith)) ∙ e ∙ ap (variable_at d row) q)))
    from (inr a) (inr b) =
        let p : i ≢ 0 = eqb-false i 0 a in
        let q : j ≢ 0 = eqb-false j 0 b in
        let same : i - 1 ≡ j - 1 = vs.nonbasic_distinct (i - 1) (j - 1) (omega arith) (omega arith) (sym (later_variable d row i (omega arith)) ∙ e ∙ later_variable d row j (omega arith)) in
        omega arith

pub variable_range : (d : DictionaryView) → IsDictionary d → (row place : ℕ) → row < length d.loaded → place < d.columns + 1 → (1 ≤ variable_at d row place) × (variable_at d row place ≤ d.columns + length d.loaded)
variable_range d is row place lt l = from (cases_Bool (place == 0))
  where
    vs : HasVariables d
    vs = variables_of d is

    from : ((place == 0) ≡ true) ⊎ ((place == 0) ≡ false) → (1 ≤ variable_at d row place) × (variable_at d row place ≤ d.columns + length d.loaded)
    from (inl a) =
        let e : variable_at d row place ≡ slice_index d.basic row = ap (variable_at d row) (eqb-true place 0 a) in
        (omega (arith, e, vs.basic_low row lt), omega (arith, e, vs.basic_high row lt))
    from (inr a) =
        let p : place ≢ 0 = eqb-false place 0 a in
        let e : variable_at d row place ≡ slice_index d.nonbasic (place - 1) = later_variable d row place (omega arith) in
        let inside : place - 1 < d.columns = omega arith in
        (omega (arith, e, vs.nonbasic_low (place - 1) inside), omega (arith, e, vs.nonbasic_high (place - 1) inside))

pub weight_small : (d : DictionaryView) → IsDictionary d → (row place : ℕ) → row < length d.loaded → place < d.columns + 1 → unsigned_abs (weight_at d row place) < 2 ^ 96
weight_small d is row place lt l = from (cases_Bool (place == 0))
  where
    from : ((place == 0) ≡ true) ⊎ ((place == 0) ≡ false) → unsigned_abs (weight_at d row place) < 2 ^ 96
    from (inl a) = subst (λ (n : ℕ). unsigned_abs (weight_at d row n) < 2 ^ 96) (sym (eqb-true place 0 a)) (let s = scale_small d is in omega arith)
    from (inr a) =
        let p : place ≢ 0 = eqb-false place 0 a in
        let s : unsigned_abs (entry_in d row (place - 1)) < 2 ^ 89 = entry_small d is row (place - 1) lt (omega arith) in
        subst (λ (n : ℤ). unsigned_abs n < 2 ^ 96) (sym (later_weight d row place (omega arith))) (omega (arith, unsigned_abs-neg (entry_in d row (place - 1))))

-- where no nonbasic variable helps, no weight is negative
pub weight_nonneg : (d : DictionaryView) → IsDictionary d → (row place : ℕ) → IsBlocked d row → place < d.columns + 1 → pos 0 ≤ℤ weight_at d row place
weight_nonneg d is row place blocked l = from (cases_Bool (place == 0))
  where
    weak : (a : ℤ) → pos 1 ≤ℤ a → pos 0 ≤ℤ a
    weak a h = omega (arith, ints)

    turned : (a : ℤ) → a ≤ℤ pos 0 → pos 0 ≤ℤ neg_ℤ a
    turned a h = omega (arith, ints)

    from : ((place == 0) ≡ true) ⊎ ((place == 0) ≡ false) → pos 0 ≤ℤ weight_at d row place
    from (inl a) = subst (λ (n : ℕ). pos 0 ≤ℤ weight_at d row n) (sym (eqb-true place 0 a)) (weak d.scale is.positive)
    from (inr a) =
        let p : place ≢ 0 = eqb-false place 0 a in
        subst (λ (n : ℤ). pos 0 ≤ℤ n) (sym (later_weight d row place (omega arith))) (turned (entry_in d row (place - 1)) (blocked (place - 1) (omega arith)))

-- the weight of a variable that has a place, and of one that has none
pub weight_of-at : (d : DictionaryView) → IsDictionary d → (row place : ℕ) → row < length d.loaded → place < d.columns + 1 → weight_of d row (variable_at d row place) ≡ weight_at d row place
weight_of-at d is row place lt l =
    let at : place_in_equation d row (variable_at d row place) ≡ place = place-of (variable_at d row) (d.columns + 1) place (variables_distinct d is row lt) l in
    cond-true (nat_lt (place_in_equation d row (variable_at d row place)) (d.columns + 1)) (weight_at d row (place_in_equation d row (variable_at d row place))) (pos 0) (ap (λ (n : ℕ). nat_lt n (d.columns + 1)) at ∙ lt-ltb place (d.columns + 1) l)
    ∙ ap (weight_at d row) at

pub weight_of-none : (d : DictionaryView) (row v : ℕ) → ((p : ℕ) → p < d.columns + 1 → variable_at d row p ≢ v) → weight_of d row v ≡ pos 0
weight_of-none d row v none =
    cond-false (nat_lt (place_in_equation d row v) (d.columns + 1)) (weight_at d row (place_in_equation d row v)) (pos 0)
    (false_from_ne_true (nat_lt (place_in_equation d row v) (d.columns + 1)) (λ e.
    let l : place_in_equation d row v < d.columns + 1 = ltb-true (place_in_equation d row v) (d.columns + 1) e in
    none (place_in_equation d row v) l (place-found (variable_at d row) (d.columns + 1) v l)))

-- a variable has a place, or none
pub has_place : (d : DictionaryView) (row v : ℕ) → ((p : ℕ) × (p < d.columns + 1) × (variable_at d row p ≡ v)) ⊎ ((p : ℕ) → p < d.columns + 1 → variable_at d row p ≢ v)
has_place d row v = from (cases_Bool (nat_lt (place_in_equation d row v) (d.columns + 1)))
  where
    from : (nat_lt (place_in_equation d row v) (d.columns + 1) ≡ true) ⊎ (nat_lt (place_in_equation d row v) (d.columns + 1) ≡ false)
        → ((p : ℕ) × (p < d.columns + 1) × (variable_at d row p ≡ v)) ⊎ ((p : ℕ) → p < d.columns + 1 → variable_at d row p ≢ v)
    from (inl e) =
        let l : place_in_equation d row v < d.columns + 1 = ltb-true (place_in_equation d row v) (d.columns + 1) e in
        inl (place_in_equation d row v, l, place-found (variable_at d row) (d.columns + 1) v l)
    from (inr e) = inr (λ p l. place-none (variable_at d row) (d.columns + 1) v p (ltb-false (place_in_equation d row v) (d.columns + 1) e) l)

pub weight_of-nonneg : (d : DictionaryView) → IsDictionary d → (row v : ℕ) → row < length d.loaded → IsBlocked d row → pos 0 ≤ℤ weight_of d row v
weight_of-nonneg d is row v lt blocked = from (has_place d row v)
  where
    from : ((p : ℕ) × (p < d.columns + 1) × (variable_at d row p ≡ v)) ⊎ ((p : ℕ) → p < d.columns + 1 → variable_at d row p ≢ v) → pos 0 ≤ℤ weight_of d row v
    from (inl f) = subst (λ (n : ℤ). pos 0 ≤ℤ n) (sym (sym (ap (weight_of d row) f.2) ∙ weight_of-at d is row f.0 lt f.1)) (weight_nonneg d is row f.0 blocked f.1)
    from (inr none) = subst (λ (n : ℤ). pos 0 ≤ℤ n) (sym (weight_of-none d row v none)) (omega (arith, ints))

-- ---- the increments' weights

abbrev pub WrittenWeights : DictionaryView → ℕ → ℕ → List ℤ → Type 0
WrittenWeights d row n cells = Written (variable_at d row) (weight_at d row) (pos 0) d.columns n cells

pub weights_none : (d : DictionaryView) (row : ℕ) → WrittenWeights d row 0 (replicate 24 (pos 0))
weights_none d row = written_none (variable_at d row) (weight_at d row) (pos 0) d.columns (omega arith)

pub weights_more : (d : DictionaryView) (row n : ℕ) (cells new : List ℤ) (v : ℕ) (z : ℤ) → IsDictionary d → row < length d.loaded → n < d.columns + 1
    → v ≡ variable_at d row n → v ≤ d.columns → z ≡ weight_at d row n → new ≡ slice_set cells (v - 1) z → WrittenWeights d row n cells → WrittenWeights d row (n + 1) new
weights_more d row n cells new v z is lt l e le ez en w =
    subst (λ (c : List ℤ). WrittenWeights d row (n + 1) c)
    (sym (en ∙ ap (λ (m : ℕ). slice_set cells (m - 1) z) e ∙ ap (slice_set cells (variable_at d row n - 1)) ez))
    (written_more (variable_at d row) (weight_at d row) (pos 0) d.columns n (d.columns + 1) cells (variables_distinct d is row lt) l (λ i li. (variable_range d is row i lt li).0) is.columns_most
    (weight_small d is row n lt l) (omega (arith, e)) w)

pub weights_past : (d : DictionaryView) (row n : ℕ) (cells new : List ℤ) (v : ℕ) → v ≡ variable_at d row n → d.columns < v → new ≡ cells → WrittenWeights d row n cells → WrittenWeights d row (n + 1) new
weights_past d row n cells new v e gt en w =
    subst (λ (c : List ℤ). WrittenWeights d row (n + 1) c) (sym en)
    (written_past (variable_at d row) (weight_at d row) (pos 0) d.columns n cells (omega (arith, e)) w)

pub weights_are : (d : DictionaryView) (row n : ℕ) (cells : List ℤ) → IsDictionary d → row < length d.loaded → d.columns + 1 ≤ n → n ≤ d.columns + 1 → WrittenWeights d row n cells
    → (column : ℕ) → column < d.columns → get_or (take d.columns cells) column (pos 0) ≡ weight_of d row (column + 1)
weights_are d row n cells is lt ge le w column l = get_or-take d.columns cells column (pos 0) l ∙ from (has_place d row (column + 1))
  where
    from : ((p : ℕ) × (p < d.columns + 1) × (variable_at d row p ≡ column + 1)) ⊎ ((p : ℕ) → p < d.columns + 1 → variable_at d row p ≢ column + 1) → get_or cells column (pos 0) ≡ weight_of d row (column + 1)
    from (inl f) =
        let place : variable_at d row f.0 - 1 ≡ column = let e = f.2 in omega arith in
        ap (λ (m : ℕ). get_or cells m (pos 0)) (sym place) ∙ w.placed f.0 (let h = f.1 in omega arith) (let e = f.2 in omega arith)
        ∙ sym (sym (ap (weight_of d row) f.2) ∙ weight_of-at d is row f.0 lt f.1)
    from (inr none) = w.others column (omega (arith, is.columns_most)) (λ i li. none i (omega arith)) ∙ sym (weight_of-none d row (column + 1) none)
