-- The variables of a dictionary: each is that of one column or of one row.
use Rattle.std.proofs.Common.{◌≡◌, ◌≢◌, ℕ, suc, ◌+◌, ◌-◌, ◌<◌, ◌≤◌, true, false, List, ◌∷◌, ◌++◌, length, ◌⊎◌, inl, inr, refl, sym, ap, ◌∙◌, arith}
use Rattle.std.specs.Prelude.{slice_index}
use Rattle.std.proofs.lemmas.Bool.{cases_Bool, ltb-true, ltb-false}
use Rattle.std.specs.Prelude.{nat_lt}
use Rattle.std.proofs.lemmas.List.{get_or_append_left, get_or-append_right, length-append}
use Rattle.fraction_free.specs.Dictionary.{DictionaryView, IsDictionary}
use Rattle.simplex.proofs.Positions.{AreDistinct}

pub record HasVariables (d : DictionaryView) : Type 0 where
  pub basic_distinct : AreDistinct (slice_index d.basic) (length d.loaded)
  pub nonbasic_distinct : AreDistinct (slice_index d.nonbasic) d.columns
  pub apart : (i j : ℕ) → i < length d.loaded → j < d.columns → slice_index d.basic i ≢ slice_index d.nonbasic j
  pub basic_low : (i : ℕ) → i < length d.loaded → 1 ≤ slice_index d.basic i
  pub basic_high : (i : ℕ) → i < length d.loaded → slice_index d.basic i ≤ d.columns + length d.loaded
  pub nonbasic_low : (j : ℕ) → j < d.columns → 1 ≤ slice_index d.nonbasic j
  pub nonbasic_high : (j : ℕ) → j < d.columns → slice_index d.nonbasic j ≤ d.columns + length d.loaded
  pub each : (v : ℕ) → 1 ≤ v → v ≤ d.columns + length d.loaded
      → ((i : ℕ) × (i < length d.loaded) × (slice_index d.basic i ≡ v)) ⊎ ((j : ℕ) × (j < d.columns) × (slice_index d.nonbasic j ≡ v))

record InOrder (nonbasic basic : List ℕ) (columns rows : ℕ) : Type 0 where
  of_len : length (nonbasic ++ 0 ∷ basic) ≡ columns + 1 + rows
  at_column : (j : ℕ) → j < columns → slice_index (nonbasic ++ 0 ∷ basic) j ≡ slice_index nonbasic j
  at_constant : slice_index (nonbasic ++ 0 ∷ basic) columns ≡ 0
  at_row : (i : ℕ) → i < rows → slice_index (nonbasic ++ 0 ∷ basic) (columns + 1 + i) ≡ slice_index basic i

after_zero : (basic : List ℕ) (i : ℕ) → slice_index (0 ∷ basic) (suc i) ≡ slice_index basic i
after_zero basic i = refl

in_order : (nonbasic basic : List ℕ) (columns rows : ℕ) → length nonbasic ≡ columns → length basic ≡ rows → InOrder nonbasic basic columns rows
in_order nonbasic basic columns rows n b = record {
  of_len = length-append nonbasic (0 ∷ basic) ∙ omega (arith, n, b);
  at_column = λ j lt. get_or_append_left nonbasic (0 ∷ basic) 0 j (omega arith);
  at_constant = get_or-append_right nonbasic (0 ∷ basic) columns columns 0 n (omega arith) ∙ ap (slice_index (0 ∷ basic)) zero_place;
  at_row = λ i lt. get_or-append_right nonbasic (0 ∷ basic) columns (columns + 1 + i) 0 n (omega arith) ∙ ap (slice_index (0 ∷ basic)) (row_place i) ∙ after_zero basic i;
}
  where
    zero_place : columns - columns ≡ 0
    zero_place = omega arith

    row_place : (i : ℕ) → columns + 1 + i - columns ≡ suc i
    row_place i = omega arith

pub variables_of : (d : DictionaryView) → IsDictionary d → HasVariables d
variables_of d is = record {
  basic_distinct = λ i j li lj e. row_same i j (same (d.columns + 1 + i) (d.columns + 1 + j) (omega (arith, o.of_len)) (omega (arith, o.of_len)) (o.at_row i li ∙ e ∙ sym (o.at_row j lj)));
  nonbasic_distinct = λ i j li lj e. same i j (omega (arith, o.of_len)) (omega (arith, o.of_len)) (o.at_column i li ∙ e ∙ sym (o.at_column j lj));
  apart = λ i j li lj e. apart_places i j lj (same (d.columns + 1 + i) j (omega (arith, o.of_len)) (omega (arith, o.of_len)) (o.at_row i li ∙ e ∙ sym (o.at_column j lj)));
  basic_low = λ i li. positive (slice_index d.basic i) (λ e. row_not_constant i (same (d.columns + 1 + i) d.columns (omega (arith, o.of_len)) (omega (arith, o.of_len)) (o.at_row i li ∙ e ∙ sym o.at_constant)));
  basic_high = λ i li. let b : slice_index order (d.columns + 1 + i) < length order = is.variables.below (d.columns + 1 + i) (omega (arith, o.of_len)) in let e = o.at_row i li in omega (arith, o.of_len, b, e);
  nonbasic_low = λ j lj. positive (slice_index d.nonbasic j) (λ e. column_not_constant j lj (same j d.columns (omega (arith, o.of_len)) (omega (arith, o.of_len)) (o.at_column j lj ∙ e ∙ sym o.at_constant)));
  nonbasic_high = λ j lj. let b : slice_index order j < length order = is.variables.below j (omega (arith, o.of_len)) in let e = o.at_column j lj in omega (arith, o.of_len, b, e);
  each = λ v low high. found v low high (is.variables.place v) refl;
}
  where
    order : List ℕ
    order = d.nonbasic ++ 0 ∷ d.basic

    o : InOrder d.nonbasic d.basic d.columns (length d.loaded)
    o = in_order d.nonbasic d.basic d.columns (length d.loaded) is.nonbasic_len is.basic_len

    same : (a b : ℕ) → a < length (d.nonbasic ++ 0 ∷ d.basic) → b < length (d.nonbasic ++ 0 ∷ d.basic) → slice_index (d.nonbasic ++ 0 ∷ d.basic) a ≡ slice_index (d.nonbasic ++ 0 ∷ d.basic) b → a ≡ b
    same a b la lb e = sym (is.variables.back a la) ∙ ap is.variables.place e ∙ is.variables.back b lb

    row_same : (i j : ℕ) → d.columns + 1 + i ≡ d.columns + 1 + j → i ≡ j
    row_same i j e = omega arith

    apart_places : (i j : ℕ) → j < d.columns → d.columns + 1 + i ≡ j → ⊥
    apart_places i j lt e = omega arith

    row_not_constant : (i : ℕ) → d.columns + 1 + i ≡ d.columns → ⊥
    row_not_constant i e = omega arith

    column_not_constant : (j : ℕ) → j < d.columns → j ≡ d.columns → ⊥
    column_not_constant j lt e = omega arith

    positive : (n : ℕ) → (n ≡ 0 → ⊥) → 1 ≤ n
    positive n h = omega (arith, h)

    found : (v : ℕ) → 1 ≤ v → v ≤ d.columns + length d.loaded → (p : ℕ) → is.variables.place v ≡ p
        → ((i : ℕ) × (i < length d.loaded) × (slice_index d.basic i ≡ v)) ⊎ ((j : ℕ) × (j < d.columns) × (slice_index d.nonbasic j ≡ v))
    found v low high p e =
        let lt : v < length (d.nonbasic ++ 0 ∷ d.basic) = omega (arith, o.of_len) in
        let here : slice_index (d.nonbasic ++ 0 ∷ d.basic) p ≡ v = ap (slice_index (d.nonbasic ++ 0 ∷ d.basic)) (sym e) ∙ is.variables.found v lt in
        let within : p < length (d.nonbasic ++ 0 ∷ d.basic) = below p (is.variables.place v) e (is.variables.place_below v lt) in
        split (cases_Bool (nat_lt p d.columns)) (cases_Bool (nat_lt d.columns p)) here within
      where
        below : (a b : ℕ) → b ≡ a → b < length (d.nonbasic ++ 0 ∷ d.basic) → a < length (d.nonbasic ++ 0 ∷ d.basic)
        below a b e lt = omega arith

        split : (nat_lt p d.columns ≡ true) ⊎ (nat_lt p d.columns ≡ false) → (nat_lt d.columns p ≡ true) ⊎ (nat_lt d.columns p ≡ false)
            → slice_index (d.nonbasic ++ 0 ∷ d.basic) p ≡ v → p < length (d.nonbasic ++ 0 ∷ d.basic)
            → ((i : ℕ) × (i < length d.loaded) × (slice_index d.basic i ≡ v)) ⊎ ((j : ℕ) × (j < d.columns) × (slice_index d.nonbasic j ≡ v))
        split (inl a) b here within =
            let lt : p < d.columns = ltb-true p d.columns a in
            inr (p, lt, sym (o.at_column p lt) ∙ here)
        split (inr a) (inr b) here within =
            let ge : d.columns ≤ p = ltb-false p d.columns a in
            let le : p ≤ d.columns = ltb-false d.columns p b in
            let same_place : p ≡ d.columns = omega arith in
            let zero_value : v ≡ 0 = sym here ∙ ap (slice_index (d.nonbasic ++ 0 ∷ d.basic)) same_place ∙ o.at_constant in
            absurd (omega arith)
        split (inr a) (inl b) here within =
            let gt : d.columns < p = ltb-true d.columns p b in
            let there : d.columns + 1 + (p - d.columns - 1) ≡ p = omega arith in
            let lt : p - d.columns - 1 < length d.loaded = omega (arith, o.of_len) in
            inl (p - d.columns - 1, lt, sym (o.at_row (p - d.columns - 1) lt) ∙ ap (slice_index (d.nonbasic ++ 0 ∷ d.basic)) there ∙ here)
