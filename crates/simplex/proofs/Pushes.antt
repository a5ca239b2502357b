-- A row more in a list of weighted rows.
use Rattle.std.proofs.Common.{◌≡◌, ◌≢◌, ℕ, zero, suc, ◌+◌, ◌-◌, ◌<◌, true, false, List, [], ◌∷◌, ◌++◌, map, length, get_or, take, drop, replicate, ◌⊎◌, inl, inr, refl, sym, ap, subst, ◌∙◌, arith}
use Rattle.std.specs.Prelude.{All, ◌==◌, slice_index, slice_set}
use Rattle.std.proofs.lemmas.Bool.{cases_Bool, eqb-true, eqb-false}
use Rattle.std.proofs.lemmas.List.{ext_get_or, get_or-map, get_or-replicate, get_or-drop, get_or_append_left, get_or-append_right, length-append, length-map, length-set, length-drop, length-replicate, take_more_set, drop-set-lt}
use Rattle.std.proofs.lemmas.List.Elements.{All-append, All-from_get_or}
use Rattle.simplex.specs.declared.row_weights.RowWeight.{RowWeight}
use Rattle.simplex.specs.Weights.{IsRowWeight, AreRowWeights, no_weight}
use Rattle.row_laws.specs.Padded.{IsPadded, length-padded}

pub one_item : (P : RowWeight → Type 0) (x : RowWeight) → P x → All P (x ∷ [])
one_item P x h = All-from_get_or P (x ∷ []) x (λ i lt. at i lt)
  where
    at : (i : ℕ) → i < 1 → P (get_or (x ∷ []) i x)
    at zero lt = h
    at (suc i) lt = absurd (omega arith)

pub rows_more : (xs : List RowWeight) (x : RowWeight) → AreRowWeights xs → length xs < 25 → IsRowWeight x → All (λ item. item.row < x.row) xs → AreRowWeights (xs ++ x ∷ [])
rows_more xs x are room is below = record {
  most = omega (arith, len);
  each = All-append IsRowWeight xs (x ∷ []) are.each (one_item IsRowWeight x is);
  ascending = λ k lt. subst2 (row_at k (omega (arith, map_len, lt))) (row_at (k + 1) (omega (arith, map_len, lt))) (step k (omega (arith, map_len, lt, len)) (cases_Bool ((k + 1) == length xs)));
}
  where
    len : length (xs ++ x ∷ []) ≡ length xs + 1
    len = length-append xs (x ∷ [])

    map_len : length (map (λ item. item.row) (xs ++ x ∷ [])) ≡ length xs + 1
    map_len = length-map (xs ++ x ∷ []) (λ item. item.row) ∙ len

    row_at : (k : ℕ) → k < length xs + 1 → slice_index (map (λ item. item.row) (xs ++ x ∷ [])) k ≡ (get_or (xs ++ x ∷ []) k no_weight).row
    row_at k lt = get_or-map (λ item. item.row) (xs ++ x ∷ []) k no_weight 0 (omega (arith, len))

    subst2 : {a b m n : ℕ} → a ≡ m → b ≡ n → m < n → a < b
    subst2 e f h = omega arith

    old_at : (k : ℕ) → k < length xs → (get_or (xs ++ x ∷ []) k no_weight).row ≡ (get_or xs k no_weight).row
    old_at k lt = ap (λ (item : RowWeight). item.row) (get_or_append_left xs (x ∷ []) no_weight k lt)

    new_at : (k : ℕ) → k ≡ length xs → (get_or (xs ++ x ∷ []) k no_weight).row ≡ x.row
    new_at k e =
        let z : k - length xs ≡ 0 = omega arith in
        ap (λ (item : RowWeight). item.row) (get_or-append_right xs (x ∷ []) (length xs) k no_weight refl (omega arith) ∙ ap (λ (n : ℕ). get_or (x ∷ []) n no_weight) z)

    step : (k : ℕ) → k < length xs → (((k + 1) == length xs) ≡ true) ⊎ (((k + 1) == length xs) ≡ false) → (get_or (xs ++ x ∷ []) k no_weight).row < (get_or (xs ++ x ∷ []) (k + 1) no_weight).row
    step k lt (inl e) =
        let b : (get_or xs k no_weight).row < x.row = below k no_weight lt in
        omega (arith, old_at k lt, new_at (k + 1) (eqb-true (k + 1) (length xs) e), b)
    step k lt (inr e) =
        let ne : k + 1 ≢ length xs = eqb-false (k + 1) (length xs) e in
        let l : k + 1 < length xs = omega arith in
        let old : slice_index (map (λ item. item.row) xs) k < slice_index (map (λ item. item.row) xs) (k + 1) = are.ascending k (omega (arith, length-map xs (λ (item : RowWeight). item.row))) in
        omega (arith, old_at k lt, old_at (k + 1) l, get_or-map (λ item. item.row) xs k no_weight 0 lt, get_or-map (λ item. item.row) xs (k + 1) no_weight 0 l, old)

padded_more : (n : ℕ) (cells : List RowWeight) (x : RowWeight) → n < 25 → IsPadded 25 no_weight n cells → IsPadded 25 no_weight (n + 1) (slice_set cells n x)
padded_more n cells x lt p = record {
  most = omega arith;
  cells_len = length-set cells n x ∙ p.cells_len;
  unused =
      drop-set-lt (n + 1) cells n x (omega arith)
      ∙ ext_get_or no_weight (drop (n + 1) cells) (replicate (25 - (n + 1)) no_weight)
      (length-drop (n + 1) cells ∙ omega (arith, p.cells_len) ∙ sym (length-replicate (25 - (n + 1)) no_weight))
      (λ i l. let short : i < 25 - (n + 1) = omega (arith, length-drop (n + 1) cells, p.cells_len) in
      let place : n + 1 + i ≡ n + (i + 1) = omega arith in
      get_or-drop (n + 1) cells i no_weight ∙ ap (λ (j : ℕ). get_or cells j no_weight) place
      ∙ sym (get_or-drop n cells (i + 1) no_weight) ∙ ap (λ (l : List RowWeight). get_or l (i + 1) no_weight) p.unused
      ∙ get_or-replicate (25 - n) (i + 1) no_weight no_weight (omega arith)
      ∙ sym (get_or-replicate (25 - (n + 1)) i no_weight no_weight short));
}

pub pushed : (n at : ℕ) (cells now : List RowWeight) (x y : RowWeight) → at ≡ n → y ≡ x → IsPadded 25 no_weight n cells × AreRowWeights (take n cells) → take n cells ≡ now → length now < 25 → IsRowWeight x → All (λ item. item.row < x.row) now
    → IsPadded 25 no_weight (n + 1) (slice_set cells at y) × AreRowWeights (take (n + 1) (slice_set cells at y))
pushed n at cells now x y e f inv view room is below =
    let len : length (take n cells) ≡ n = length-padded 25 no_weight n cells inv.0 in
    let short : n < 25 = omega (arith, len, ap length view) in
    let place : slice_set cells n x ≡ slice_set cells at y = ap (λ (i : ℕ). slice_set cells i x) (sym e) ∙ ap (slice_set cells at) (sym f) in (
      subst (IsPadded 25 no_weight (n + 1)) place (padded_more n cells x short inv.0),
      subst (λ (l : List RowWeight). AreRowWeights (take (n + 1) l)) place
          (subst AreRowWeights (sym (take_more_set cells n x (omega (arith, inv.0.cells_len))))
          (rows_more (take n cells) x inv.1 (omega (arith, len)) is (subst (λ (l : List RowWeight). All (λ item. item.row < x.row) l) (sym view) below))),
    )
