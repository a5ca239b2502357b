-- Steps that write the increments of a basic solution.
use Rattle.std.proofs.Common.{◌≡◌, ◌≢◌, ℕ, ◌+◌, ◌-◌, ◌^◌, ◌<◌, ◌≤◌, true, false, List, length, get_or, take, replicate, ◌⊎◌, inl, inr, ℤ, pos, unsigned_abs, refl, sym, ap, subst, ◌∙◌, arith}
use Rattle.std.specs.Prelude.{◌==◌, slice_set}
use Rattle.std.proofs.lemmas.Bool.{cases_Bool, eqb-true, eqb-false}
use Rattle.std.proofs.lemmas.List.{get_or-replicate, get_or-take, get_or-set_same, get_or-set_other, length-take-le, length-set}
use Rattle.std.proofs.lemmas.List.Elements.{All-from_get_or}
use Rattle.criteria_model.specs.Lists.{IsVector}
use Rattle.simplex.proofs.Positions.{AreDistinct}

-- cells by the places so far: each place with a variable up to `most` has its value at the variable, and every other cell is `rest`
pub record Written (variable : ℕ → ℕ) (value : ℕ → ℤ) (rest : ℤ) (most n : ℕ) (cells : List ℤ) : Type 0 where
  pub len : length cells ≡ 24
  pub placed : (i : ℕ) → i < n → variable i ≤ most → get_or cells (variable i - 1) (pos 0) ≡ value i
  pub others : (k : ℕ) → k < 24 → ((i : ℕ) → i < n → variable i ≢ k + 1) → get_or cells k (pos 0) ≡ rest
  pub sizes : (k : ℕ) → k < 24 → unsigned_abs (get_or cells k (pos 0)) < 2 ^ 96

pub written_none : (variable : ℕ → ℕ) (value : ℕ → ℤ) (rest : ℤ) (most : ℕ) → unsigned_abs rest < 2 ^ 96 → Written variable value rest most 0 (replicate 24 rest)
written_none variable value rest most small = record {
  len = refl;
  placed = λ i lt le. absurd (omega arith);
  others = λ k lt none. get_or-replicate 24 k rest (pos 0) lt;
  sizes = λ k lt. subst (λ (n : ℤ). unsigned_abs n < 2 ^ 96) (sym (get_or-replicate 24 k rest (pos 0) lt)) small;
}

pub written_more : (variable : ℕ → ℕ) (value : ℕ → ℤ) (rest : ℤ) (most n m : ℕ) (cells : List ℤ) → AreDistinct variable m → n < m → ((i : ℕ) → i < m → 1 ≤ variable i) → most ≤ 24
    → unsigned_abs (value n) < 2 ^ 96 → variable n ≤ most
    → Written variable value rest most n cells → Written variable value rest most (n + 1) (slice_set cells (variable n - 1) (value n))
written_more variable value rest most n m cells distinct lt low few small le w = record {
  len = length-set cells (variable n - 1) (value n) ∙ w.len;
  placed = λ i l h. here i l h (cases_Bool (i == n));
  others = λ k l none. get_or-set_other cells (variable n - 1) k (value n) (pos 0) (apart k (none n (omega arith)) (low n lt)) ∙ w.others k l (λ i li. none i (omega arith));
  sizes = λ k l. size k l (cases_Bool (k == (variable n - 1)));
}
  where
    apart : (k : ℕ) → variable n ≢ k + 1 → 1 ≤ variable n → k ≢ variable n - 1
    apart k ne lo e = omega arith

    within : variable n - 1 < length cells
    within = let lo = low n lt in omega (arith, w.len)

    here : (i : ℕ) → i < n + 1 → variable i ≤ most → ((i == n) ≡ true) ⊎ ((i == n) ≡ false) → get_or (slice_set cells (variable n - 1) (value n)) (variable i - 1) (pos 0) ≡ value i
    here i l h (inl e) =
        let same : i ≡ n = eqb-true i n e in
        ap (λ (j : ℕ). get_or (slice_set cells (variable n - 1) (value n)) (variable j - 1) (pos 0)) same
        ∙ get_or-set_same cells (variable n - 1) (value n) (pos 0) within ∙ ap value (sym same)
    here i l h (inr e) =
        let ne : i ≢ n = eqb-false i n e in
        let far : variable i ≢ variable n = λ s. ne (distinct i n (omega arith) lt s) in
        let lo_i = low i (omega arith) in
        let lo_n = low n lt in
        get_or-set_other cells (variable n - 1) (variable i - 1) (value n) (pos 0) (λ s. far (omega arith)) ∙ w.placed i (omega arith) h

    size : (k : ℕ) → k < 24 → ((k == (variable n - 1)) ≡ true) ⊎ ((k == (variable n - 1)) ≡ false) → unsigned_abs (get_or (slice_set cells (variable n - 1) (value n)) k (pos 0)) < 2 ^ 96
    size k l (inl e) =
        subst (λ (x : ℤ). unsigned_abs x < 2 ^ 96) (sym (ap (λ (j : ℕ). get_or (slice_set cells (variable n - 1) (value n)) j (pos 0)) (eqb-true k (variable n - 1) e) ∙ get_or-set_same cells (variable n - 1) (value n) (pos 0) within)) small
    size k l (inr e) =
        subst (λ (x : ℤ). unsigned_abs x < 2 ^ 96) (sym (get_or-set_other cells (variable n - 1) k (value n) (pos 0) (eqb-false k (variable n - 1) e))) (w.sizes k l)

pub written_past : (variable : ℕ → ℕ) (value : ℕ → ℤ) (rest : ℤ) (most n : ℕ) (cells : List ℤ) → most < variable n → Written variable value rest most n cells → Written variable value rest most (n + 1) cells
written_past variable value rest most n cells gt w = record {
  len = w.len;
  placed = λ i l h. w.placed i (before i l h (cases_Bool (i == n))) h;
  others = λ k l none. w.others k l (λ i li. none i (omega arith));
  sizes = w.sizes;
}
  where
    before : (i : ℕ) → i < n + 1 → variable i ≤ most → ((i == n) ≡ true) ⊎ ((i == n) ≡ false) → i < n
    before i l h (inl e) = let same : variable i ≡ variable n = ap variable (eqb-true i n e) in absurd (omega arith)
    before i l h (inr e) = let ne : i ≢ n = eqb-false i n e in omega arith

-- the first cells are a vector
pub written_vector : (variable : ℕ → ℕ) (value : ℕ → ℤ) (rest : ℤ) (most n columns : ℕ) (cells : List ℤ) → 1 ≤ columns → columns ≤ 24 → Written variable value rest most n cells → IsVector (take columns cells)
written_vector variable value rest most n columns cells some few w =
    let len : length (take columns cells) ≡ columns = length-take-le columns cells (omega (arith, w.len)) in
    record {
      some = omega (arith, len);
      most = omega (arith, len);
      within = All-from_get_or (λ x. unsigned_abs x < 2 ^ 96) (take columns cells) (pos 0) (λ k lt.
          let l : k < columns = omega (arith, len) in
          subst (λ (x : ℤ). unsigned_abs x < 2 ^ 96) (sym (get_or-take columns cells k (pos 0) l)) (w.sizes k (omega arith)));
    }

pub written_len : (variable : ℕ → ℕ) (value : ℕ → ℤ) (rest : ℤ) (most n columns : ℕ) (cells : List ℤ) → columns ≤ 24 → Written variable value rest most n cells → length (take columns cells) ≡ columns
written_len variable value rest most n columns cells few w = length-take-le columns cells (omega (arith, w.len))
