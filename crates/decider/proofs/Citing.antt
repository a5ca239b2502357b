-- The cites of the answers whose rows are weighted, one answer after another.
use Rattle.std.proofs.Common.{◌≡◌, ◌≢◌, ℕ, zero, suc, ◌+◌, ◌-◌, ◌<◌, ◌≤◌, Bool, true, false, cond, List, [], ◌∷◌, ◌++◌, length, map, get_or, take, Some, Option, ◌⊎◌, inl, inr, ℤ, pos, negsuc, neg_ℤ, ◌+ℤ◌, ◌*ℤ◌, refl, sym, ap, subst, ◌∙◌, arith}
use Rattle.std.specs.Prelude.{All, ◌==◌, nat_lt, slice_index, slice_get}
use Rattle.std.specs.Option.{option_map_or}
use Rattle.std.specs.List.Sorted.{IsStrictlyIncreasing}
use Rattle.std.proofs.lemmas.Int.{ints}
use Rattle.std.proofs.lemmas.Bool.{cases_Bool, eqb-true, eqb-false, ltb-true, ltb-false, true≢false}
use Rattle.std.proofs.lemmas.Option.{get_or_from_slice_get}
use Rattle.std.proofs.lemmas.List.{get_or-map, get_or_append_left, get_or-append_right, length-append, length-map, map-append}
use Rattle.std.proofs.lemmas.List.Sums.{sum_by_more, sum_by-take-le}
use Rattle.std.proofs.lemmas.List.Elements.{All-nil, All-push, All-from_get_or}
use Rattle.row_laws.proofs.Integers.{sums}
use Rattle.criteria_model.specs.declared.pairs.Answer.{Answer}
use Rattle.criteria_model.specs.declared.pairs.Side.{Side}
use Rattle.criteria_model.specs.declared.pairs.Side.TheVariants.{Left, Right, Equal}
use Rattle.criteria_model.specs.declared.pairs.Pair.{Pair}
use Rattle.farkas_check.specs.declared.cites.Cite.{Cite}
use Rattle.farkas_check.specs.Cited.{IsCite, AreCites, no_cite}
use Rattle.farkas_check.specs.Sums.{cited_side}
use Rattle.farkas_check.specs.Proof.{MayWeigh}
use Rattle.simplex.specs.declared.row_weights.RowWeight.{RowWeight}
use Rattle.simplex.specs.Weights.{is_weight, AreRowWeights, no_weight, weighted}
use Rattle.decider.specs.Standing.{rows_of}
use Rattle.decider.specs.Combining.{rows_for, rows_in, first_row, AreFrom, TakesRanking, with_cite, IsOpposed, cited_sum, EachMayWeigh, CitesRows}

pub rows_for-length : (levels : List ℕ) (pair : Pair) (side : Side) → length (rows_of levels pair side) ≡ rows_for side
rows_for-length levels pair Left = refl
rows_for-length levels pair Right = refl
rows_for-length levels pair Equal = refl

-- ---- a list that grows at its end

pub increasing_push : (xs : List ℕ) (x : ℕ) → IsStrictlyIncreasing xs → All (λ y. y < x) xs → IsStrictlyIncreasing (xs ++ x ∷ [])
increasing_push xs x up below k lt = from (cases_Bool ((k + 1) == length xs))
  where
    len : length (xs ++ x ∷ []) ≡ length xs + 1
    len = length-append xs (x ∷ [])

    old_at : (i : ℕ) → i < length xs → slice_index (xs ++ x ∷ []) i ≡ slice_index xs i
    old_at i l = get_or_append_left xs (x ∷ []) 0 i l

    new_at : (i : ℕ) → i ≡ length xs → slice_index (xs ++ x ∷ []) i ≡ x
    new_at i e =
        let z : i - length xs ≡ 0 = omega arith in
        get_or-append_right xs (x ∷ []) (length xs) i 0 refl (omega arith) ∙ ap (λ (n : ℕ). get_or (x ∷ []) n 0) z

    from : (((k + 1) == length xs) ≡ true) ⊎ (((k + 1) == length xs) ≡ false) → slice_index (xs ++ x ∷ []) k < slice_index (xs ++ x ∷ []) (k + 1)
    from (inl e) =
        let same : k + 1 ≡ length xs = eqb-true (k + 1) (length xs) e in
        let b : slice_index xs k < x = below k 0 (omega arith) in
        omega (arith, old_at k (omega arith), new_at (k + 1) same, b)
    from (inr e) =
        let ne : k + 1 ≢ length xs = eqb-false (k + 1) (length xs) e in
        let l : k + 1 < length xs = omega (arith, len) in
        let step = up k l in
        omega (arith, old_at k (omega arith), old_at (k + 1) l, step)

pub cited_sum-push : (of : ℕ → ℤ) (xs : List Cite) (x : Cite) → cited_sum of (xs ++ x ∷ []) ≡ cited_sum of xs +ℤ x.weight *ℤ of x.answer
cited_sum-push of [] x = flip (x.weight *ℤ of x.answer)
  where
    flip : (a : ℤ) → a +ℤ pos 0 ≡ pos 0 +ℤ a
    flip a = omega (arith, sums)
cited_sum-push of (y ∷ xs) x =
    ap (λ (s : ℤ). y.weight *ℤ of y.answer +ℤ s) (cited_sum-push of xs x) ∙ regroup (y.weight *ℤ of y.answer) (cited_sum of xs) (x.weight *ℤ of x.answer)
  where
    regroup : (a b c : ℤ) → a +ℤ (b +ℤ c) ≡ (a +ℤ b) +ℤ c
    regroup a b c = omega (arith, sums)

-- the cites of the first `held` answers, which have `taken` of the weighted rows; the next answer's first row is `row`
pub record CitedSoFar (answers : List Answer) (rows : List RowWeight) (held row taken : ℕ) (cites : List Cite) : Type 0 where
  pub most : held ≤ length answers
  pub row_is : row ≡ rows_in (take held answers) + 1
  pub within : taken ≤ length rows
  pub later : AreFrom rows taken row
  pub few : length cites ≤ taken
  pub each : All IsCite cites
  pub ascending : IsStrictlyIncreasing (map (λ cite. cite.answer) cites)
  pub below : All (λ cite. cite.answer ≤ held) cites
  pub weights : EachMayWeigh answers cites
  pub summed : (of : ℕ → ℤ) → IsOpposed answers of → cited_sum (λ number. of (first_row answers number)) cites ≡ weighted of (take taken rows)

pub cited_none : (answers : List Answer) (rows : List RowWeight) → AreRowWeights rows → CitedSoFar answers rows 0 1 0 []
cited_none answers rows are = record {
  most = omega arith;
  row_is = refl;
  within = omega arith;
  later = λ place le lt. (are.each place no_weight lt).numbered;
  few = omega arith;
  each = All-nil IsCite;
  ascending = λ k lt. absurd (omega arith);
  below = All-nil (λ cite. cite.answer ≤ 0);
  weights = All-nil (λ cite. MayWeigh (cited_side answers cite) cite.weight);
  summed = λ of opposed. refl;
}

-- ---- one answer more

pub rows_in-more : (answers : List Answer) (held : ℕ) (answer : Answer) → held < length answers → slice_get answers held ≡ Some answer
    → rows_in (take (held + 1) answers) ≡ rows_in (take held answers) + rows_for answer.side
rows_in-more answers held answer lt here =
    sum_by_more (λ (a : Answer). rows_for a.side) answers held answer lt
    ∙ ap (λ (a : Answer). rows_in (take held answers) + rows_for a.side) (get_or_from_slice_get answers held answer answer here)

pub rows_in-take-le : (answers : List Answer) (held : ℕ) → rows_in (take held answers) ≤ rows_in answers
rows_in-take-le answers held = sum_by-take-le (λ (a : Answer). rows_for a.side) answers held

module _ (answers : List Answer) (rows : List RowWeight) (held row taken more : ℕ) (cites : List Cite) (answer : Answer) (weight : ℤ)
    (lt : held < length answers) (here : slice_get answers held ≡ Some answer) (takes : TakesRanking rows taken row answer.side weight more) (so : CitedSoFar answers rows held row taken cites) where
  abbrev cite : Cite
  cite = record { answer = held + 1; weight = weight }

  place : held + 1 - 1 ≡ held
  place = omega arith

  row_is : row + rows_for answer.side ≡ rows_in (take (held + 1) answers) + 1
  row_is = omega (arith, so.row_is, rows_in-more answers held answer lt here)

  first : first_row answers (held + 1) ≡ row
  first = ap (λ (n : ℕ). rows_in (take n answers) + 1) place ∙ sym so.row_is

  at : slice_get answers (held + 1 - 1) ≡ Some answer
  at = ap (slice_get answers) place ∙ here

  opposed_here : (of : ℕ → ℤ) → IsOpposed answers of → answer.side ≡ Equal → of (row + 1) ≡ neg_ℤ (of row)
  opposed_here of opposed equal = ap (λ (n : ℕ). of (n + 1)) (sym first) ∙ opposed (held + 1) answer at equal ∙ ap (λ (n : ℕ). neg_ℤ (of n)) first

  sum_here : (of : ℕ → ℤ) → IsOpposed answers of → cited_sum (λ number. of (first_row answers number)) cites +ℤ weight *ℤ of (first_row answers (held + 1)) ≡ weighted of (take (taken + more) rows)
  sum_here of opposed =
      ap (λ (s : ℤ). s +ℤ weight *ℤ of (first_row answers (held + 1))) (so.summed of opposed)
      ∙ ap (λ (n : ℕ). weighted of (take taken rows) +ℤ weight *ℤ of n) first
      ∙ sym (takes.sum of (opposed_here of opposed))

  side_here : cited_side answers cite ≡ answer.side
  side_here = ap (λ (o : Option Answer). option_map_or (λ a. a.side) o Equal) at

  cited_some : is_weight weight ≡ true → CitedSoFar answers rows (held + 1) (row + rows_for answer.side) (taken + more) (cites ++ cite ∷ [])
  cited_some e = record {
    most = omega arith;
    row_is = row_is;
    within = takes.within;
    later = takes.later;
    few = let counted = takes.counted e in omega (arith, so.few, length-append cites (cite ∷ []));
    each = All-push IsCite cites cite so.each (record {
      numbered = omega arith;
      weighed = λ z. absurd (true≢false (sym e ∙ ap is_weight z));
      within = takes.size;
    });
    ascending = subst IsStrictlyIncreasing (sym (map-append (λ (c : Cite). c.answer) cites (cite ∷ [])))
        (increasing_push (map (λ (c : Cite). c.answer) cites) (held + 1) so.ascending
        (All-from_get_or (λ y. y < held + 1) (map (λ (c : Cite). c.answer) cites) 0 (λ k l.
        let short : k < length cites = omega (arith, length-map cites (λ (c : Cite). c.answer)) in
        let b = so.below k no_cite short in
        omega (arith, get_or-map (λ (c : Cite). c.answer) cites k no_cite 0 short))));
    below = All-push (λ c. c.answer ≤ held + 1) cites cite (λ k d l. let b = so.below k d l in omega arith) (omega arith);
    weights = All-push (λ c. MayWeigh (cited_side answers c) c.weight) cites cite so.weights (subst (λ (s : Side). MayWeigh s weight) (sym side_here) takes.may);
    summed = λ of opposed. cited_sum-push (λ number. of (first_row answers number)) cites cite ∙ sum_here of opposed;
  }

  cited_same : is_weight weight ≡ false → CitedSoFar answers rows (held + 1) (row + rows_for answer.side) (taken + more) cites
  cited_same e = record {
    most = omega arith;
    row_is = row_is;
    within = takes.within;
    later = takes.later;
    few = omega (arith, so.few);
    each = so.each;
    ascending = so.ascending;
    below = λ k d l. let b = so.below k d l in omega arith;
    weights = so.weights;
    summed = λ of opposed. nothing (cited_sum (λ number. of (first_row answers number)) cites) weight (of (first_row answers (held + 1))) e ∙ sum_here of opposed;
  }
    where
      nothing : (a w x : ℤ) → is_weight w ≡ false → a ≡ a +ℤ w *ℤ x
      nothing a (pos zero) x f = omega (arith, ints)
      nothing a (pos (suc w)) x f = absurd (true≢false f)
      nothing a (negsuc w) x f = absurd (true≢false f)

  pub cited_more : CitedSoFar answers rows (held + 1) (row + rows_for answer.side) (taken + more) (with_cite cites (held + 1) weight)
  cited_more = from (cases_Bool (is_weight weight))
    where
      from : (is_weight weight ≡ true) ⊎ (is_weight weight ≡ false) → CitedSoFar answers rows (held + 1) (row + rows_for answer.side) (taken + more) (with_cite cites (held + 1) weight)
      from (inl e) = subst (λ (b : Bool). CitedSoFar answers rows (held + 1) (row + rows_for answer.side) (taken + more) (cond b (cites ++ cite ∷ []) cites)) (sym e) (cited_some e)
      from (inr e) = subst (λ (b : Bool). CitedSoFar answers rows (held + 1) (row + rows_for answer.side) (taken + more) (cond b (cites ++ cite ∷ []) cites)) (sym e) (cited_same e)

-- ---- after the last answer

take_all : {X : Type 0} (xs : List X) (n : ℕ) → length xs ≤ n → take n xs ≡ xs
take_all {X = X} [] zero le = refl
take_all {X = X} [] (suc n) le = refl
take_all {X = X} (x ∷ xs) zero le = absurd (omega arith)
take_all {X = X} (x ∷ xs) (suc n) le = ap (λ (l : List X). x ∷ l) (take_all xs n (omega arith))

pub cited_are : (answers : List Answer) (rows : List RowWeight) (held row taken : ℕ) (cites : List Cite) → length rows ≤ 24 → CitedSoFar answers rows held row taken cites → AreCites cites
cited_are answers rows held row taken cites few so = record { most = omega (arith, so.few, so.within); each = so.each; ascending = so.ascending }

pub cited_all : (answers : List Answer) (rows : List RowWeight) (held row taken : ℕ) (cites : List Cite) → length answers ≤ held → All (λ item. item.row ≤ rows_in answers) rows
    → CitedSoFar answers rows held row taken cites → CitesRows answers rows cites
cited_all answers rows held row taken cites past within so = record {
  cited = λ k d l. ((so.each k d l).numbered, let b = so.below k d l in omega (arith, so.most));
  weights = so.weights;
  few = omega (arith, so.few, so.within);
  sums = λ of opposed. so.summed of opposed ∙ ap (weighted of) (take_all rows taken (all_taken (cases_Bool (nat_lt taken (length rows)))));
}
  where
    beyond : row ≡ rows_in answers + 1
    beyond = so.row_is ∙ ap (λ (l : List Answer). rows_in l + 1) (take_all answers held past)

    all_taken : (nat_lt taken (length rows) ≡ true) ⊎ (nat_lt taken (length rows) ≡ false) → length rows ≤ taken
    all_taken (inl e) =
        let lt : taken < length rows = ltb-true taken (length rows) e in
        let low = so.later taken (omega arith) lt in
        let high = within taken no_weight lt in
        omega (arith, beyond)
    all_taken (inr e) = ltb-false taken (length rows) e

-- the number of the next answer's first row
pub next_row : (answers : List Answer) (rows : List RowWeight) (held row taken : ℕ) (cites : List Cite) (answer : Answer) → held < length answers → slice_get answers held ≡ Some answer
    → CitedSoFar answers rows held row taken cites → row + rows_for answer.side ≤ rows_in answers + 1
next_row answers rows held row taken cites answer lt here so = omega (arith, so.row_is, rows_in-more answers held answer lt here, rows_in-take-le answers (held + 1))
