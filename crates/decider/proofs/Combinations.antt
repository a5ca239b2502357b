-- The combination of a clash, put together.
use Rattle.std.proofs.Common.{◌≡◌, ℕ, ◌+◌, ◌-◌, ◌^◌, ◌<◌, ◌≤◌, List, [], ◌∷◌, ◌++◌, length, map, get_or, take, ℤ, pos, ◌*ℤ◌, unsigned_abs, refl, sym, ap, subst, ◌∙◌, arith}
use Rattle.std.specs.Prelude.{All, slice_index}
use Rattle.std.specs.Int.{◌∣◌}
use Rattle.std.proofs.lemmas.List.{get_or-map, get_or-take, length-map, length-take-le, map-append}
use Rattle.std.proofs.lemmas.List.Elements.{All-tail, All-take, All-from_get_or}
use Rattle.criteria_model.specs.declared.pairs.Answer.{Answer}
use Rattle.row_laws.specs.Rows.{times}
use Rattle.farkas_check.specs.declared.cites.Cite.{Cite}
use Rattle.farkas_check.specs.Cited.{no_cite}
use Rattle.simplex.specs.declared.row_weights.RowWeight.{RowWeight}
use Rattle.simplex.specs.declared.found.Clash.{Clash}
use Rattle.simplex.specs.Rows.{IsCoprime}
use Rattle.simplex.specs.Weights.{IsRowWeight, AreRowWeights, no_weight}
use Rattle.simplex.proofs.Quotients.{factor_small, quotient_is_coprime}
use Rattle.decider.specs.Combining.{rows_in, row_at, CitesRows, IsGreatestDivisor, times_cites, EndsWithTried, Combines}
use Rattle.decider.proofs.AnswerRows.{All-first, All-later}
use Rattle.decider.proofs.Walks.{rows_apart}

-- ---- the rows before the last one

pub front_are : (rows : List RowWeight) (n : ℕ) → n ≤ length rows → AreRowWeights rows → AreRowWeights (take n rows)
front_are rows n le are = record {
  most = omega (arith, len, are.most);
  each = All-take IsRowWeight n rows are.each;
  ascending = λ k lt.
      let short : k + 1 < n = omega (arith, len, length-map (take n rows) (λ (item : RowWeight). item.row)) in
      let apart = rows_apart rows are k (k + 1) (omega arith) (omega arith) in
      omega (arith, at k (omega arith), at (k + 1) short, apart);
}
  where
    len : length (take n rows) ≡ n
    len = length-take-le n rows le

    at : (k : ℕ) → k < n → slice_index (map (λ item. item.row) (take n rows)) k ≡ row_at rows k
    at k lt = get_or-map (λ item. item.row) (take n rows) k no_weight 0 (omega (arith, len)) ∙ ap (λ (item : RowWeight). item.row) (get_or-take n rows k no_weight lt)

pub front_within : (answers : List Answer) (rows : List RowWeight) → AreRowWeights rows → EndsWithTried answers rows → All (λ item. item.row ≤ rows_in answers) (take (length rows - 1) rows)
front_within answers rows are ends =
    All-from_get_or (λ item. item.row ≤ rows_in answers) (take (length rows - 1) rows) no_weight (λ k lt.
    let short : k < length rows - 1 = omega (arith, length-take-le (length rows - 1) rows (omega arith)) in
    let apart = rows_apart rows are k (length rows - 1) short (let s = ends.some in omega arith) in
    omega (arith, ap (λ (item : RowWeight). item.row) (get_or-take (length rows - 1) rows k no_weight short), ends.last))

-- ---- what divides the numbers

pub divides_increments : (d : ℕ) (scale : ℤ) (increments : List ℤ) (cites : List Cite) → All (λ x. d ∣ unsigned_abs x) (scale ∷ increments ++ map (λ cite. cite.weight) cites)
    → All (λ x. d ∣ unsigned_abs x) increments
divides_increments d scale increments cites all =
    All-first (λ x. d ∣ unsigned_abs x) increments (map (λ cite. cite.weight) cites) (All-tail (λ x. d ∣ unsigned_abs x) scale (increments ++ map (λ cite. cite.weight) cites) all)

pub divides_cites : (d : ℕ) (scale : ℤ) (increments : List ℤ) (cites : List Cite) → All (λ x. d ∣ unsigned_abs x) (scale ∷ increments ++ map (λ cite. cite.weight) cites)
    → All (λ cite. d ∣ unsigned_abs cite.weight) cites
divides_cites d scale increments cites all =
    let weights : All (λ x. d ∣ unsigned_abs x) (map (λ cite. cite.weight) cites) =
    All-later (λ x. d ∣ unsigned_abs x) increments (map (λ cite. cite.weight) cites) (All-tail (λ x. d ∣ unsigned_abs x) scale (increments ++ map (λ cite. cite.weight) cites) all) in
    All-from_get_or (λ cite. d ∣ unsigned_abs cite.weight) cites no_cite (λ k lt.
    subst (λ (n : ℤ). d ∣ unsigned_abs n) (get_or-map (λ cite. cite.weight) cites k no_cite (pos 0) lt) (weights k (pos 0) (omega (arith, length-map cites (λ (cite : Cite). cite.weight)))))

-- ---- the parts over the divisor

weights_multiple : (g : ℤ) (list : List Cite) → map (λ cite. cite.weight) (times_cites g list) ≡ times g (map (λ cite. cite.weight) list)
weights_multiple g [] = refl
weights_multiple g (cite ∷ list) = ap (λ (l : List ℤ). (g *ℤ cite.weight) ∷ l) (weights_multiple g list)

-- the clash's numbers, the divisor, and the numbers over it
pub record AreDivided (weight : ℤ) (increments : List ℤ) (cites : List Cite) (divisor scale : ℤ) (own : List ℤ) (list : List Cite) : Type 0 where
  pub greatest : IsGreatestDivisor (weight ∷ increments ++ map (λ cite. cite.weight) cites) divisor
  pub scale_is : divisor *ℤ scale ≡ weight
  pub own_are : increments ≡ times divisor own
  pub cites_are : cites ≡ times_cites divisor list

numbers_multiple : (weight : ℤ) (increments : List ℤ) (cites : List Cite) (divisor scale : ℤ) (own : List ℤ) (list : List Cite) → AreDivided weight increments cites divisor scale own list
    → weight ∷ increments ++ map (λ cite. cite.weight) cites ≡ times divisor (scale ∷ own ++ map (λ cite. cite.weight) list)
numbers_multiple weight increments cites divisor scale own list are =
    ap (λ (n : ℤ). n ∷ increments ++ map (λ cite. cite.weight) cites) (sym are.scale_is)
    ∙ ap (λ (l : List ℤ). (divisor *ℤ scale) ∷ l ++ map (λ cite. cite.weight) cites) are.own_are
    ∙ ap (λ (l : List Cite). (divisor *ℤ scale) ∷ times divisor own ++ map (λ cite. cite.weight) l) are.cites_are
    ∙ ap (λ (l : List ℤ). (divisor *ℤ scale) ∷ times divisor own ++ l) (weights_multiple divisor list)
    ∙ ap (λ (l : List ℤ). (divisor *ℤ scale) ∷ l) (sym (map-append (λ (x : ℤ). divisor *ℤ x) own (map (λ cite. cite.weight) list)))

pub divided_has_no_divisor : (weight : ℤ) (increments : List ℤ) (cites : List Cite) (divisor scale : ℤ) (own : List ℤ) (list : List Cite) → AreDivided weight increments cites divisor scale own list
    → IsCoprime (scale ∷ own ++ map (λ cite. cite.weight) list)
divided_has_no_divisor weight increments cites divisor scale own list are =
    quotient_is_coprime (weight ∷ increments ++ map (λ cite. cite.weight) cites) (scale ∷ own ++ map (λ cite. cite.weight) list) divisor are.greatest.positive
    (numbers_multiple weight increments cites divisor scale own list are) are.greatest.greatest

pub divided_scale_small : (weight : ℤ) (increments : List ℤ) (cites : List Cite) (divisor scale : ℤ) (own : List ℤ) (list : List Cite)
    → AreDivided weight increments cites divisor scale own list → unsigned_abs weight < 2 ^ 96
    → unsigned_abs scale < 2 ^ 96
divided_scale_small weight increments cites divisor scale own list are small =
    let le = factor_small divisor scale weight are.greatest.positive are.scale_is in omega arith

pub divided_combines : (answers : List Answer) (clash : Clash) (rows : List RowWeight) (increments : List ℤ) (cites : List Cite) (divisor scale : ℤ) (own : List ℤ) (list : List Cite)
    → rows ≡ clash.rows → increments ≡ clash.increments → CitesRows answers (take (length rows - 1) rows) cites
    → AreDivided (get_or rows (length rows - 1) no_weight).weight increments cites divisor scale own list
    → Combines answers clash (record { scale = scale; increments = own; answers = list })
divided_combines answers clash rows increments cites divisor scale own list er ei cited are = record {
  divisor = divisor;
  positive = are.greatest.positive;
  increments = sym ei ∙ are.own_are;
  scale = ap (λ (l : List RowWeight). (get_or l (length l - 1) no_weight).weight) (sym er) ∙ sym are.scale_is;
  cites = subst (λ (l : List RowWeight). CitesRows answers (take (length l - 1) l) (times_cites divisor list)) er
      (subst (CitesRows answers (take (length rows - 1) rows)) are.cites_are cited);
}
