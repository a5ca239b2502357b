-- Numbers, rows and combinations whose signs are turned together.
use Rattle.std.proofs.Common.{◌≡◌, ◌≢◌, ◌∙◌, ℕ, zero, suc, ◌<◌, ℤ, pos, negsuc, neg_ℤ, ◌-ℤ◌, ◌*ℤ◌, ◌≤ℤ◌, unsigned_abs, List, [], ◌∷◌, length, map, get_or, sym, ap, subst, refl, arith}
use Rattle.std.proofs.lemmas.List.{map-id, length-map}
use Rattle.std.proofs.lemmas.Int.{ints}
use Rattle.std.proofs.Math.ListN.{get_or-map as get_or-map_default}
use Rattle.row_laws.specs.Rows.{entry}
use Rattle.minors.specs.Combination.{IsCombination, IsScale, ExchangesFactors, IsLeaving}
use Rattle.minors.proofs.Laws.{negated_combination, negated_scale}
use Rattle.row_laws.proofs.Integers.{sums, neg-mul, mul-neg}
use Rattle.std.proofs.Math.IntN.{*ℤ_comm}
use Rattle.fraction_free.specs.Changes.{with_sign, IsOtherLine, IsPivotLine}

pub with_sign-twice : (p y : ℤ) → with_sign p (with_sign p y) ≡ y
with_sign-twice (pos n) y = refl
with_sign-twice (negsuc n) y = omega (arith, ints)

pub with_sign-zero : (p : ℤ) → with_sign p (pos 0) ≡ pos 0
with_sign-zero (pos n) = refl
with_sign-zero (negsuc n) = refl

pub with_sign-mul : (p y s : ℤ) → with_sign p y *ℤ s ≡ with_sign p (y *ℤ s)
with_sign-mul (pos n) y s = refl
with_sign-mul (negsuc n) y s = neg-mul y s

-- the sign goes into the first factor of each product
pub with_sign-difference : (p x f y : ℤ) → with_sign p p *ℤ x -ℤ with_sign p f *ℤ y ≡ with_sign p (p *ℤ x -ℤ f *ℤ y)
with_sign-difference (pos n) x f y = refl
with_sign-difference (negsuc n) x f y = let h = neg-mul (negsuc n) x in let k = neg-mul f y in omega (arith, sums)

pub with_sign-abs : (p y : ℤ) → unsigned_abs (with_sign p y) ≡ unsigned_abs y
with_sign-abs (pos n) y = refl
with_sign-abs (negsuc n) y = omega (arith, ints)

pub with_sign-self : (p : ℤ) → p ≢ pos 0 → pos 1 ≤ℤ with_sign p p
with_sign-self (pos zero) h = absurd (h refl)
with_sign-self (pos (suc n)) h = omega (arith, ints)
with_sign-self (negsuc n) h = omega (arith, ints)

pub with_sign-nonzero : (p y : ℤ) → y ≢ pos 0 → with_sign p y ≢ pos 0
with_sign-nonzero p y h e = h (sym (with_sign-twice p y) ∙ ap (with_sign p) e ∙ with_sign-zero p)

-- a row's signs turned
abbrev pub turn : ℤ → List ℤ → List ℤ
turn p xs = map (with_sign p) xs

pub turn_at : (p : ℤ) (xs : List ℤ) (k : ℕ) → entry (turn p xs) k ≡ with_sign p (entry xs k)
turn_at p xs k = ap (λ (d : ℤ). get_or (turn p xs) k d) (sym (with_sign-zero p)) ∙ get_or-map_default (with_sign p) xs k (pos 0)

pub turn-twice : (p : ℤ) (xs : List ℤ) → turn p (turn p xs) ≡ xs
turn-twice p [] = refl
turn-twice p (x ∷ xs) = ap (λ (n : ℤ). n ∷ turn p (turn p xs)) (with_sign-twice p x) ∙ ap (λ (ns : List ℤ). x ∷ ns) (turn-twice p xs)

pub turned_combination : (p s : ℤ) (row factors : List ℤ) (rows : List (List ℤ)) → IsCombination s row factors rows → IsCombination (with_sign p s) row (turn p factors) rows
turned_combination (pos n) s row factors rows h = subst (λ (fs : List ℤ). IsCombination s row fs rows) (sym (map-id factors)) h
turned_combination (negsuc n) s row factors rows h = negated_combination s row factors rows h

pub turned_scale : (p s : ℤ) (rows : List (List ℤ)) → IsScale s rows → IsScale (with_sign p s) rows
turned_scale (pos n) s rows h = h
turned_scale (negsuc n) s rows h = negated_scale s rows h

-- a line whose signs were turned, from the combination that has them as they were
pub combination_of_turned : (p s : ℤ) (row factors : List ℤ) (rows : List (List ℤ)) → IsCombination s row (turn p factors) rows → IsCombination (with_sign p s) row factors rows
combination_of_turned p s row factors rows h =
    subst (λ (fs : List ℤ). IsCombination (with_sign p s) row fs rows) (turn-twice p factors) (turned_combination p s row (turn p factors) rows h)

pub turned_of_combination : (p s : ℤ) (row factors : List ℤ) (rows : List (List ℤ)) → IsCombination (with_sign p s) row factors rows → IsCombination s row (turn p factors) rows
turned_of_combination p s row factors rows h =
    subst (λ (t : ℤ). IsCombination t row (turn p factors) rows) (with_sign-twice p s) (turned_combination p (with_sign p s) row factors rows h)

-- ---- a pivot's lines, as the laws of minors have them: with the signs turned back

pub pivoted_of : (s : ℤ) (column : ℕ) (pivot old new : List ℤ) → IsOtherLine s column pivot old new → ExchangesFactors s column pivot old (turn (entry pivot column) new)
pivoted_of s column pivot old new h =
    let p = entry pivot column in
    record {
      len = length-map new (with_sign p) ∙ h.len;
      kept = turn_at p new column ∙ ap (with_sign p) h.kept ∙ with_sign-twice p (entry old column);
      divided = λ other below apart.
          let difference = p *ℤ entry old other -ℤ entry old column *ℤ entry pivot other in
          ap (λ (n : ℤ). n *ℤ s) (turn_at p new other) ∙ with_sign-mul p (entry new other) s ∙ ap (with_sign p) (h.divided other below apart) ∙ with_sign-twice p difference;
    }

pub leaving_of : (s : ℤ) (column : ℕ) (pivot new : List ℤ) → IsPivotLine s column pivot new → IsLeaving s column pivot (turn (entry pivot column) new)
leaving_of s column pivot new h =
    let p = entry pivot column in
    record {
      len = length-map new (with_sign p) ∙ h.len;
      kept = turn_at p new column ∙ ap (with_sign p) h.kept ∙ with_sign-twice p s;
      negated = λ other below apart. turn_at p new other ∙ ap (with_sign p) (h.negated other below apart) ∙ with_sign-twice p (neg_ℤ (entry pivot other)) ∙ less (entry pivot other);
    }
  where
    less : (n : ℤ) → neg_ℤ n ≡ pos 0 -ℤ n
    less n = omega (arith, ints)

back_step : (q s p r f y u : ℤ) → q *ℤ s ≡ p *ℤ r -ℤ f *ℤ y → u ≡ pos 0 -ℤ y → r *ℤ p ≡ s *ℤ q -ℤ f *ℤ u
back_step q s p r f y u h e =
    let k : f *ℤ u ≡ neg_ℤ (f *ℤ y) = ap (λ (n : ℤ). f *ℤ n) (e ∙ turned y) ∙ mul-neg f y in
    omega (arith, sums, *ℤ_comm r p, *ℤ_comm s q)
  where
    turned : (n : ℤ) → pos 0 -ℤ n ≡ neg_ℤ n
    turned n = omega (arith, ints)

-- the same pivot on the new lines gives back the old ones
pub pivoted_back : (s : ℤ) (column : ℕ) (pivot old turned left : List ℤ) → ExchangesFactors s column pivot old turned → IsLeaving s column pivot left → length pivot ≡ length old
    → ExchangesFactors (entry pivot column) column left turned old
pivoted_back s column pivot old turned left h l same = record {
  len = sym h.len;
  kept = sym h.kept;
  divided = λ other below apart.
      let inside : other < length old = omega (arith, h.len) in
      back_step (entry turned other) s (entry pivot column) (entry old other) (entry old column) (entry pivot other) (entry left other)
      (h.divided other inside apart) (l.negated other (omega arith) apart)
      ∙ ap (λ (n : ℤ). n *ℤ entry turned other -ℤ entry old column *ℤ entry left other) (sym l.kept)
      ∙ ap (λ (n : ℤ). entry left column *ℤ entry turned other -ℤ n *ℤ entry left other) (sym h.kept);
}

pub leaving_back : (s : ℤ) (column : ℕ) (pivot left : List ℤ) → IsLeaving s column pivot left → IsLeaving (entry pivot column) column left pivot
leaving_back s column pivot left l = record {
  len = sym l.len;
  kept = refl;
  negated = λ other below apart. back (entry left other) (entry pivot other) (l.negated other (omega (arith, l.len)) apart);
}
  where
    back : (u y : ℤ) → u ≡ pos 0 -ℤ y → y ≡ pos 0 -ℤ u
    back u y h = omega (arith, ints)
