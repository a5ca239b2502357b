-- The numbers of a combination over their greatest common divisor.
use Rattle.std.proofs.Common.{◌≡◌, ◌≢◌, ℕ, zero, suc, ◌+◌, ◌^◌, ◌<◌, ◌≤◌, Bool, true, cond, List, [], ◌∷◌, ◌++◌, length, map, get_or, take, ℤ, pos, negsuc, ◌*ℤ◌, ◌≤ℤ◌, unsigned_abs, refl, sym, ap, subst, ◌∙◌, arith, below_more}
use Rattle.std.specs.Prelude.{All}
use Rattle.std.specs.Int.{◌∣◌, IsGcd}
use Rattle.std.specs.List.Sorted.{IsStrictlyIncreasing}
use Rattle.std.proofs.Math.Nat.{eq-zero_of_zero-dvd}
use Rattle.std.proofs.lemmas.Int.{ints}
use Rattle.std.proofs.lemmas.Nat.Gcd.{dvd_trans}
use Rattle.std.proofs.lemmas.List.{get_or-map, length-map, length-take-le, map-append, take_more, take_all}
use Rattle.std.proofs.lemmas.List.Elements.{All-cons, All-head, All-tail, All-append, All-map, All-from_get_or}
use Rattle.row_laws.proofs.Integers.{mul-zero}
use Rattle.farkas_check.specs.declared.cites.Cite.{Cite}
use Rattle.farkas_check.specs.Cited.{IsCite, AreCites, no_cite}
use Rattle.simplex.specs.Weights.{is_weight}
use Rattle.simplex.proofs.Quotients.{factor_small}
use Rattle.decider.specs.Combining.{with_cite, IsGreatestDivisor, times_cites}
use Rattle.decider.proofs.AnswerRows.{All-first, All-later}

-- ---- the greatest common divisor

-- the divisor of the scale, of the increments' weights and of the first cites' weights
pub record DividesSoFar (scale : ℤ) (increments : List ℤ) (cites : List Cite) (index : ℕ) (divisor : ℤ) : Type 0 where
  pub most : index ≤ length cites
  pub positive : pos 1 ≤ℤ divisor
  pub size : unsigned_abs divisor < 2 ^ 126
  pub of_scale : unsigned_abs divisor ∣ unsigned_abs scale
  pub of_increments : All (λ x. unsigned_abs divisor ∣ unsigned_abs x) increments
  pub of_cites : (k : ℕ) → k < index → unsigned_abs divisor ∣ unsigned_abs (get_or cites k no_cite).weight
  pub greatest : (d : ℕ) → d ∣ unsigned_abs scale → All (λ x. d ∣ unsigned_abs x) increments
      → ((k : ℕ) → k < index → d ∣ unsigned_abs (get_or cites k no_cite).weight) → d ∣ unsigned_abs divisor

divisor_of_positive : (r a : ℤ) → pos 0 ≤ℤ r → pos 1 ≤ℤ a → unsigned_abs r ∣ unsigned_abs a → pos 1 ≤ℤ r
divisor_of_positive (negsuc r) a h k d = absurd (omega (arith, ints))
divisor_of_positive (pos (suc r)) a h k d = omega (arith, ints)
divisor_of_positive (pos zero) a h k d = absurd (contradict a (eq-zero_of_zero-dvd d) k)
  where
    contradict : (a : ℤ) → unsigned_abs a ≡ 0 → pos 1 ≤ℤ a → ⊥
    contradict (pos a) e h = omega (arith, ints)
    contradict (negsuc a) e h = omega (arith, ints)

pub divides_first : (scale read g read_g r : ℤ) (increments : List ℤ) (cites : List Cite) → pos 1 ≤ℤ scale → All (λ x. unsigned_abs g ∣ unsigned_abs x) increments
    → ((d : ℕ) → All (λ x. d ∣ unsigned_abs x) increments → d ∣ unsigned_abs g)
    → read ≡ scale → read_g ≡ g → IsGcd (unsigned_abs read) (unsigned_abs read_g) (unsigned_abs r) → pos 0 ≤ℤ r → unsigned_abs r < 2 ^ 126 → DividesSoFar scale increments cites 0 r
divides_first scale read g read_g r increments cites positive divides greatest e f is nonneg size = record {
  most = omega arith;
  positive = divisor_of_positive r scale nonneg positive of_scale;
  size = size;
  of_scale = of_scale;
  of_increments = λ k x lt. dvd_trans (unsigned_abs r) (subst (λ (n : ℤ). unsigned_abs r ∣ unsigned_abs n) f is.1) (divides k x lt);
  of_cites = λ k lt. absurd (omega arith);
  greatest = λ d scale_too increments_too cites_too. is.2 d (subst (λ (n : ℤ). d ∣ unsigned_abs n) (sym e) scale_too) (subst (λ (n : ℤ). d ∣ unsigned_abs n) (sym f) (greatest d increments_too));
}
  where
    of_scale : unsigned_abs r ∣ unsigned_abs scale
    of_scale = subst (λ (n : ℤ). unsigned_abs r ∣ unsigned_abs n) e is.0

pub divides_next : (scale g read r : ℤ) (increments : List ℤ) (cites : List Cite) (index : ℕ) → index < length cites → read ≡ (get_or cites index no_cite).weight
    → IsGcd (unsigned_abs g) (unsigned_abs read) (unsigned_abs r) → pos 0 ≤ℤ r → unsigned_abs r < 2 ^ 126 → pos 1 ≤ℤ scale
    → DividesSoFar scale increments cites index g → DividesSoFar scale increments cites (index + 1) r
divides_next scale g read r increments cites index lt e is nonneg size positive so = record {
  most = omega arith;
  positive = divisor_of_positive r scale nonneg positive (dvd_trans (unsigned_abs r) is.0 so.of_scale);
  size = size;
  of_scale = dvd_trans (unsigned_abs r) is.0 so.of_scale;
  of_increments = λ k x lt. dvd_trans (unsigned_abs r) is.0 (so.of_increments k x lt);
  of_cites = below_more (λ k. unsigned_abs r ∣ unsigned_abs (get_or cites k no_cite).weight) index (λ k lt. dvd_trans (unsigned_abs r) is.0 (so.of_cites k lt))
      (subst (λ (n : ℤ). unsigned_abs r ∣ unsigned_abs n) e is.1);
  greatest = λ d scale_too increments_too cites_too. is.2 d (so.greatest d scale_too increments_too (λ k lt. cites_too k (omega arith)))
      (subst (λ (n : ℤ). d ∣ unsigned_abs n) (sym e) (cites_too index (omega arith)));
}

pub divides_all : (scale g : ℤ) (increments : List ℤ) (cites : List Cite) (index : ℕ) → length cites ≤ index → DividesSoFar scale increments cites index g
    → IsGreatestDivisor (scale ∷ increments ++ map (λ cite. cite.weight) cites) g
divides_all scale g increments cites index past so = record {
  positive = so.positive;
  size = so.size;
  divides = All-cons (λ x. unsigned_abs g ∣ unsigned_abs x) scale (increments ++ map (λ cite. cite.weight) cites) so.of_scale
      (All-append (λ x. unsigned_abs g ∣ unsigned_abs x) increments (map (λ cite. cite.weight) cites) so.of_increments
      (All-map (λ x. unsigned_abs g ∣ unsigned_abs x) (λ cite. cite.weight) cites
      (All-from_get_or (λ cite. unsigned_abs g ∣ unsigned_abs cite.weight) cites no_cite (λ k lt. so.of_cites k (omega arith)))));
  greatest = λ d all.
      let rest : All (λ x. d ∣ unsigned_abs x) (increments ++ map (λ cite. cite.weight) cites) = All-tail (λ x. d ∣ unsigned_abs x) scale (increments ++ map (λ cite. cite.weight) cites) all in
      so.greatest d (All-head (λ x. d ∣ unsigned_abs x) scale (increments ++ map (λ cite. cite.weight) cites) all)
      (All-first (λ x. d ∣ unsigned_abs x) increments (map (λ cite. cite.weight) cites) rest)
      (λ k lt. of_map d (All-later (λ x. d ∣ unsigned_abs x) increments (map (λ cite. cite.weight) cites) rest) k (let m = so.most in omega arith));
}
  where
    of_map : (d : ℕ) → All (λ x. d ∣ unsigned_abs x) (map (λ cite. cite.weight) cites) → (k : ℕ) → k < length cites → d ∣ unsigned_abs (get_or cites k no_cite).weight
    of_map d all k lt =
        subst (λ (n : ℤ). d ∣ unsigned_abs n) (get_or-map (λ cite. cite.weight) cites k no_cite (pos 0) lt)
        (all k (pos 0) (omega (arith, length-map cites (λ (cite : Cite). cite.weight))))

-- ---- the quotients

-- the first cites, over the divisor
pub record DividedSoFar (divisor : ℤ) (cites : List Cite) (index : ℕ) (list : List Cite) : Type 0 where
  pub most : index ≤ length cites
  pub is : times_cites divisor list ≡ take index cites

pub length-divided : (divisor : ℤ) (cites : List Cite) (index : ℕ) (list : List Cite) → DividedSoFar divisor cites index list → length list ≡ index
length-divided divisor cites index list so =
    sym (length-map list (λ (cite : Cite). record { answer = cite.answer; weight = divisor *ℤ cite.weight })) ∙ ap length so.is ∙ length-take-le index cites so.most

pub divided_none : (divisor : ℤ) (cites : List Cite) → DividedSoFar divisor cites 0 []
divided_none divisor cites = record { most = omega arith; is = refl }

quotient_weighs : (g q w : ℤ) → g *ℤ q ≡ w → w ≢ pos 0 → is_weight q ≡ true
quotient_weighs g q w e ne = from q refl
  where
    from : (p : ℤ) → q ≡ p → is_weight p ≡ true
    from (pos zero) z = absurd (ne (sym e ∙ ap (λ (n : ℤ). g *ℤ n) z ∙ mul-zero g))
    from (pos (suc p)) z = refl
    from (negsuc p) z = refl

pub divided_more : (divisor quotient : ℤ) (cites list : List Cite) (index : ℕ) (cite : Cite) → index < length cites → get_or cites index no_cite ≡ cite → divisor *ℤ quotient ≡ cite.weight
    → IsCite cite
    → DividedSoFar divisor cites index list → DividedSoFar divisor cites (index + 1) (with_cite list cite.answer quotient)
divided_more divisor quotient cites list index cite lt here exact is so = record {
  most = omega arith;
  is = ap (λ (b : Bool). times_cites divisor (cond b (list ++ (record { answer = cite.answer; weight = quotient }) ∷ []) list)) (quotient_weighs divisor quotient cite.weight exact is.weighed)
      ∙ map-append (λ (c : Cite). record { answer = c.answer; weight = divisor *ℤ c.weight }) list ((record { answer = cite.answer; weight = quotient }) ∷ [])
      ∙ ap (λ (l : List Cite). l ++ (record { answer = cite.answer; weight = divisor *ℤ quotient }) ∷ []) so.is
      ∙ ap (λ (w : ℤ). take index cites ++ (record { answer = cite.answer; weight = w }) ∷ []) exact
      ∙ ap (λ (c : Cite). take index cites ++ c ∷ []) (sym here)
      ∙ sym (take_more cites index no_cite lt);
}

answers_same : (divisor : ℤ) (list : List Cite) → map (λ cite. cite.answer) (times_cites divisor list) ≡ map (λ cite. cite.answer) list
answers_same divisor [] = refl
answers_same divisor (cite ∷ list) = ap (λ (l : List ℕ). cite.answer ∷ l) (answers_same divisor list)

pub are_divided : (divisor : ℤ) (cites list : List Cite) → pos 1 ≤ℤ divisor → cites ≡ times_cites divisor list → AreCites cites → AreCites list
are_divided divisor cites list positive e are = record {
  most = omega (arith, len, are.most);
  each = All-from_get_or IsCite list no_cite (λ k lt.
      let old : IsCite (get_or cites k no_cite) = are.each k no_cite (omega (arith, len)) in
      quotient_is_cite (get_or cites k no_cite) (get_or list k no_cite) (at k lt) old);
  ascending = subst IsStrictlyIncreasing (ap (map (λ (cite : Cite). cite.answer)) e ∙ answers_same divisor list) are.ascending;
}
  where
    len : length cites ≡ length list
    len = ap length e ∙ length-map list (λ (cite : Cite). record { answer = cite.answer; weight = divisor *ℤ cite.weight })

    at : (k : ℕ) → k < length list → get_or cites k no_cite ≡ record { answer = (get_or list k no_cite).answer; weight = divisor *ℤ (get_or list k no_cite).weight }
    at k lt = ap (λ (l : List Cite). get_or l k no_cite) e ∙ get_or-map (λ (cite : Cite). record { answer = cite.answer; weight = divisor *ℤ cite.weight }) list k no_cite no_cite lt

    quotient_is_cite : (old new : Cite) → old ≡ record { answer = new.answer; weight = divisor *ℤ new.weight } → IsCite old → IsCite new
    quotient_is_cite old new f is = record {
      numbered = subst (λ (n : ℕ). 1 ≤ n) (ap (λ (c : Cite). c.answer) f) is.numbered;
      weighed = λ z. is.weighed (ap (λ (c : Cite). c.weight) f ∙ ap (λ (n : ℤ). divisor *ℤ n) z ∙ mul-zero divisor);
      within = let small = factor_small divisor new.weight old.weight positive (sym (ap (λ (c : Cite). c.weight) f)) in omega (arith, is.within);
    }

pub divided_all : (divisor : ℤ) (cites list : List Cite) (index : ℕ) → length cites ≤ index → DividedSoFar divisor cites index list → cites ≡ times_cites divisor list
divided_all divisor cites list index past so = sym (so.is ∙ take_all index cites past)
