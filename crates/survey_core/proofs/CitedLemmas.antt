-- A proof speaks only of the answers that it cites.
use Rattle.std.proofs.Common.{◌≡◌, ℕ, suc, ◌+◌, ◌-◌, ◌<◌, ◌≤◌, List, [], ◌∷◌, length, map, take, get_or, slice_index, Some, All, Any, Option, slice_get, ℤ, ◌+ℤ◌, ◌*ℤ◌, refl, ap, ap₂, sym, subst, ◌∙◌, inl, inr, arith, append-nil, length-take}
use Rattle.std.specs.Option.{option_map_or}
use Rattle.std.specs.List.Sorted.{IsStrictlyIncreasing}
use Rattle.std.proofs.lemmas.Option.{none-some, same_Some}
use Rattle.criteria_model.specs.declared.pairs.Pair.{Pair}
use Rattle.criteria_model.specs.declared.pairs.Answer.{Answer}
use Rattle.criteria_model.specs.declared.pairs.Side.{Side}
use Rattle.criteria_model.specs.declared.pairs.Side.TheVariants.{Left, Right, Equal}
use Rattle.row_laws.specs.Rows.{entry}
use Rattle.criteria_model.specs.Answers.{gain, IsRanked}
use Rattle.farkas_check.specs.declared.cites.Cite.{Cite}
use Rattle.farkas_check.specs.declared.combination.Combination.{Combination}
use Rattle.farkas_check.specs.Sums.{cited_side, sum_of_cites}
use Rattle.farkas_check.specs.Proof.{MayWeigh, IsStrict, IsStrictEnough, Proves}
use Rattle.farkas_check.proofs.Ranking.{proved_is_ranked_lem}
use Rattle.survey_core.specs.Marked.{greatest_cited}
use Rattle.survey_core.proofs.ListSteps.{Each, Each-All, All-Each, slice_get-take}

greatest_each : (cites : List Cite) (most : ℕ) → greatest_cited cites ≤ most → Each (λ cite. cite.answer ≤ most) cites
greatest_each [] most h = tt
greatest_each (cite ∷ cites) most h = (omega arith, greatest_each cites most (omega arith))

pub greatest_within : (cites : List Cite) (most : ℕ) → Each (λ cite. cite.answer ≤ most) cites → greatest_cited cites ≤ most
greatest_within [] most hs = omega arith
greatest_within (cite ∷ cites) most hs = omega (arith, hs.0, greatest_within cites most hs.1)

increasing_tail : (x : ℕ) (xs : List ℕ) → IsStrictlyIncreasing (x ∷ xs) → IsStrictlyIncreasing xs
increasing_tail x xs rising k within =
    let next : suc k + 1 ≡ suc (k + 1) = omega arith in
    let here : slice_index (x ∷ xs) (suc k) < slice_index (x ∷ xs) (suc k + 1) = rising (suc k) (omega arith) in
    subst (λ (n : ℕ). slice_index (x ∷ xs) (suc k) < slice_index (x ∷ xs) n) next here

-- of ascending numbers the last is the greatest
greatest_from : (first : Cite) (cites : List Cite) (last : Cite) → IsStrictlyIncreasing (map (λ cite. cite.answer) (first ∷ cites))
    → slice_get (first ∷ cites) (length cites) ≡ Some last → last.answer ≡ greatest_cited (first ∷ cites)
greatest_from first [] last rising at = omega (arith, ap (λ (c : Cite). c.answer) (same_Some first last at))
greatest_from first (next ∷ others) last rising at =
    let below : first.answer < next.answer = rising 0 (omega arith) in
    omega (arith, below, greatest_from next others last (increasing_tail first.answer (map (λ c. c.answer) (next ∷ others)) rising) at)

pub greatest_last : (cites : List Cite) (last : Cite) → IsStrictlyIncreasing (map (λ cite. cite.answer) cites)
    → slice_get cites (length cites - 1) ≡ Some last → last.answer ≡ greatest_cited cites
greatest_last [] last rising at = absurd (none-some last at)
greatest_last (first ∷ cites) last rising at =
    let end : length (first ∷ cites) - 1 ≡ length cites = omega arith in
    greatest_from first cites last rising (subst (λ (k : ℕ). slice_get (first ∷ cites) k ≡ Some last) end at)

-- two lists of answers have the same cited answer
abbrev Same : List Answer → List Answer → Cite → Type 0
Same b a cite = slice_get b (cite.answer - 1) ≡ slice_get a (cite.answer - 1)

sum_same : (levels : List ℕ) (b a : List Answer) (cites : List Cite) (place : ℕ) → Each (Same b a) cites → sum_of_cites levels b cites place ≡ sum_of_cites levels a cites place
sum_same levels b a [] place same = refl
sum_same levels b a (cite ∷ cites) place same =
    ap₂ (λ (o : Option Answer) (s : ℤ). cite.weight *ℤ entry (option_map_or (λ answer. gain levels answer.pair answer.side) o []) place +ℤ s)
    same.0 (sum_same levels b a cites place same.1)

strict_same : (b a : List Answer) (cites : List Cite) → All (Same b a) cites
    → Any (λ cite. IsStrict (cited_side a cite) cite.weight) cites → Any (λ cite. IsStrict (cited_side b cite) cite.weight) cites
strict_same b a cites same (k, x, within, at, h) =
    let here : Same b a x = subst (λ (y : Cite). Same b a y) at (same k x within) in
    (k, x, within, at, subst (λ (o : Option Answer). IsStrict (option_map_or (λ answer. answer.side) o Equal) x.weight) (sym here) h)

strict_back : (b a : List Answer) (cites : List Cite) → All (Same b a) cites
    → Any (λ cite. IsStrict (cited_side b cite) cite.weight) cites → Any (λ cite. IsStrict (cited_side a cite) cite.weight) cites
strict_back b a cites same h = strict_same a b cites (λ k d within. sym (same k d within)) h

enough_same : (b a : List Answer) (c : Combination) (side : Side) → All (Same b a) c.answers → IsStrictEnough a c side → IsStrictEnough b c side
enough_same b a c Left same h = elim h [ inl own ↦ inl own | inr cited ↦ inr (strict_same b a c.answers same cited) ]
enough_same b a c Right same h = elim h [ inl own ↦ inl own | inr cited ↦ inr (strict_same b a c.answers same cited) ]
enough_same b a c Equal same h = λ strict. h (elim strict [ inl own ↦ inl own | inr cited ↦ inr (strict_back b a c.answers same cited) ])

-- a proof by answers is one by the first of them, up to the last that it cites
proved_by_cited : (levels : List ℕ) (answers : List Answer) (c : Combination) (pair : Pair) (side : Side) → Proves levels answers c pair side
    → Proves levels (take (greatest_cited c.answers) answers) c pair side
proved_by_cited levels answers c pair side proves =
    let g : ℕ = greatest_cited c.answers in
    let b : List Answer = take g answers in
    let within : All (λ cite. cite.answer ≤ g) c.answers = Each-All (λ cite. cite.answer ≤ g) c.answers (greatest_each c.answers g (omega arith)) in
    let same : All (Same b answers) c.answers =
    λ k d h. slice_get-take g answers ((get_or c.answers k d).answer - 1) (omega (arith, within k d h, (proves.cited k d h).0)) in
    record {
      len = proves.len;
      scale = proves.scale;
      own = proves.own;
      cited = λ k d h. ((proves.cited k d h).0, omega (arith, within k d h, (proves.cited k d h).1, length-take g answers));
      weights =
          λ k d h.
          subst (λ (o : Option Answer). MayWeigh (option_map_or (λ answer. answer.side) o Equal) (get_or c.answers k d).weight) (sym (same k d h))
          (proves.weights k d h);
      sums =
          λ place within.
          proves.sums place within ∙ ap (λ (s : ℤ). s +ℤ entry c.increments place) (sym (sum_same levels b answers c.answers place (All-Each (Same b answers) c.answers same)));
      strict = enough_same b answers c side same proves.strict;
    }

pub ranked_by_cited : (levels : List ℕ) (answers : List Answer) (c : Combination) (pair : Pair) (side : Side) → Proves levels answers c pair side
    → IsRanked levels (take (greatest_cited c.answers) answers) pair side
ranked_by_cited levels answers c pair side proves =
    let b : List Answer = take (greatest_cited c.answers) answers in
    subst (λ (l : List Answer). IsRanked levels l pair side) (append-nil b)
    (proved_is_ranked_lem levels b [] c pair side (proved_by_cited levels answers c pair side proves))
