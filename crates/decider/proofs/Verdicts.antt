-- What a clash with a tried ranking says: its combination proves how the point ranks the pair.
use Rattle.std.proofs.Common.{◌≡◌, ◌≢◌, ℕ, zero, suc, ◌+◌, ◌-◌, ◌<◌, ◌≤◌, Bool, true, false, cond, List, [], ◌∷◌, ◌++◌, length, map, get_or, take, ◌⊎◌, inl, inr, ℤ, pos, negsuc, neg_ℤ, ◌+ℤ◌, ◌*ℤ◌, ◌<ℤ◌, ◌≤ℤ◌, refl, sym, ap, subst, ◌∙◌, arith}
use Rattle.std.specs.Prelude.{All, Any, count_by, nat_lt, ◌==◌}
use Rattle.std.proofs.lemmas.Int.{ints}
use Rattle.std.proofs.lemmas.Bool.{cases_Bool, eqb-true, eqb-false, ltb-true, ltb-false, true≢false}
use Rattle.std.proofs.lemmas.List.{get_or-map, length-map, length-append, length-take-le, take_more, take_all, append-nil}
use Rattle.std.proofs.lemmas.List.Sums.{sum_by-append, sum_by-cons, count_by-le-length}
use Rattle.std.proofs.lemmas.List.Elements.{All-from_get_or}
use Rattle.row_laws.proofs.Integers.{sums, mul-add, mul-neg, mul_assoc, mul-zero, cancel}
use Rattle.criteria_model.specs.declared.pairs.Pair.{Pair}
use Rattle.criteria_model.specs.declared.pairs.Answer.{Answer}
use Rattle.criteria_model.specs.declared.pairs.Side.{Side}
use Rattle.criteria_model.specs.declared.pairs.Side.TheVariants.{Left, Right, Equal}
use Rattle.row_laws.specs.Rows.{times}
use Rattle.criteria_model.specs.Worth.{increments}
use Rattle.criteria_model.specs.Pairs.{IsFit, turned}
use Rattle.criteria_model.specs.Answers.{Ranks, MeetsAll, IsRanked, gain}
use Rattle.row_laws.proofs.RowLemmas.{length-times, entry-times}
use Rattle.farkas_check.specs.declared.cites.Cite.{Cite}
use Rattle.farkas_check.specs.declared.combination.Combination.{Combination}
use Rattle.farkas_check.specs.Cited.{no_cite}
use Rattle.farkas_check.specs.Sums.{cited_side}
use Rattle.farkas_check.specs.Proof.{MayWeigh, IsStrict, IsThere, HasStrict, HasPositiveScale, HasNonnegativeIncrements, HasCited, HasWeights, HasSums, IsStrictEnough, Proves}
use Rattle.farkas_check.proofs.Ranking.{proved_is_ranked_lem}
use Rattle.fraction_free.specs.declared.loaded.LoadedRow.{LoadedRow}
use Rattle.simplex.specs.declared.row_weights.RowWeight.{RowWeight}
use Rattle.simplex.specs.declared.found.Clash.{Clash}
use Rattle.simplex.specs.Weights.{is_weight, no_weight, weighted}
use Rattle.simplex.specs.Results.{coefficient, IsClash}
use Rattle.simplex.proofs.Quotients.{positive_factor}
use Rattle.simplex.proofs.Slacks.{weighted-append}
use Rattle.decider.specs.Standing.{rows_of, rows_of_answers}
use Rattle.decider.specs.Decisions.{weights_of}
use Rattle.decider.specs.Combining.{rows_for, rows_in, first_row, row_at, cited_sum, times_cites, EndsWithTried, Combines}
use Rattle.decider.specs.Trying.{against}
use Rattle.decider.proofs.AnswerRows.{all_meets_rows}
use Rattle.decider.proofs.Citing.{rows_for-length}
use Rattle.decider.proofs.Walks.{rows_apart}
use Rattle.decider.proofs.ClashValues.{met_is_no_clash}
use Rattle.row_laws.proofs.ListLemmas.{Any-cases}
use Rattle.decider.proofs.CitedGains.{gain_against, rows_length, leasts_nonneg, coefficients_opposed, tried_coefficient, sum_of_cites-is, cited_coefficients, cited_sum-times}

one_row : (side : Side) → rows_for (against side) ≡ 1
one_row Left = refl
one_row Right = refl
one_row Equal = refl

-- ---- the tried row is weighted, and it is the last

pub tried_is_last : (levels : List ℕ) (answers : List Answer) (point : List ℤ) (pair : Pair) (side : Side) (clash : Clash) → MeetsAll levels answers point
    → IsClash (increments levels) (rows_of_answers levels answers ++ rows_of levels pair (against side)) clash → EndsWithTried answers clash.rows
tried_is_last levels answers point pair side clash meets is =
    from (cases_Bool (nat_lt 0 (length clash.rows))) (cases_Bool (row_at clash.rows (length clash.rows - 1) == (rows_in answers + 1)))
  where
    none_beyond : All (λ item. item.row ≤ rows_in answers) clash.rows → ⊥
    none_beyond within =
        met_is_no_clash (increments levels) (rows_of_answers levels answers) (rows_of levels pair (against side)) clash point is (all_meets_rows levels answers point meets)
        (leasts_nonneg levels answers)
        (λ k x lt. let w = within k x lt in omega (arith, rows_length levels answers))

    last_is : (k : ℕ) → k < length clash.rows → row_at clash.rows k ≤ rows_in answers + 1
    last_is k lt =
        let w = is.loaded_rows k no_weight lt in
        omega (arith, length-append (rows_of_answers levels answers) (rows_of levels pair (against side)), rows_length levels answers, rows_for-length levels pair (against side), one_row side)

    before : row_at clash.rows (length clash.rows - 1) ≢ rows_in answers + 1 → (k : ℕ) → k < length clash.rows
        → ((k == (length clash.rows - 1)) ≡ true) ⊎ ((k == (length clash.rows - 1)) ≡ false) → row_at clash.rows k ≤ rows_in answers
    before ne k lt (inl e) =
        let same : k ≡ length clash.rows - 1 = eqb-true k (length clash.rows - 1) e in
        let high = last_is (length clash.rows - 1) (omega arith) in
        omega (arith, ap (row_at clash.rows) same)
    before ne k lt (inr e) =
        let other : k ≢ length clash.rows - 1 = eqb-false k (length clash.rows - 1) e in
        let apart = rows_apart clash.rows is.weights k (length clash.rows - 1) (omega arith) (omega arith) in
        let high = last_is (length clash.rows - 1) (omega arith) in
        omega arith

    from : (nat_lt 0 (length clash.rows) ≡ true) ⊎ (nat_lt 0 (length clash.rows) ≡ false)
        → ((row_at clash.rows (length clash.rows - 1) == (rows_in answers + 1)) ≡ true) ⊎ ((row_at clash.rows (length clash.rows - 1) == (rows_in answers + 1)) ≡ false)
        → EndsWithTried answers clash.rows
    from (inl some) (inl e) = record { some = ltb-true 0 (length clash.rows) some; last = eqb-true (row_at clash.rows (length clash.rows - 1)) (rows_in answers + 1) e }
    from (inl some) (inr e) =
        let ne : row_at clash.rows (length clash.rows - 1) ≢ rows_in answers + 1 = eqb-false (row_at clash.rows (length clash.rows - 1)) (rows_in answers + 1) e in
        absurd (none_beyond (All-from_get_or (λ item. item.row ≤ rows_in answers) clash.rows no_weight (λ k lt. before ne k lt (cases_Bool (k == (length clash.rows - 1))))))
    from (inr none) other =
        let empty : length clash.rows ≤ 0 = ltb-false 0 (length clash.rows) none in
        absurd (none_beyond (λ k x lt. absurd (omega arith)))

-- ---- how many numbers a combination has, and how many aren't 0

module _ (columns : ℕ) (loaded : List LoadedRow) (answers : List Answer) (clash : Clash) (combination : Combination)
    (clashes : IsClash columns loaded clash) (ends : EndsWithTried answers clash.rows) (combines : Combines answers clash combination) where
  pub own_len : length combination.increments ≡ columns
  own_len = sym (length-times combines.divisor combination.increments) ∙ sym (ap length combines.increments) ∙ clashes.len

  times_len : length (times_cites combines.divisor combination.answers) ≡ length combination.answers
  times_len = length-map combination.answers (λ (cite : Cite). record { answer = cite.answer; weight = combines.divisor *ℤ cite.weight })

  divisor_nonzero : combines.divisor ≢ pos 0
  divisor_nonzero e = contradict (subst (λ (n : ℤ). pos 1 ≤ℤ n) e combines.positive)
    where
      contradict : pos 1 ≤ℤ pos 0 → ⊥
      contradict h = omega (arith, ints)

  -- at most as many weights as columns aren't 0
  pub few_weights : count_by is_weight (weights_of combination) ≤ columns
  few_weights =
      omega (
        arith,
        sum_by-append (λ (x : ℤ). cond (is_weight x) 1 0) combination.increments (map (λ cite. cite.weight) combination.answers),
        count_same,
        count_by-le-length is_weight (map (λ cite. cite.weight) combination.answers),
        length-map combination.answers (λ (cite : Cite). cite.weight),
        combines.cites.few,
        times_len,
        length-take-le (length clash.rows - 1) clash.rows (omega arith),
        clashes.few,
        ends.some,
      )
    where
      weighs_same : (x : ℤ) → is_weight (combines.divisor *ℤ x) ≡ is_weight x
      weighs_same x = from (cases_Bool (is_weight (combines.divisor *ℤ x))) (cases_Bool (is_weight x))
        where
          zero_of : (a : ℤ) → is_weight a ≡ false → a ≡ pos 0
          zero_of (pos zero) e = refl
          zero_of (pos (suc n)) e = absurd (true≢false e)
          zero_of (negsuc n) e = absurd (true≢false e)

          from : (is_weight (combines.divisor *ℤ x) ≡ true) ⊎ (is_weight (combines.divisor *ℤ x) ≡ false) → (is_weight x ≡ true) ⊎ (is_weight x ≡ false) → is_weight (combines.divisor *ℤ x) ≡ is_weight x
          from (inl e) (inl f) = e ∙ sym f
          from (inr e) (inr f) = e ∙ sym f
          from (inl e) (inr f) = ap is_weight (ap (λ (n : ℤ). combines.divisor *ℤ n) (zero_of x f) ∙ mul-zero combines.divisor) ∙ sym f
          from (inr e) (inl f) = e ∙ sym (ap is_weight (cancel combines.divisor x (pos 0) divisor_nonzero (zero_of (combines.divisor *ℤ x) e ∙ sym (mul-zero combines.divisor))))

      count_times : (xs : List ℤ) → count_by is_weight (times combines.divisor xs) ≡ count_by is_weight xs
      count_times [] = refl
      count_times (x ∷ xs) =
          sum_by-cons (λ (y : ℤ). cond (is_weight y) 1 0) (combines.divisor *ℤ x) (times combines.divisor xs)
          ∙ omega (arith, ap {B = ℕ} (λ (b : Bool). cond b 1 0) (weighs_same x), count_times xs)
          ∙ sym (sum_by-cons (λ (y : ℤ). cond (is_weight y) 1 0) x xs)

      count_same : count_by is_weight clash.increments ≡ count_by is_weight combination.increments
      count_same = ap (count_by is_weight) combines.increments ∙ count_times combination.increments

-- ---- the parts of a proof

-- a combination of a clash with the ranking that is tried against this one
pub record IsCombined (levels : List ℕ) (answers : List Answer) (pair : Pair) (side : Side) (clash : Clash) (combination : Combination) : Type 0 where
  pub fit : All (λ answer. IsFit levels answer.pair) answers
  pub pair_fits : IsFit levels pair
  pub clashes : IsClash (increments levels) (rows_of_answers levels answers ++ rows_of levels pair (against side)) clash
  pub ends : EndsWithTried answers clash.rows
  pub combines : Combines answers clash combination

nonneg_factor : (g q v : ℤ) → pos 1 ≤ℤ g → pos 0 ≤ℤ v → v ≡ g *ℤ q → pos 0 ≤ℤ q
nonneg_factor g (pos q) v pg pv e = omega (arith, ints)
nonneg_factor (pos g) (negsuc q) v pg pv e = absurd (omega (arith, ints))
nonneg_factor (negsuc g) (negsuc q) v pg pv e = absurd (omega (arith, ints))

module _ (levels : List ℕ) (answers : List Answer) (pair : Pair) (side : Side) (clash : Clash) (combination : Combination) (c : IsCombined levels answers pair side clash combination) where
  abbrev d : ℤ
  d = c.combines.divisor

  abbrev front : List RowWeight
  front = take (length clash.rows - 1) clash.rows

  abbrev tried : RowWeight
  tried = get_or clash.rows (length clash.rows - 1) no_weight

  last : length clash.rows - 1 < length clash.rows
  last = let s = c.ends.some in omega arith

  abbrev loaded : List LoadedRow
  loaded = rows_of_answers levels answers ++ rows_of levels pair (against side)

  own_length : length combination.increments ≡ increments levels
  own_length = own_len (increments levels) loaded answers clash combination c.clashes c.ends c.combines

  scale : HasPositiveScale combination
  scale = positive_factor d combination.scale tried.weight c.combines.positive (at_least_one tried.weight (c.clashes.weights.each (length clash.rows - 1) no_weight last).positive) c.combines.scale
    where
      at_least_one : (a : ℤ) → pos 0 <ℤ a → pos 1 ≤ℤ a
      at_least_one a h = omega (arith, ints)

  own_at : (j : ℕ) → get_or clash.increments j (pos 0) ≡ d *ℤ get_or combination.increments j (pos 0)
  own_at j = ap (λ (l : List ℤ). get_or l j (pos 0)) c.combines.increments ∙ entry-times d combination.increments j

  own : HasNonnegativeIncrements combination
  own = All-from_get_or (λ weight. pos 0 ≤ℤ weight) combination.increments (pos 0) (λ k lt.
      nonneg_factor d (get_or combination.increments k (pos 0)) (get_or clash.increments k (pos 0)) c.combines.positive (c.clashes.own k (pos 0) (omega (arith, own_length, c.clashes.len))) (own_at k))

  cite_at : (k : ℕ) → k < length combination.answers → get_or (times_cites d combination.answers) k no_cite
      ≡ record { answer = (get_or combination.answers k no_cite).answer; weight = d *ℤ (get_or combination.answers k no_cite).weight }
  cite_at k lt = get_or-map (λ cite. record { answer = cite.answer; weight = d *ℤ cite.weight }) combination.answers k no_cite no_cite lt

  cites_len : length (times_cites d combination.answers) ≡ length combination.answers
  cites_len = times_len (increments levels) loaded answers clash combination c.clashes c.ends c.combines

  cited : HasCited answers combination
  cited = All-from_get_or (IsThere answers) combination.answers no_cite (λ k lt.
      subst (λ (cite : Cite). IsThere answers cite) (cite_at k lt) (c.combines.cites.cited k no_cite (omega (arith, cites_len))))

  may_factor : (s : Side) (q : ℤ) → MayWeigh s (d *ℤ q) → MayWeigh s q
  may_factor Left q may = nonneg_factor d q (d *ℤ q) c.combines.positive may refl
  may_factor Right q may = nonneg_factor d q (d *ℤ q) c.combines.positive may refl
  may_factor Equal q may = tt

  weights : HasWeights answers combination
  weights = All-from_get_or (λ cite. MayWeigh (cited_side answers cite) cite.weight) combination.answers no_cite (λ k lt.
      may_factor (cited_side answers (get_or combination.answers k no_cite)) (get_or combination.answers k no_cite).weight
      (subst (λ (cite : Cite). MayWeigh (cited_side answers cite) cite.weight) (cite_at k lt) (c.combines.cites.weights k no_cite (omega (arith, cites_len)))))

  abbrev of : ℕ → ℕ → ℤ
  of j = coefficient (rows_of_answers levels answers ++ rows_of levels pair (against side)) j

  -- the clash in one increment
  clash_at : (j : ℕ) → j < increments levels
      → d *ℤ get_or combination.increments j (pos 0) +ℤ (d *ℤ cited_sum (λ number. of j (first_row answers number)) combination.answers
      +ℤ (d *ℤ combination.scale) *ℤ get_or (gain levels pair (against side)) j (pos 0)) ≡ pos 0
  clash_at j lt =
      ap (λ (n : ℤ). n +ℤ (d *ℤ cited_sum (λ number. of j (first_row answers number)) combination.answers
      +ℤ (d *ℤ combination.scale) *ℤ get_or (gain levels pair (against side)) j (pos 0))) (sym (own_at j))
      ∙ ap (λ (s : ℤ). get_or clash.increments j (pos 0) +ℤ s) (sym rows_sum)
      ∙ c.clashes.sums j lt
    where
      whole : take (length clash.rows - 1 + 1) clash.rows ≡ clash.rows
      whole = take_all (length clash.rows - 1 + 1) clash.rows (let s = c.ends.some in omega arith)

      rows_sum : weighted (of j) clash.rows ≡ d *ℤ cited_sum (λ number. of j (first_row answers number)) combination.answers
          +ℤ (d *ℤ combination.scale) *ℤ get_or (gain levels pair (against side)) j (pos 0)
      rows_sum =
          ap (weighted (of j)) (sym whole ∙ take_more clash.rows (length clash.rows - 1) no_weight last)
          ∙ weighted-append (of j) front tried
          ∙ ap (λ (s : ℤ). s +ℤ tried.weight *ℤ of j tried.row)
          (sym (c.combines.cites.sums (of j) (coefficients_opposed levels answers (rows_of levels pair (against side)) j))
          ∙ cited_sum-times (λ number. of j (first_row answers number)) d combination.answers)
          ∙ ap (λ (n : ℤ). d *ℤ cited_sum (λ number. of j (first_row answers number)) combination.answers +ℤ n *ℤ of j tried.row) c.combines.scale
          ∙ ap (λ (n : ℤ). d *ℤ cited_sum (λ number. of j (first_row answers number)) combination.answers +ℤ (d *ℤ combination.scale) *ℤ n)
          (ap (of j) c.ends.last ∙ tried_coefficient levels answers pair (against side) j)

  sum_at : (j : ℕ) → j < increments levels
      → combination.scale *ℤ get_or (gain levels pair side) j (pos 0) ≡ get_or combination.increments j (pos 0) +ℤ cited_sum (λ number. of j (first_row answers number)) combination.answers
  sum_at j lt =
      cancel d (combination.scale *ℤ get_or (gain levels pair side) j (pos 0))
      (get_or combination.increments j (pos 0) +ℤ cited_sum (λ number. of j (first_row answers number)) combination.answers) (divisor_nonzero (increments levels) loaded answers clash combination c.clashes c.ends c.combines)
      (ap (λ (n : ℤ). d *ℤ (combination.scale *ℤ n)) (gain_against levels pair side j)
      ∙ moved d combination.scale (get_or (gain levels pair (against side)) j (pos 0)) (get_or combination.increments j (pos 0))
      (cited_sum (λ number. of j (first_row answers number)) combination.answers) (clash_at j lt))
    where
      moved : (d s g o t : ℤ) → d *ℤ o +ℤ (d *ℤ t +ℤ (d *ℤ s) *ℤ g) ≡ pos 0 → d *ℤ (s *ℤ neg_ℤ g) ≡ d *ℤ (o +ℤ t)
      moved d s g o t e =
          ap (λ (n : ℤ). d *ℤ n) (mul-neg s g) ∙ mul-neg d (s *ℤ g) ∙ ap neg_ℤ (sym (mul_assoc d s g)) ∙ other (d *ℤ o) (d *ℤ t) ((d *ℤ s) *ℤ g) e ∙ sym (mul-add d o t)
        where
          other : (a b x : ℤ) → a +ℤ (b +ℤ x) ≡ pos 0 → neg_ℤ x ≡ a +ℤ b
          other a b x h = omega (arith, sums)

  sums_hold : HasSums levels answers combination pair side
  sums_hold j lt =
      sum_at j lt
      ∙ flip (get_or combination.increments j (pos 0)) (cited_sum (λ number. of j (first_row answers number)) combination.answers)
      ∙ ap (λ (s : ℤ). s +ℤ get_or combination.increments j (pos 0))
      (sym (sum_of_cites-is levels answers combination.answers j (λ number. of j (first_row answers number))
      (cited_coefficients levels answers (rows_of levels pair (against side)) j combination.answers cited)))
    where
      flip : (a b : ℤ) → a +ℤ b ≡ b +ℤ a
      flip a b = omega (arith, sums)

  proves_with : (p : Pair) (s : Side) → gain levels p s ≡ gain levels pair side → IsStrictEnough answers combination s → Proves levels answers combination p s
  proves_with p s same strict = record {
    len = own_length;
    scale = scale;
    own = own;
    cited = cited;
    weights = weights;
    sums = λ j lt. ap (λ row. combination.scale *ℤ get_or row j (pos 0)) same ∙ sums_hold j lt;
    strict = strict;
  }

-- ---- a strict weight, or none

some_or_none : {X : Type 0} (P : X → Type 0) → ((x : X) → P x ⊎ (P x → ⊥)) → (xs : List X) → Any P xs ⊎ (Any P xs → ⊥)
some_or_none P test [] = inr (λ any. absurd (omega (arith, any.2)))
some_or_none {X = X} P test (x ∷ xs) = from (test x) (some_or_none P test xs)
  where
    from : P x ⊎ (P x → ⊥) → Any P xs ⊎ (Any P xs → ⊥) → Any P (x ∷ xs) ⊎ (Any P (x ∷ xs) → ⊥)
    from (inl here) rest = inl (0, x, omega arith, refl, here)
    from (inr not_here) (inl later) = inl (suc later.0, later.1, omega (arith, later.2), later.3, later.4)
    from (inr not_here) (inr none) = inr (λ any. elim (Any-cases P x xs any) [ inl here ↦ not_here here | inr later ↦ none later ])

positive_or_not : (w : ℤ) → (pos 0 <ℤ w) ⊎ ((pos 0 <ℤ w) → ⊥)
positive_or_not (pos zero) = inr (λ h. omega (arith, ints))
positive_or_not (pos (suc n)) = inl (omega (arith, ints))
positive_or_not (negsuc n) = inr (λ h. omega (arith, ints))

strict_or_not : (s : Side) (w : ℤ) → IsStrict s w ⊎ (IsStrict s w → ⊥)
strict_or_not Left w = positive_or_not w
strict_or_not Right w = positive_or_not w
strict_or_not Equal w = inr (λ h. h)

has_strict_or_not : (answers : List Answer) (combination : Combination) → HasStrict answers combination ⊎ (HasStrict answers combination → ⊥)
has_strict_or_not answers combination =
    from (some_or_none (λ weight. pos 0 <ℤ weight) positive_or_not combination.increments)
    (some_or_none (λ cite. IsStrict (cited_side answers cite) cite.weight) (λ cite. strict_or_not (cited_side answers cite) cite.weight) combination.answers)
  where
    from : Any (λ weight. pos 0 <ℤ weight) combination.increments ⊎ (Any (λ weight. pos 0 <ℤ weight) combination.increments → ⊥)
        → Any (λ cite. IsStrict (cited_side answers cite) cite.weight) combination.answers ⊎ (Any (λ cite. IsStrict (cited_side answers cite) cite.weight) combination.answers → ⊥)
        → HasStrict answers combination ⊎ (HasStrict answers combination → ⊥)
    from (inl weighs) others = inl (inl weighs)
    from (inr none) (inl weighs) = inl (inr weighs)
    from (inr none) (inr neither) = inr (λ h. elim h [ inl weighs ↦ none weighs | inr weighs ↦ neither weighs ])

-- what a combination proves is the ranking
pub ranked_of : (levels : List ℕ) (answers : List Answer) (combination : Combination) (pair : Pair) (side : Side) → Proves levels answers combination pair side → IsRanked levels answers pair side
ranked_of levels answers combination pair side proof v meets =
    proved_is_ranked_lem levels answers [] combination pair side proof v (subst (λ (l : List Answer). MeetsAll levels l v) (sym (append-nil answers)) meets)

-- the point has the ranking, so the weights are as strict as the verdict asks
pub combined_proves : (levels : List ℕ) (answers : List Answer) (pair : Pair) (side : Side) (clash : Clash) (combination : Combination) (point : List ℤ)
    → IsCombined levels answers pair side clash combination
    → MeetsAll levels answers point → Ranks levels point pair side → Proves levels answers combination pair side
combined_proves levels answers pair Left clash combination point c meets ranks = from (has_strict_or_not answers combination)
  where
    from : HasStrict answers combination ⊎ (HasStrict answers combination → ⊥) → Proves levels answers combination pair Left
    from (inl strict) = proves_with levels answers pair Left clash combination c pair Left refl strict
    from (inr none) =
        let same = ranked_of levels answers combination pair Equal (proves_with levels answers pair Left clash combination c pair Equal refl none) point meets in
        absurd (omega (arith, ints, same, ranks))
combined_proves levels answers pair Right clash combination point c meets ranks = from (has_strict_or_not answers combination)
  where
    from : HasStrict answers combination ⊎ (HasStrict answers combination → ⊥) → Proves levels answers combination pair Right
    from (inl strict) = proves_with levels answers pair Right clash combination c pair Right refl strict
    from (inr none) =
        let same = ranked_of levels answers combination (turned pair) Equal (proves_with levels answers pair Right clash combination c (turned pair) Equal refl none) point meets in
        absurd (omega (arith, ints, same, ranks))
combined_proves levels answers pair Equal clash combination point c meets ranks =
    proves_with levels answers pair Equal clash combination c pair Equal refl (λ strict.
    let more = ranked_of levels answers combination pair Left (proves_with levels answers pair Equal clash combination c pair Left refl strict) point meets in
    omega (arith, ints, more, ranks))
