-- The sums of the first cites and of the first criteria, and how large they grow.
use Rattle.std.proofs.Common.{◌≡◌, ℕ, ◌+◌, ◌-◌, ◌*◌, ◌^◌, ◌<◌, ◌≤◌, List, [], ◌∷◌, ◌++◌, fold, ◌+ℤ◌, length, take, drop, drop-drop, get_or, All, ℤ, ◌*ℤ◌, unsigned_abs, Some, slice_get, refl, ap, ap₂, sym, ◌∙◌, arith}
use Rattle.std.specs.Option.{option_map_or}
use Rattle.std.proofs.lemmas.List.Elements.{All-take, All-drop}
use Rattle.std.proofs.lemmas.List.Sums.{fold_more, sum_by_more, sum_by_more_le}
use Rattle.std.proofs.lemmas.List.{length-take, length-drop, map-append}
use Rattle.criteria_model.specs.declared.pairs.Answer.{Answer}
use Rattle.criteria_model.specs.declared.pairs.Pair.{Pair}
use Rattle.criteria_model.specs.declared.pairs.Side.{Side}
use Rattle.row_laws.specs.Rows.{entry, dot, plus, minus, times}
use Rattle.criteria_model.specs.Worth.{increments, has, has_on}
use Rattle.criteria_model.specs.Answers.{gain}
use Rattle.row_laws.proofs.RowLemmas.{entry-plus, entry-times, dot-times, length-plus, length-minus, length-times, drop-plus, plus-append_after, plus-times_small}
use Rattle.criteria_model.proofs.LevelLemmas.{length-has_on, length-minus-has, minus-has-take_more, has_on-by}
use Rattle.farkas_check.specs.declared.cites.Cite.{Cite}
use Rattle.farkas_check.specs.declared.combination.Combination.{Combination}
use Rattle.farkas_check.specs.Proof.{HasSums}
use Rattle.row_laws.proofs.Integers.{sums}
use Rattle.row_laws.proofs.Totals.{dot-same}
use Rattle.farkas_check.specs.Sums.{cited_gain, sum_of_cites}

-- ---- the sums as a row
-- the row of the increments' own weights, to which each cite adds weight times what its answer gains
abbrev pub total : List ℕ → List Answer → List ℤ → List Cite → List ℤ
total levels answers own cites = fold (λ sums cite. plus sums (times cite.weight (cited_gain levels answers cite))) own cites

pub entry-total : (levels : List ℕ) (answers : List Answer) (own : List ℤ) (cites : List Cite) (place : ℕ)
    → entry (total levels answers own cites) place ≡ sum_of_cites levels answers cites place +ℤ entry own place
entry-total levels answers own [] place = omega (arith, sums)
entry-total levels answers own (cite ∷ cites) place =
    let row = cited_gain levels answers cite in
    omega (
      arith,
      sums,
      entry-total levels answers (plus own (times cite.weight row)) cites place,
      entry-plus own (times cite.weight row) place,
      entry-times cite.weight row place,
    )

-- a proof's sums, as one equation of products with the values of the increments
pub dot_of_sums : (levels : List ℕ) (answers : List Answer) (c : Combination) (pair : Pair) (side : Side) (v : List ℤ) → length v ≡ increments levels
    → HasSums levels answers c pair side
    → c.scale *ℤ dot v (gain levels pair side) ≡ dot v (total levels answers c.increments c.answers)
dot_of_sums levels answers c pair side v len has_sums =
    sym (dot-times c.scale v (gain levels pair side))
    ∙ dot-same v (times c.scale (gain levels pair side)) (total levels answers c.increments c.answers)
    (λ place l. entry-times c.scale (gain levels pair side) place ∙ has_sums place (omega (arith, len)) ∙ sym (entry-total levels answers c.increments c.answers place))

-- ---- the totals of the first cites
-- the sums are the totals of the first i cites, and no larger than those can be
pub record AreTotals (levels : List ℕ) (answers : List Answer) (own : List ℤ) (cites : List Cite) (i : ℕ) (sums : List ℤ) : Type 0 where
  pub sum : sums ≡ total levels answers own (take i cites)
  pub small : All (λ x. unsigned_abs x ≤ 2 ^ 96 * (i + 1)) sums

pub cited_gain-there : (levels : List ℕ) (answers : List Answer) (cite : Cite) (answer : Answer) → slice_get answers (cite.answer - 1) ≡ Some answer
    → cited_gain levels answers cite ≡ gain levels answer.pair answer.side
cited_gain-there levels answers cite answer found = ap (λ o. option_map_or (λ (a : Answer). gain levels a.pair a.side) o []) found

pub AreTotals-none : (levels : List ℕ) (answers : List Answer) (own : List ℤ) (cites : List Cite) → All (λ x. unsigned_abs x < 2 ^ 96) own
    → AreTotals levels answers own cites 0 own
AreTotals-none levels answers own cites small = record {
  sum = refl;
  small = λ k d within. omega (arith, small k d within);
}

pub AreTotals-more : (levels : List ℕ) (answers : List Answer) (own : List ℤ) (cites : List Cite) (i : ℕ) (sums : List ℤ) (d : Cite)
    → AreTotals levels answers own cites i sums → i < length cites → unsigned_abs (get_or cites i d).weight < 2 ^ 96
    → All (λ x. unsigned_abs x ≤ 1) (cited_gain levels answers (get_or cites i d)) → length (cited_gain levels answers (get_or cites i d)) ≤ length sums
    → AreTotals levels answers own cites (i + 1) (plus sums (times (get_or cites i d).weight (cited_gain levels answers (get_or cites i d))))
AreTotals-more levels answers own cites i sums d totals within weight unit len = record {
  sum =
      ap (λ s. plus s (times (get_or cites i d).weight (cited_gain levels answers (get_or cites i d)))) totals.sum
      ∙ sym (fold_more (λ s cite. plus s (times cite.weight (cited_gain levels answers cite))) own cites i d within);
  small = λ k e in_sums.
      omega
      (arith, plus-times_small sums (get_or cites i d).weight (cited_gain levels answers (get_or cites i d)) (2 ^ 96 * (i + 1)) (2 ^ 96) totals.small (omega (arith, weight)) unit len k e in_sums);
}

-- ---- criterion by criterion
-- what the first criteria add, and how many increments they have
pub record AreLeads (levels winner loser : List ℕ) (weight : ℤ) (before : List ℤ) (at place : ℕ) (sums : List ℤ) : Type 0 where
  pub at_increments : at ≡ increments (take place levels)
  pub sum : sums ≡ plus before (times weight (minus (has (take place levels) (take place winner)) (has (take place levels) (take place loser))))

module _ (levels winner loser : List ℕ) (weight : ℤ) (before : List ℤ) (at place : ℕ) (sums : List ℤ) (leads : AreLeads levels winner loser weight before at place sums) (len : length before ≡ increments levels)
    (winner_len : length winner ≡ length levels) (loser_len : length loser ≡ length levels) (within : place < length levels) where
  -- the part that the first criteria add, and the part of the next
  abbrev front : List ℤ
  front = times weight (minus (has (take place levels) (take place winner)) (has (take place levels) (take place loser)))

  abbrev next : List ℤ
  next = times weight (minus (has_on (get_or levels place 0) (get_or winner place 0)) (has_on (get_or levels place 0) (get_or loser place 0)))

  length-front : length front ≡ at
  length-front =
      length-times weight _
      ∙ length-minus-has (take place levels) (take place winner) (take place loser) (simp length-take (omega (arith, winner_len))) (simp length-take (omega (arith, loser_len)))
      ∙ sym leads.at_increments

  length-next : length next ≡ get_or levels place 0 - 1
  length-next =
      omega (
        arith,
        length-times weight (minus (has_on (get_or levels place 0) (get_or winner place 0)) (has_on (get_or levels place 0) (get_or loser place 0))),
        length-minus (has_on (get_or levels place 0) (get_or winner place 0)) (has_on (get_or levels place 0) (get_or loser place 0)),
        length-has_on (get_or levels place 0) (get_or winner place 0),
        length-has_on (get_or levels place 0) (get_or loser place 0),
      )

  -- the next criterion's increments are among the sums
  pub next_within : at + (get_or levels place 0 - 1) ≤ length before
  next_within = omega (arith, leads.at_increments, len, sum_by_more_le (λ n. n - 1) levels place 0 within)

  next_at : at + (get_or levels place 0 - 1) ≡ increments (take (place + 1) levels)
  next_at = omega (arith, leads.at_increments, sum_by_more (λ n. n - 1) levels place 0 within)

  pub part_small : (b k : ℕ) → All (λ x. unsigned_abs x < b) before → All (λ x. unsigned_abs x < b) (take k (drop at sums))
  part_small b k small =
      let rest : drop at sums ≡ drop at before = rw (leads.sum, ← length-front) (drop-plus before front (omega (arith, length-front, next_within))) in
      rw rest (All-take (λ x. unsigned_abs x < b) k (drop at before) (All-drop (λ x. unsigned_abs x < b) at before small))

  -- what is added to the part, as the next part of the row
  next_is : (k : ℕ) → k ≡ get_or levels place 0 - 1
      → times weight (minus (has_on (length (take k (drop at sums)) + 1) (get_or winner place 0)) (has_on (length (take k (drop at sums)) + 1) (get_or loser place 0))) ≡ next
  next_is k k_is =
      let sums_len : length sums ≡ length before = ap length leads.sum ∙ omega (arith, length-plus before front, length-front, next_within) in
      let part_len : length (take k (drop at sums)) ≡ k = simp (length-take, length-drop) (omega (arith, next_within)) in
      let count_is : length (take k (drop at sums)) + 1 - 1 ≡ get_or levels place 0 - 1 = omega (arith, part_len) in
      ap₂ (λ high low. times weight (minus high low)) (has_on-by _ (get_or levels place 0) (get_or winner place 0) count_is) (has_on-by _ (get_or levels place 0) (get_or loser place 0) count_is)

  pub AreLeads-more : (part : List ℤ) (j k : ℕ) → j ≡ get_or levels place 0 - 1 → k ≡ get_or levels place 0 - 1
      → part ≡ plus (take k (drop at sums)) (times weight (minus (has_on (length (take k (drop at sums)) + 1) (get_or winner place 0)) (has_on (length (take k (drop at sums)) + 1) (get_or loser place 0))))
      → AreLeads levels winner loser weight before (at + j) (place + 1) (take at sums ++ (part ++ drop k (drop at sums)))
  AreLeads-more part j k j_is k_is part_is = record {
    at_increments = ap (λ steps. at + steps) j_is ∙ next_at;
    sum =
        let both : times weight (minus (has (take (place + 1) levels) (take (place + 1) winner)) (has (take (place + 1) levels) (take (place + 1) loser))) ≡ front ++ next =
        rw (minus-has-take_more levels winner loser place within winner_len loser_len) (map-append (λ x. weight *ℤ x) _ _) in
        let split = plus-append_after before front next (omega (arith, length-front, length-next, next_within)) in
        let parts : plus before (front ++ next) ≡ take at sums ++ (plus (take (get_or levels place 0 - 1) (drop at sums)) next ++ drop (at + (get_or levels place 0 - 1)) sums) =
        rw (← leads.sum, length-front, length-next) at split in
        let added : part ≡ plus (take k (drop at sums)) next = part_is ∙ ap (plus (take k (drop at sums))) (next_is k k_is) in
        rw (added, drop-drop k at sums, k_is, both, parts);
  }
