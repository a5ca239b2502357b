-- The rule ends, and a pivot by it leaves fewer to make.
use Rattle.std.proofs.Common.{◌≡◌, ℕ, zero, suc, ◌^◌, ◌<◌, ◌≤◌, Bool, true, false, cond, ◌⊎◌, inl, inr, pos, ◌<ℤ◌, refl, ap, ◌∙◌, arith}
use Rattle.std.specs.Prelude.{nat_lt}
use Rattle.std.proofs.lemmas.Nat.{pow_pos}
use Rattle.std.proofs.lemmas.Bool.{cond-false, cases_Bool, ltb-true, ltb-false}
use Rattle.least_index.specs.Dictionary.{RationalDictionary}
use Rattle.least_index.specs.Rule.{is_end, next, pivots_within, pivots_left, Covers}
use Rattle.least_index.specs.Laws.{RuleEnds, PivotsFall}
use Rattle.least_index.proofs.Choice.{next_size}
use Rattle.least_index.proofs.Same.{same_pivots}
use Rattle.least_index.proofs.Stretch.{IsRun, run_is_short}

-- the dictionary after i pivots
unfoldable pub after : RationalDictionary → ℕ → RationalDictionary
after t zero = t
after t (suc i) = next (after t i)

after_next : (t : RationalDictionary) (i : ℕ) → after t (suc i) ≡ after (next t) i
unfolding after
after_next t zero = refl
after_next t (suc i) = ap next (after_next t i)

count_le : (b : Bool) (m n : ℕ) → m ≤ n → cond b zero (suc m) ≤ suc n
count_le true m n h = omega arith
count_le false m n h = omega arith

within-le : (n : ℕ) (t : RationalDictionary) → pivots_within n t ≤ n
unfolding pivots_within
within-le zero t = omega arith
within-le (suc n) t = count_le (is_end t) (pivots_within n (next t)) n (within-le n (next t))

count_all : (b : Bool) (m n : ℕ) → cond b zero (suc m) ≡ suc n → (b ≡ false) × (m ≡ n)
count_all true m n e = absurd (omega arith)
count_all false m n e = (refl, omega arith)

-- where all n are made, each is
all_going : (n : ℕ) (t : RationalDictionary) → pivots_within n t ≡ n → (i : ℕ) → i < n → is_end (after t i) ≡ false
unfolding pivots_within after
all_going zero t e i lt = absurd (omega arith)
all_going (suc n) t e zero lt = (count_all (is_end t) (pivots_within n (next t)) n e).0
all_going (suc n) t e (suc i) lt =
    ap is_end (after_next t i) ∙ all_going n (next t) (count_all (is_end t) (pivots_within n (next t)) n e).1 i (omega arith)

is_run : (n : ℕ) (t : RationalDictionary) → pos 0 <ℤ t.scale → pivots_within n t ≡ n → IsRun (after t) n
unfolding after
is_run n t h e = record {
  positive = h;
  going = all_going n t e;
  step = λ i lt. refl;
}

pub ends : RuleEnds
unfolding after
ends t h = from (cases_Bool (nat_lt (pivots_left t) (2 ^ t.size)))
  where
    from : (nat_lt (pivots_left t) (2 ^ t.size) ≡ true) ⊎ (nat_lt (pivots_left t) (2 ^ t.size) ≡ false) → pivots_left t < 2 ^ t.size
    from (inl e) = ltb-true (pivots_left t) (2 ^ t.size) e
    from (inr e) =
        let ge : 2 ^ t.size ≤ pivots_left t = ltb-false (pivots_left t) (2 ^ t.size) e in
        let le : pivots_left t ≤ 2 ^ t.size = within-le (2 ^ t.size) t in
        let all : pivots_left t ≡ 2 ^ t.size = omega arith in
        absurd (irreflexive (2 ^ t.size) (run_is_short (after t) (2 ^ t.size) (is_run (2 ^ t.size) t h all)))
      where
        irreflexive : (n : ℕ) → n < n → ⊥
        irreflexive n h = omega arith

count_more : (b : Bool) (m n k : ℕ) → cond b zero (suc m) < suc k → (m < k → n ≡ m) → cond b zero (suc n) ≡ cond b zero (suc m)
count_more true m n k h f = refl
count_more false m n k h f = ap suc (f (omega arith))

-- where fewer than n are made, one more is not
within-more : (n : ℕ) (t : RationalDictionary) → pivots_within n t < n → pivots_within (suc n) t ≡ pivots_within n t
unfolding pivots_within
within-more zero t h = absurd (omega arith)
within-more (suc n) t h =
    count_more (is_end t) (pivots_within n (next t)) (pivots_within (suc n) (next t)) n h (within-more n (next t))

within-next : (n : ℕ) (t : RationalDictionary) → is_end t ≡ false → pivots_within (suc n) t ≡ suc (pivots_within n (next t))
unfolding pivots_within
within-next n t e = cond-false (is_end t) zero (suc (pivots_within n (next t))) e

predecessor : (n : ℕ) → 0 < n → (m : ℕ) × (n ≡ suc m)
predecessor zero h = absurd (omega arith)
predecessor (suc m) h = (m, refl)

fewer : (t other : RationalDictionary) (m : ℕ) → 2 ^ t.size ≡ suc m → pos 0 <ℤ t.scale → is_end t ≡ false → Covers (next t) other → pivots_left other < pivots_left t
fewer t other m e h going c =
    let size : other.size ≡ t.size = c.size ∙ next_size t in
    let before : pivots_left t ≡ suc (pivots_within m (next t)) = ap (λ (n : ℕ). pivots_within n t) e ∙ within-next m t going in
    let bound : pivots_left t < 2 ^ t.size = ends t h in
    let same : pivots_within m (next t) ≡ pivots_within m other = same_pivots m (next t) other c in
    let after : pivots_left other ≡ pivots_within (suc m) other = ap (λ (n : ℕ). pivots_within (2 ^ n) other) size ∙ ap (λ (n : ℕ). pivots_within n other) e in
    let enough : pivots_within (suc m) other ≡ pivots_within m other = within-more m other (omega (arith, before, bound, same, e)) in
    omega (arith, before, after, enough, same)

pub fall : PivotsFall
fall t other h going c =
    let p : (m : ℕ) × (2 ^ t.size ≡ suc m) = predecessor (2 ^ t.size) (pow_pos t.size) in
    fewer t other p.0 p.1 h going c
