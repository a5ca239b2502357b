-- When one pair's gain is at least another's at each increment.
use Rattle.std.proofs.Common.{◌≡◌, ◌≢◌, ◌↔◌, inl, inr, ℕ, zero, suc, ◌+◌, ◌-◌, ◌≤◌, ◌<◌, max, List, [], ◌∷◌, ◌++◌, length, map, get_or, ℤ, pos, ◌-ℤ◌, ◌≤ℤ◌, refl, ap₂, sym, subst, ◌∙◌, arith}
use Rattle.std.specs.Prelude.{All, EachIndex, slice_index}
use Rattle.std.specs.List.{range_with_len}
use Rattle.std.proofs.lemmas.Int.{ints}
use Rattle.std.proofs.lemmas.Bool.Decides.{nat_tests}
use Rattle.std.proofs.lemmas.Bool.{cases_lt}
use Rattle.std.proofs.lemmas.List.Elements.{All-nil, All-cons, All-append}
use Rattle.std.proofs.lemmas.List.FromFn.{get_or-map-range_with_len}
use Rattle.criteria_model.specs.declared.pairs.Pair.{Pair}
use Rattle.criteria_model.specs.declared.pairs.Answer.{Answer}
use Rattle.criteria_model.specs.declared.pairs.Side.{Side}
use Rattle.criteria_model.specs.declared.pairs.Side.TheVariants.{Left, Right, Equal}
use Rattle.row_laws.specs.Rows.{minus}
use Rattle.criteria_model.specs.Worth.{lies_above, has_on, has}
use Rattle.criteria_model.specs.Pairs.{FitsAt, IsFit, turned}
use Rattle.criteria_model.specs.Answers.{gain}
use Rattle.row_laws.proofs.RowLemmas.{length-minus, minus-append}
use Rattle.criteria_model.proofs.LevelLemmas.{length-has_on}
use Rattle.decider.specs.OneAnswer.{CoversAt, CoversOnEach, CoversAnswer, Suffices}
use Rattle.decider.proofs.AnswerRows.{All-first, All-later}

abbrev pub IsNonnegative : ℤ → Type 0
IsNonnegative x = pos 0 ≤ℤ x

-- ---- one criterion

-- at each increment, from `low` to `high` is gained at least what is gained from `other_low` to `other_high`
abbrev pub GainsAtLeast : ℕ → ℕ → ℕ → ℕ → Type 0
GainsAtLeast high low other_high other_low =
    (increment : ℕ) → (lies_above other_high increment -ℤ lies_above other_low increment) ≤ℤ (lies_above high increment -ℤ lies_above low increment)

covers_gains : (high low other_high other_low : ℕ) → CoversAt high low other_high other_low → GainsAtLeast high low other_high other_low
covers_gains high low other_high other_low (inl h) increment = grind (arith, ints, nat_tests)
covers_gains high low other_high other_low (inr h) increment = grind (arith, ints, nat_tests)

-- else an increment at which some level begins says otherwise
gains_cover : (high low other_high other_low : ℕ) → GainsAtLeast high low other_high other_low → CoversAt high low other_high other_low
gains_cover high low other_high other_low h =
    elim (cases_lt high other_high) [
      | inl a ↦ elim (cases_lt other_low other_high) [
        | inl b ↦ absurd (let e = h (max high other_low) in grind (arith, ints, nat_tests))
        | inr b ↦ elim (cases_lt high low) [ inl d ↦ absurd (let e = h high in grind (arith, ints, nat_tests)) | inr d ↦ inr (b, d) ]
      ]
      | inr a ↦ elim (cases_lt other_low low) [
        | inr b ↦ inl (a, b)
        | inl b ↦ elim (cases_lt other_low other_high) [
          | inl d ↦ absurd (let e = h other_low in grind (arith, ints, nat_tests))
          | inr d ↦ elim (cases_lt high low) [ inl f ↦ absurd (let e = h (max other_low high) in grind (arith, ints, nat_tests)) | inr f ↦ inr (d, f) ]
        ]
      ]
    ]

abbrev gain_on : ℕ → ℕ → ℕ → List ℤ
gain_on n high low = minus (has_on n high) (has_on n low)

nonnegative_map : (f g h k : ℕ → ℤ) (is : List ℕ) → ((i : ℕ) → (h i -ℤ k i) ≤ℤ (f i -ℤ g i)) → All IsNonnegative (minus (minus (map f is) (map g is)) (minus (map h is) (map k is)))
nonnegative_map f g h k [] each = All-nil IsNonnegative
nonnegative_map f g h k (i ∷ is) each =
    All-cons IsNonnegative ((f i -ℤ g i) -ℤ (h i -ℤ k i)) (minus (minus (map f is) (map g is)) (minus (map h is) (map k is))) (let e = each i in omega (arith, ints))
    (nonnegative_map f g h k is each)

get_or-minus : (a b : List ℤ) (k : ℕ) → length a ≡ length b → get_or (minus a b) k (pos 0) ≡ get_or a k (pos 0) -ℤ get_or b k (pos 0)
get_or-minus [] [] k e = omega (arith, ints)
get_or-minus [] (y ∷ b) k e = absurd (omega (arith, e))
get_or-minus (x ∷ a) [] k e = absurd (omega (arith, e))
get_or-minus (x ∷ a) (y ∷ b) zero e = refl
get_or-minus (x ∷ a) (y ∷ b) (suc k) e = get_or-minus a b k (omega arith)

length-gain_on : (n high low : ℕ) → length (gain_on n high low) ≡ n - 1
length-gain_on n high low = omega (arith, length-minus (has_on n high) (has_on n low), length-has_on n high, length-has_on n low)

on_place : (n a b c d i : ℕ) → i < n - 1 → get_or (minus (gain_on n a b) (gain_on n c d)) i (pos 0) ≡ (lies_above a (1 + i) -ℤ lies_above b (1 + i)) -ℤ (lies_above c (1 + i) -ℤ lies_above d (1 + i))
on_place n a b c d i lt =
    let at : (level : ℕ) → get_or (has_on n level) i (pos 0) ≡ lies_above level (1 + i) = λ level. get_or-map-range_with_len (lies_above level) 1 (n - 1) i (1 + i) (pos 0) lt refl in
    get_or-minus (gain_on n a b) (gain_on n c d) i (length-gain_on n a b ∙ sym (length-gain_on n c d))
    ∙ ap₂ (λ (x y : ℤ). x -ℤ y)
    (get_or-minus (has_on n a) (has_on n b) i (length-has_on n a ∙ sym (length-has_on n b)) ∙ ap₂ (λ (x y : ℤ). x -ℤ y) (at a) (at b))
    (get_or-minus (has_on n c) (has_on n d) i (length-has_on n c ∙ sym (length-has_on n d)) ∙ ap₂ (λ (x y : ℤ). x -ℤ y) (at c) (at d))

length-on : (n a b c d : ℕ) → length (minus (gain_on n a b) (gain_on n c d)) ≡ n - 1
length-on n a b c d = omega (arith, length-minus (gain_on n a b) (gain_on n c d), length-gain_on n a b, length-gain_on n c d)

-- what holds at the criterion's increments holds at each number, since levels lie within
gains_on : (n a b c d : ℕ) → FitsAt n a b → FitsAt n c d → All IsNonnegative (minus (gain_on n a b) (gain_on n c d)) → GainsAtLeast a b c d
gains_on n a b c d fits other all zero = none fits other
  where
    none : FitsAt n a b → FitsAt n c d → (lies_above c 0 -ℤ lies_above d 0) ≤ℤ (lies_above a 0 -ℤ lies_above b 0)
    none (inl h) (inl k) = grind (arith, ints, nat_tests)
    none (inl h) (inr k) = grind (arith, ints, nat_tests)
    none (inr h) (inl k) = grind (arith, ints, nat_tests)
    none (inr h) (inr k) = grind (arith, ints, nat_tests)
gains_on n a b c d fits other all (suc i) = elim (cases_lt i (n - 1)) [
  | inl lt ↦ (let e = all i (pos 0) (omega (arith, length-on n a b c d, lt)) in let f = on_place n a b c d i lt in within i e f)
  | inr ge ↦ past i ge fits other
]
  where
    within : (i : ℕ) → pos 0 ≤ℤ get_or (minus (gain_on n a b) (gain_on n c d)) i (pos 0)
        → get_or (minus (gain_on n a b) (gain_on n c d)) i (pos 0) ≡ (lies_above a (1 + i) -ℤ lies_above b (1 + i)) -ℤ (lies_above c (1 + i) -ℤ lies_above d (1 + i))
        → (lies_above c (suc i) -ℤ lies_above d (suc i)) ≤ℤ (lies_above a (suc i) -ℤ lies_above b (suc i))
    within i e f =
        let one : 1 + i ≡ suc i = omega arith in
        let g : pos 0 ≤ℤ ((lies_above a (suc i) -ℤ lies_above b (suc i)) -ℤ (lies_above c (suc i) -ℤ lies_above d (suc i))) =
        subst (λ (k : ℕ). pos 0 ≤ℤ ((lies_above a k -ℤ lies_above b k) -ℤ (lies_above c k -ℤ lies_above d k))) one (subst (λ (x : ℤ). pos 0 ≤ℤ x) f e) in
        omega (arith, ints, g)

    past : (i : ℕ) → n - 1 ≤ i → FitsAt n a b → FitsAt n c d → (lies_above c (suc i) -ℤ lies_above d (suc i)) ≤ℤ (lies_above a (suc i) -ℤ lies_above b (suc i))
    past i ge (inl h) (inl k) = grind (arith, ints, nat_tests)
    past i ge (inl h) (inr k) = grind (arith, ints, nat_tests)
    past i ge (inr h) (inl k) = grind (arith, ints, nat_tests)
    past i ge (inr h) (inr k) = grind (arith, ints, nat_tests)

-- ---- all criteria

abbrev gains : List ℕ → List ℕ → List ℕ → List ℤ
gains levels high low = minus (has levels high) (has levels low)

length-gains_on : (n a b : ℕ) → length (gain_on n a b) ≡ n - 1
length-gains_on n a b = omega (arith, length-minus (has_on n a) (has_on n b), length-has_on n a, length-has_on n b)

gains-cons : (n a b c d : ℕ) (levels high low other_high other_low : List ℕ)
    → minus (gains (n ∷ levels) (a ∷ high) (b ∷ low)) (gains (n ∷ levels) (c ∷ other_high) (d ∷ other_low)) ≡ minus (gain_on n a b) (gain_on n c d)
    ++ minus (gains levels high low) (gains levels other_high other_low)
gains-cons n a b c d levels high low other_high other_low =
    ap₂ minus (minus-append (has_on n a) (has levels high) (has_on n b) (has levels low) (length-has_on n a ∙ sym (length-has_on n b)))
    (minus-append (has_on n c) (has levels other_high) (has_on n d) (has levels other_low) (length-has_on n c ∙ sym (length-has_on n d)))
    ∙ minus-append (gain_on n a b) (gains levels high low) (gain_on n c d) (gains levels other_high other_low) (length-gains_on n a b ∙ sym (length-gains_on n c d))

-- two pairs of a model
record BothFit (levels high low other_high other_low : List ℕ) : Type 0 where
  high_len : length high ≡ length levels
  low_len : length low ≡ length levels
  other_high_len : length other_high ≡ length levels
  other_low_len : length other_low ≡ length levels
  places : EachIndex levels (λ k. FitsAt (slice_index levels k) (slice_index high k) (slice_index low k))
  other_places : EachIndex levels (λ k. FitsAt (slice_index levels k) (slice_index other_high k) (slice_index other_low k))

rest_fits : (n a b c d : ℕ) (levels high low other_high other_low : List ℕ) → BothFit (n ∷ levels) (a ∷ high) (b ∷ low) (c ∷ other_high) (d ∷ other_low)
    → BothFit levels high low other_high other_low
rest_fits n a b c d levels high low other_high other_low f = record {
  high_len = omega (arith, f.high_len);
  low_len = omega (arith, f.low_len);
  other_high_len = omega (arith, f.other_high_len);
  other_low_len = omega (arith, f.other_low_len);
  places = λ k l. f.places (suc k) (omega arith);
  other_places = λ k l. f.other_places (suc k) (omega arith);
}

covers_nonnegative : (levels high low other_high other_low : List ℕ) → BothFit levels high low other_high other_low → CoversOnEach high low other_high other_low
    → All IsNonnegative (minus (gains levels high low) (gains levels other_high other_low))
covers_nonnegative [] high low other_high other_low f covers = All-nil IsNonnegative
covers_nonnegative (n ∷ levels) [] low other_high other_low f covers = absurd (omega (arith, f.high_len))
covers_nonnegative (n ∷ levels) (a ∷ high) [] other_high other_low f covers = absurd (omega (arith, f.low_len))
covers_nonnegative (n ∷ levels) (a ∷ high) (b ∷ low) [] other_low f covers = absurd (omega (arith, f.other_high_len))
covers_nonnegative (n ∷ levels) (a ∷ high) (b ∷ low) (c ∷ other_high) [] f covers = absurd (omega (arith, f.other_low_len))
covers_nonnegative (n ∷ levels) (a ∷ high) (b ∷ low) (c ∷ other_high) (d ∷ other_low) f covers =
    subst (All IsNonnegative) (sym (gains-cons n a b c d levels high low other_high other_low))
    (All-append IsNonnegative (minus (gain_on n a b) (gain_on n c d)) (minus (gains levels high low) (gains levels other_high other_low))
    (nonnegative_map (lies_above a) (lies_above b) (lies_above c) (lies_above d) (range_with_len 1 (n - 1)) (covers_gains a b c d (covers 0 (omega arith))))
    (covers_nonnegative levels high low other_high other_low (rest_fits n a b c d levels high low other_high other_low f) (λ k l. covers (suc k) (omega arith))))

covers_cons : (a b c d : ℕ) (high low other_high other_low : List ℕ) → CoversAt a b c d → CoversOnEach high low other_high other_low
    → CoversOnEach (a ∷ high) (b ∷ low) (c ∷ other_high) (d ∷ other_low)
covers_cons a b c d high low other_high other_low here rest zero l = here
covers_cons a b c d high low other_high other_low here rest (suc k) l = rest k (omega arith)

nonnegative_covers : (levels high low other_high other_low : List ℕ) → BothFit levels high low other_high other_low
    → All IsNonnegative (minus (gains levels high low) (gains levels other_high other_low)) → CoversOnEach high low other_high other_low
nonnegative_covers [] [] low other_high other_low f all = λ k l. absurd (omega (arith, l))
nonnegative_covers [] (a ∷ high) low other_high other_low f all = absurd (omega (arith, f.high_len))
nonnegative_covers (n ∷ levels) [] low other_high other_low f all = absurd (omega (arith, f.high_len))
nonnegative_covers (n ∷ levels) (a ∷ high) [] other_high other_low f all = absurd (omega (arith, f.low_len))
nonnegative_covers (n ∷ levels) (a ∷ high) (b ∷ low) [] other_low f all = absurd (omega (arith, f.other_high_len))
nonnegative_covers (n ∷ levels) (a ∷ high) (b ∷ low) (c ∷ other_high) [] f all = absurd (omega (arith, f.other_low_len))
nonnegative_covers (n ∷ levels) (a ∷ high) (b ∷ low) (c ∷ other_high) (d ∷ other_low) f all =
    let both : All IsNonnegative (minus (gain_on n a b) (gain_on n c d) ++ minus (gains levels high low) (gains levels other_high other_low)) =
    subst (All IsNonnegative) (gains-cons n a b c d levels high low other_high other_low) all in
    covers_cons a b c d high low other_high other_low
    (gains_cover a b c d (gains_on n a b c d (f.places 0 (omega arith)) (f.other_places 0 (omega arith))
    (All-first IsNonnegative (minus (gain_on n a b) (gain_on n c d)) (minus (gains levels high low) (gains levels other_high other_low)) both)))
    (nonnegative_covers levels high low other_high other_low (rest_fits n a b c d levels high low other_high other_low f)
    (All-later IsNonnegative (minus (gain_on n a b) (gain_on n c d)) (minus (gains levels high low) (gains levels other_high other_low)) both))

-- ---- pairs

fits_turned : (levels : List ℕ) (pair : Pair) → IsFit levels pair → IsFit levels (turned pair)
fits_turned levels pair f = record { left_len = f.right_len; right_len = f.left_len; places = λ k l. exchanged _ _ _ (f.places k l) }
  where
    exchanged : (n a b : ℕ) → FitsAt n a b → FitsAt n b a
    exchanged n a b (inl h) = inl (h.1, h.0)
    exchanged n a b (inr h) = inr (h.2, h.3, h.0, h.1)

both_fit : (levels : List ℕ) (pair other : Pair) → IsFit levels pair → IsFit levels other → BothFit levels pair.left pair.right other.left other.right
both_fit levels pair other f g = record { high_len = f.left_len; low_len = f.right_len; other_high_len = g.left_len; other_low_len = g.right_len; places = f.places; other_places = g.places }

answer_covers : (levels : List ℕ) (pair known : Pair) (side : Side) → IsFit levels pair → IsFit levels known
    → CoversAnswer pair.left pair.right known side ↔ ((side ≢ Equal) × All IsNonnegative (minus (gain levels pair Left) (gain levels known side)))
answer_covers levels pair known Left f g = (
  λ covers. ((λ e. cc), covers_nonnegative levels pair.left pair.right known.left known.right (both_fit levels pair known f g) covers),
  λ h. nonnegative_covers levels pair.left pair.right known.left known.right (both_fit levels pair known f g) h.1,
)
answer_covers levels pair known Right f g = (
  λ covers. ((λ e. cc), covers_nonnegative levels pair.left pair.right known.right known.left (both_fit levels pair (turned known) f (fits_turned levels known g)) covers),
  λ h. nonnegative_covers levels pair.left pair.right known.right known.left (both_fit levels pair (turned known) f (fits_turned levels known g)) h.1,
)
answer_covers levels pair known Equal f g = (λ covers. absurd covers, λ h. absurd (h.0 refl))

-- the test on levels is that on gains
pub left_suffices : (levels high low : List ℕ) (answer : Answer) (pair : Pair) (verdict : Side) → high ≡ pair.left → low ≡ pair.right → verdict ≡ Left → IsFit levels answer.pair → IsFit levels pair
    → CoversAnswer high low answer.pair answer.side ↔ Suffices levels answer pair verdict
left_suffices levels high low answer pair verdict high_is low_is left g f =
    let same = answer_covers levels pair answer.pair answer.side f g in
    subst (λ (h : List ℕ). CoversAnswer h low answer.pair answer.side ↔ Suffices levels answer pair verdict) (sym high_is)
    (subst (λ (l : List ℕ). CoversAnswer pair.left l answer.pair answer.side ↔ Suffices levels answer pair verdict) (sym low_is)
    (subst (λ (s : Side). CoversAnswer pair.left pair.right answer.pair answer.side ↔ Suffices levels answer pair s) (sym left)
    ((λ covers. let h = same.0 covers in record { answer_strict = h.0; verdict_strict = λ e. cc; covers = h.1 }), (λ s. same.1 (s.answer_strict, s.covers)))))

pub right_suffices : (levels high low : List ℕ) (answer : Answer) (pair : Pair) (verdict : Side) → high ≡ pair.right → low ≡ pair.left → verdict ≡ Right → IsFit levels answer.pair
    → IsFit levels pair
    → CoversAnswer high low answer.pair answer.side ↔ Suffices levels answer pair verdict
right_suffices levels high low answer pair verdict high_is low_is right g f =
    let same = answer_covers levels (turned pair) answer.pair answer.side (fits_turned levels pair f) g in
    subst (λ (h : List ℕ). CoversAnswer h low answer.pair answer.side ↔ Suffices levels answer pair verdict) (sym high_is)
    (subst (λ (l : List ℕ). CoversAnswer pair.right l answer.pair answer.side ↔ Suffices levels answer pair verdict) (sym low_is)
    (subst (λ (s : Side). CoversAnswer pair.right pair.left answer.pair answer.side ↔ Suffices levels answer pair s) (sym right)
    ((λ covers. let h = same.0 covers in record { answer_strict = h.0; verdict_strict = λ e. cc; covers = h.1 }), (λ s. same.1 (s.answer_strict, s.covers)))))
