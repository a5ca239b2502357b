-- Answers rank a pair, or leave it open.
use Rattle.std.proofs.Common.{◌≡◌, ◌⊎◌, ℕ, ◌≤◌, List, [], ◌∷◌, ◌++◌, length, map, ℤ, pos, neg_ℤ, ◌-ℤ◌, ◌<ℤ◌, ◌≤ℤ◌, sym, ◌∙◌, inl, inr, arith, length-append}
use Rattle.std.proofs.lemmas.Int.{ints}
use Rattle.std.specs.Prelude.{int_lt}
use Rattle.std.proofs.lemmas.Bool.{cases_Bool}
use Rattle.least_index.proofs.Choice.{negative, not_negative}
use Rattle.criteria_model.specs.declared.pairs.Pair.{Pair}
use Rattle.criteria_model.specs.declared.pairs.Answer.{Answer}
use Rattle.criteria_model.specs.declared.pairs.Side.{Side}
use Rattle.criteria_model.specs.declared.pairs.Side.TheVariants.{Left, Right, Equal}
use Rattle.row_laws.specs.Rows.{dot}
use Rattle.criteria_model.specs.Worth.{increments, has_on, has, worth}
use Rattle.criteria_model.specs.Answers.{Ranks, Meets, MeetsAll, IsOpen, gain}
use Rattle.criteria_model.proofs.GainLemmas.{ranks_favours, favours_ranks}
use Rattle.row_laws.proofs.RowLemmas.{dot-neg, length-minus}
use Rattle.std.proofs.lemmas.List.{length-map}
use Rattle.criteria_model.proofs.LevelLemmas.{length-has_on, increments-cons}
use Rattle.criteria_model.proofs.RankLemmas.{ranks_once}
use Rattle.survey_core.proofs.ListSteps.{Each, Each-append, Each-All, All-Each, Each-front, Each-back}
use Rattle.reply_laws.proofs.RowPoints.{LinearRow, IsShort, MeetsRow, rows_decided}
use Rattle.reply_laws.specs.Laws.{IsDecided, EachIsDecided}

length_has : (levels alternative : List ℕ) → length (has levels alternative) ≤ increments levels
length_has [] alternative = omega arith
length_has (n ∷ levels) [] = omega (arith, increments-cons n levels)
length_has (n ∷ levels) (level ∷ alternative) =
    omega (arith, increments-cons n levels, length-append (has_on n level) (has levels alternative), length-has_on n level, length_has levels alternative)

length_gain : (levels : List ℕ) (pair : Pair) (side : Side) → length (gain levels pair side) ≤ increments levels
length_gain levels pair Left = omega (arith, length-minus (has levels pair.left) (has levels pair.right), length_has levels pair.left, length_has levels pair.right)
length_gain levels pair Right = omega (arith, length-minus (has levels pair.right) (has levels pair.left), length_has levels pair.left, length_has levels pair.right)
length_gain levels pair Equal = omega (arith, length-minus (has levels pair.left) (has levels pair.right), length_has levels pair.left, length_has levels pair.right)

not_less : (a b : ℤ) → (¬ (a <ℤ b)) → b ≤ℤ a
not_less a b h =
    elim (cases_Bool (int_lt (a -ℤ b) (pos 0))) [
      | inl below ↦ (let less : (a -ℤ b) <ℤ pos 0 = negative (a -ℤ b) below in absurd (h (omega (arith, ints))))
      | inr above ↦ (let more : pos 0 ≤ℤ (a -ℤ b) = not_negative (a -ℤ b) above in omega (arith, ints))
    ]

equal_way : (a b : ℤ) → (¬ (b <ℤ a)) → (¬ (a <ℤ b)) → a ≡ b
equal_way a b h g = omega (arith, ints, not_less b a h, not_less a b g)

strict_way : (a b : ℤ) → (¬ (a <ℤ b)) → (¬ (a ≡ b)) → b <ℤ a
strict_way a b h g =
    elim (cases_Bool (int_lt (b -ℤ a) (pos 0))) [
      | inl below ↦ (let less : (b -ℤ a) <ℤ pos 0 = negative (b -ℤ a) below in omega (arith, ints))
      | inr above ↦
          (let more : pos 0 ≤ℤ (b -ℤ a) = not_negative (b -ℤ a) above in
          let same : a ≡ b = omega (arith, ints, not_less a b h) in
          absurd (g same))
    ]

module _ (levels : List ℕ) where
  -- the rows of an answer: an equal one has two
  abbrev rows_by : Pair → Side → List LinearRow
  rows_by pair Left = record { coefficients = gain levels pair Left; least = pos 1 } ∷ []
  rows_by pair Right = record { coefficients = gain levels pair Right; least = pos 1 } ∷ []
  rows_by pair Equal =
      record { coefficients = gain levels pair Equal; least = pos 0 } ∷ record { coefficients = map neg_ℤ (gain levels pair Equal); least = pos 0 } ∷ []

  abbrev rows_of : List Answer → List LinearRow
  rows_of [] = []
  rows_of (answer ∷ answers) = rows_by answer.pair answer.side ++ rows_of answers

  short_by : (pair : Pair) (side : Side) → Each (IsShort (increments levels)) (rows_by pair side)
  short_by pair Left = (record { len = length_gain levels pair Left; low = omega (arith, ints); high = omega (arith, ints) }, tt)
  short_by pair Right = (record { len = length_gain levels pair Right; low = omega (arith, ints); high = omega (arith, ints) }, tt)
  short_by pair Equal = (
    record { len = length_gain levels pair Equal; low = omega (arith, ints); high = omega (arith, ints) },
    (record { len = omega (arith, length_gain levels pair Equal, length-map (gain levels pair Equal) neg_ℤ); low = omega (arith, ints); high = omega (arith, ints) }, tt),
  )

  short_of : (answers : List Answer) → Each (IsShort (increments levels)) (rows_of answers)
  short_of [] = tt
  short_of (answer ∷ answers) =
      Each-append (IsShort (increments levels)) (rows_by answer.pair answer.side) (rows_of answers) (short_by answer.pair answer.side) (short_of answers)

  gives_by : (values : List ℤ) (pair : Pair) (side : Side) → Ranks levels values pair side → Each (MeetsRow values) (rows_by pair side)
  gives_by values pair Left h = (ranks_favours levels values pair Left h, tt)
  gives_by values pair Right h = (ranks_favours levels values pair Right h, tt)
  gives_by values pair Equal h =
      let zero : dot values (gain levels pair Equal) ≡ pos 0 = ranks_favours levels values pair Equal h in
      (omega (arith, ints, zero), (omega (arith, ints, zero, dot-neg values (gain levels pair Equal)), tt))

  by_gives : (values : List ℤ) (pair : Pair) (side : Side) → Each (MeetsRow values) (rows_by pair side) → Ranks levels values pair side
  by_gives values pair Left h = favours_ranks levels values pair Left h.0
  by_gives values pair Right h = favours_ranks levels values pair Right h.0
  by_gives values pair Equal h =
      let zero : dot values (gain levels pair Equal) ≡ pos 0 = omega (arith, ints, h.0, h.1.0, dot-neg values (gain levels pair Equal)) in
      favours_ranks levels values pair Equal zero

  gives_of : (values : List ℤ) (answers : List Answer) → Each (Meets levels values) answers → Each (MeetsRow values) (rows_of answers)
  gives_of values [] h = tt
  gives_of values (answer ∷ answers) h =
      Each-append (MeetsRow values) (rows_by answer.pair answer.side) (rows_of answers) (gives_by values answer.pair answer.side h.0) (gives_of values answers h.1)

  of_gives : (values : List ℤ) (answers : List Answer) → Each (MeetsRow values) (rows_of answers) → Each (Meets levels values) answers
  of_gives values [] h = tt
  of_gives values (answer ∷ answers) h = (
    by_gives values answer.pair answer.side (Each-front (MeetsRow values) (rows_by answer.pair answer.side) (rows_of answers) h),
    of_gives values answers (Each-back (MeetsRow values) (rows_by answer.pair answer.side) (rows_of answers) h),
  )

  module _ (answers : List Answer) (pair : Pair) where
    -- a value vector that meets the answers ranks the pair so
    abbrev Ranked : Side → Type 0
    Ranked side = (values : List ℤ) × MeetsAll levels answers values × Ranks levels values pair side

    found : (side : Side) → Ranked side ⊎ (¬ Ranked side)
    found side =
        elim (rows_decided (increments levels) (rows_by pair side ++ rows_of answers)
        (Each-append (IsShort (increments levels)) (rows_by pair side) (rows_of answers) (short_by pair side) (short_of answers))) [
          | inl point ↦
              inl (
                point.values,
                record {
                  vector = record { len = point.len; positive = point.positive };
                  each = Each-All (Meets levels point.values) answers (of_gives point.values answers (Each-back (MeetsRow point.values) (rows_by pair side) (rows_of answers) point.each));
                },
                by_gives point.values pair side (Each-front (MeetsRow point.values) (rows_by pair side) (rows_of answers) point.each),
              )
          | inr none ↦
              inr (λ (values, meets, ranks).
              none values meets.vector.len meets.vector.positive
              (Each-append (MeetsRow values) (rows_by pair side) (rows_of answers) (gives_by values pair side ranks) (gives_of values answers (All-Each (Meets levels values) answers meets.each))))
        ]

    both_open : (one other : Side) → (one ≡ other → ⊥) → Ranked one → Ranked other → IsOpen levels answers pair
    both_open one other differ (v, v_meets, v_ranks) (w, w_meets, w_ranks) side ranked =
        differ (sym (ranks_once levels v pair side one (ranked v v_meets) v_ranks) ∙ ranks_once levels w pair side other (ranked w w_meets) w_ranks)

    -- any values rank the pair in some way
    some_way : (values : List ℤ) → (¬ Ranks levels values pair Left) → (¬ Ranks levels values pair Right) → Ranks levels values pair Equal
    some_way values left right = equal_way (worth levels values pair.left) (worth levels values pair.right) left right

    pub decided : IsDecided levels answers pair
    decided =
        elim (found Left) [
          | inl left ↦
              elim (found Right) [
                | inl right ↦ inr (both_open Left Right (λ h. cc) left right)
                | inr no_right ↦
                    elim (found Equal) [
                      | inl equal ↦ inr (both_open Left Equal (λ h. cc) left equal)
                      | inr no_equal ↦ inl (
                        Left,
                        λ values meets.
                            strict_way (worth levels values pair.left) (worth levels values pair.right) (λ h. no_right (values, meets, h)) (λ h. no_equal (values, meets, h)),
                      )
                    ]
              ]
          | inr no_left ↦
              elim (found Right) [
                | inl right ↦
                    elim (found Equal) [
                      | inl equal ↦ inr (both_open Right Equal (λ h. cc) right equal)
                      | inr no_equal ↦ inl (
                        Right,
                        λ values meets.
                            strict_way (worth levels values pair.right) (worth levels values pair.left) (λ h. no_left (values, meets, h)) (λ h. no_equal (values, meets, sym h)),
                      )
                    ]
                | inr no_right ↦ inl (Equal, λ values meets. some_way values (λ h. no_left (values, meets, h)) (λ h. no_right (values, meets, h)))
              ]
        ]

pub each_is_decided_lem : EachIsDecided
each_is_decided_lem levels answers pair = decided levels answers pair
