-- No class is open exactly where the answers rank every pair.
use Rattle.std.proofs.Common.{◌≡◌, ℕ, ◌<◌, ◌≤◌, ◌==◌, max, Bool, true, false, cond, not, List, [], ◌∷◌, length, get_or, Some, ℤ, ap, refl, sym, subst, ◌∙◌, inl, inr, arith}
use Rattle.std.specs.List.{zip}
use Rattle.std.proofs.lemmas.Bool.{eqb-true, eq-eqb}
use Rattle.std.proofs.lemmas.Int.{ints}
use Rattle.std.proofs.lemmas.List.Sums.{sum_by-cons}
use Rattle.row_laws.specs.Rows.{dot}
use Rattle.criteria_model.specs.declared.pairs.Pair.{Pair}
use Rattle.criteria_model.specs.declared.pairs.Side.{Side}
use Rattle.criteria_model.specs.declared.pairs.Side.TheVariants.{Left, Right, Equal}
use Rattle.criteria_model.specs.Alternatives.{IsAlternative, filled, degree}
use Rattle.criteria_model.specs.Pairs.{FitsAt}
use Rattle.criteria_model.specs.Classes.{IsClass}
use Rattle.criteria_model.specs.Worth.{worth}
use Rattle.criteria_model.specs.Answers.{Ranks, IsOpen}
use Rattle.criteria_model.proofs.LevelLemmas.{has-filled}
use Rattle.criteria_model.proofs.DominanceLemmas.{get_or-filled, length-filled}
use Rattle.pair_enumeration.specs.Listed.{Listed, IsListed}
use Rattle.pair_enumeration.proofs.PlaceLaws.{each_pair_has_place_lem}
use Rattle.pair_enumeration.proofs.SearchLemmas.{stands_contains}
use Rattle.survey_core.specs.Histories.{class_at}
use Rattle.survey_core.specs.Laws.{flipped_side}
use Rattle.survey_core.proofs.ListSteps.{some_and, some_at}
use Rattle.survey_core.proofs.RankingLemmas.{class_ranks_pairs_lem}
use Rattle.survey_replies.specs.declared.replies.NextReply.TheVariants.{Question, Full, Waiting, Complete}
use Rattle.survey_replies.specs.declared.replies.ValuesReply.TheVariants.{Values, Incomplete}
use Rattle.survey_replies.specs.Interview.{Interview}
use Rattle.survey_replies.specs.ReplyLaw.{HasOpenClass}
use Rattle.reply_laws.specs.Laws.{RankEveryPair, CompleteExactly, ValuesExactly}
use Rattle.reply_laws.proofs.Decided.{each_is_decided_lem}

-- ---- filled pairs
differ_less : (x y : ℕ) → cond (not (max 1 x == max 1 y)) 1 0 ≤ cond (not (x == y)) 1 0
differ_less x y =
    let go : (b : Bool) → (x == y) ≡ b → cond (not (max 1 x == max 1 y)) 1 0 ≤ cond (not b) 1 0 =
    λ b. elim b as (λ b. (x == y) ≡ b → cond (not (max 1 x == max 1 y)) 1 0 ≤ cond (not b) 1 0) [
      | true ↦ λ same.
          (let both : (max 1 x == max 1 y) ≡ true = eq-eqb (max 1 x) (max 1 y) (ap (λ n. max 1 n) (eqb-true x y same)) in
          rw both (omega arith))
      | false ↦ λ differ. one_at_most (not (max 1 x == max 1 y))
    ]
    in go (x == y) refl
  where
    one_at_most : (b : Bool) → cond b 1 0 ≤ 1
    one_at_most true = omega arith
    one_at_most false = omega arith

degree-filled : (a b : List ℕ) → degree (filled a) (filled b) ≤ degree a b
degree-filled [] b = omega arith
degree-filled (x ∷ a) [] = omega arith
degree-filled (x ∷ a) (y ∷ b) =
    omega (
      arith,
      sum_by-cons (λ (p : ℕ × ℕ). cond (not (p.0 == p.1)) 1 0) (max 1 x, max 1 y) (zip (filled a) (filled b)),
      sum_by-cons (λ (p : ℕ × ℕ). cond (not (p.0 == p.1)) 1 0) (x, y) (zip a b),
      differ_less x y,
      degree-filled a b,
    )

filled_low : (x : ℕ) → 1 ≤ max 1 x
filled_low x = omega arith

filled_high : (x n : ℕ) → 2 ≤ n → x ≤ n → max 1 x ≤ n
filled_high x n two within = omega arith

left_within : (n x y : ℕ) → FitsAt n x y → x ≤ n
left_within n x y (inl none) = omega (arith, none.0)
left_within n x y (inr both) = both.1

right_within : (n x y : ℕ) → FitsAt n x y → y ≤ n
right_within n x y (inl none) = omega (arith, none.1)
right_within n x y (inr both) = both.3

filled_alternative : (levels a : List ℕ) → length a ≡ length levels → ((k : ℕ) → k < length levels → 2 ≤ get_or levels k 0)
    → ((k : ℕ) → k < length levels → get_or a k 0 ≤ get_or levels k 0) → IsAlternative levels (filled a)
filled_alternative levels a len two within = record {
  len = length-filled a ∙ len;
  low = λ k lt. subst (λ n. 1 ≤ n) (sym (get_or-filled a k (omega arith))) (filled_low (get_or a k 0));
  high =
      λ k lt. subst (λ n. n ≤ get_or levels k 0) (sym (get_or-filled a k (omega arith)))
      (filled_high (get_or a k 0) (get_or levels k 0) (two k lt) (within k lt));
}

unfilled_ranks : (levels : List ℕ) (values : List ℤ) (left right : List ℕ) (side : Side)
    → Ranks levels values (record { left = filled left; right = filled right }) side → Ranks levels values (record { left = left; right = right }) side
unfilled_ranks levels values left right side ranks =
    unfilled side (ap (dot values) (has-filled levels left)) (ap (dot values) (has-filled levels right)) ranks
  where
    unfilled : (side : Side) → worth levels values (filled left) ≡ worth levels values left → worth levels values (filled right) ≡ worth levels values right
        → Ranks levels values (record { left = filled left; right = filled right }) side → Ranks levels values (record { left = left; right = right }) side
    unfilled Left one other h = omega (arith, ints, one, other, h)
    unfilled Right one other h = omega (arith, ints, one, other, h)
    unfilled Equal one other h = sym one ∙ h ∙ other

-- ---- open classes
module _ (listed : Listed) (now : Interview) (model : IsListed listed) where
  abbrev levels : List ℕ
  levels = listed.criteria.levels

  none_open : ¬ HasOpenClass listed now → RankEveryPair listed now.answers
  none_open none a b first second needs =
      let (place, flip, class) = each_pair_has_place_lem listed a b model first second needs in
      elim (each_is_decided_lem levels now.answers class.pair) [
        | inl (side, ranked) ↦
            (flipped_side flip side, class_ranks_pairs_lem listed now.answers place side class.pair a b flip class.stands ranked class)
        | inr is_open ↦
            absurd (none (place, some_at (class_at listed.classes place) (λ pair. IsOpen levels now.answers pair) class.pair class.stands is_open))
      ]

  all_ranked : RankEveryPair listed now.answers → ¬ HasOpenClass listed now
  all_ranked every (place, is_open) =
      let found : (pair : Pair) × (class_at listed.classes place ≡ Some pair) × IsOpen levels now.answers pair =
      some_and (class_at listed.classes place) (λ pair. IsOpen levels now.answers pair) is_open in
      let pair : Pair = found.0 in
      let class : IsClass listed.criteria pair = (model.list.members pair).0 (stands_contains listed.classes place pair found.1) in
      let two : (k : ℕ) → k < length levels → 2 ≤ get_or levels k 0 = λ k lt. model.model.two_levels k 0 lt in
      let left : IsAlternative levels (filled pair.left) =
      filled_alternative levels pair.left class.fits.left_len two
      (λ k lt. left_within (get_or levels k 0) (get_or pair.left k 0) (get_or pair.right k 0) (class.fits.places k lt)) in
      let right : IsAlternative levels (filled pair.right) =
      filled_alternative levels pair.right class.fits.right_len two
      (λ k lt. right_within (get_or levels k 0) (get_or pair.left k 0) (get_or pair.right k 0) (class.fits.places k lt)) in
      let ranked = every (filled pair.left) (filled pair.right) left right
      (record { undominated = class.undominated; within = omega (arith, degree-filled pair.left pair.right, class.within) }) in
      found.2 ranked.0 (λ values meets. unfilled_ranks levels values pair.left pair.right ranked.0 (ranked.1 values meets))

pub complete_exactly_lem : CompleteExactly
complete_exactly_lem listed now (Complete at) model by_law = (λ h. none_open listed now model by_law, λ every. tt)
complete_exactly_lem listed now (Full at) model by_law = (λ h. absurd h, λ every. all_ranked listed now model every by_law.1)
complete_exactly_lem listed now (Question at number place pair) model by_law =
    (λ h. absurd h, λ every. all_ranked listed now model every (place, by_law.1.is.0))
complete_exactly_lem listed now (Waiting at place plus minus) model by_law =
    (λ h. absurd h, λ every. all_ranked listed now model every (place, by_law.2.is))

pub values_exactly_lem : ValuesExactly
values_exactly_lem listed now (Values at vector) model by_law = (λ h. none_open listed now model by_law, λ every. tt)
values_exactly_lem listed now (Incomplete at place pair plus minus) model by_law =
    (λ h. absurd h, λ every. all_ranked listed now model every (place, by_law.0.is))
