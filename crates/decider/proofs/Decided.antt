-- What a proof, or two vectors that open the pair, make a decision.
use Rattle.std.proofs.Common.{◌≡◌, ◌^◌, ◌<◌, ℕ, List, ℤ, pos, unsigned_abs, subst, arith}
use Rattle.std.specs.Int.{◌∣◌}
use Rattle.std.proofs.Math.Nat.{eq-one_of_dvd-one}
use Rattle.criteria_model.specs.declared.pairs.Pair.{Pair}
use Rattle.criteria_model.specs.declared.pairs.Answer.{Answer}
use Rattle.criteria_model.specs.declared.pairs.Side.{Side}
use Rattle.criteria_model.specs.Answers.{MeetsAll, IsRanked, IsOpen, Opens}
use Rattle.criteria_model.proofs.RankLemmas.{ranks_once, opened_is_open}
use Rattle.farkas_check.specs.declared.combination.Combination.{Combination}
use Rattle.farkas_check.specs.Proof.{Proves}
use Rattle.simplex.specs.Rows.{IsCoprime}
use Rattle.decider.specs.declared.decision.Decision.TheVariants.{Undecided, Implied}
use Rattle.decider.specs.Decisions.{numbers_of, IsDecision, IsExact}
use Rattle.decider.proofs.Verdicts.{ranked_of}

-- ---- a proof

pub proved_decision : (levels : List ℕ) (answers : List Answer) (pair : Pair) (side : Side) (combination : Combination) → Proves levels answers combination pair side
    → IsCoprime (numbers_of combination) → unsigned_abs combination.scale < 2 ^ 96 → IsDecision levels answers pair (Implied side combination)
proved_decision levels answers pair side combination proof reduced small = (proof, ranked_of levels answers combination pair side proof, reduced, small)

pub proved_exact : (levels : List ℕ) (answers : List Answer) (pair : Pair) (side : Side) (combination : Combination) (point : List ℤ) → Proves levels answers combination pair side
    → MeetsAll levels answers point → IsExact levels answers pair (Implied side combination)
proved_exact levels answers pair side combination point proof meets =
    let ranked = ranked_of levels answers combination pair side proof in
    record {
      open_pair = (λ none. absurd none, λ is_open. is_open side ranked);
      ranked_pair = λ other. (λ e. subst (IsRanked levels answers pair) e ranked, λ also. ranks_once levels point pair side other (ranked point meets) (also point meets));
    }

-- nothing above 1 divides a scale of 1
pub unit_scale_reduced : (combination : Combination) → combination.scale ≡ pos 1 → IsCoprime (numbers_of combination)
unit_scale_reduced combination one d divides = eq-one_of_dvd-one (subst (λ (n : ℤ). d ∣ unsigned_abs n) one (divides 0 (pos 0) (omega arith)))

-- ---- two vectors

pub opened_decision : (levels : List ℕ) (answers : List Answer) (pair : Pair) (plus minus : List ℤ) → Opens levels answers pair plus minus → IsCoprime plus → IsCoprime minus
    → IsDecision levels answers pair (Undecided plus minus)
opened_decision levels answers pair plus minus is plus_reduced minus_reduced = (is, opened_is_open levels answers pair plus minus is, plus_reduced, minus_reduced)

pub opened_exact : (levels : List ℕ) (answers : List Answer) (pair : Pair) (plus minus : List ℤ) → Opens levels answers pair plus minus → IsExact levels answers pair (Undecided plus minus)
opened_exact levels answers pair plus minus is =
    let is_open : IsOpen levels answers pair = opened_is_open levels answers pair plus minus is in
    record {
      open_pair = (λ none. is_open, λ h. tt);
      ranked_pair = λ side. (λ none. absurd none, λ ranked. is_open side ranked);
    }
