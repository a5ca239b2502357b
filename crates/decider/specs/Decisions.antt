-- What a decision on a pair says.
use Rattle.std.specs.Prelude.{ℕ, ◌<◌, ◌≤◌, ◌≡◌, ◌↔◌, List, ◌∷◌, ◌++◌, map, count_by, ℤ, unsigned_abs}
use Rattle.criteria_model.specs.declared.limits.TheConstants.{MAX_INCREMENTS, CERTIFICATE_BOUND}
use Rattle.criteria_model.specs.declared.pairs.Pair.{Pair}
use Rattle.criteria_model.specs.declared.pairs.Answer.{Answer}
use Rattle.criteria_model.specs.declared.pairs.Side.{Side}
use Rattle.criteria_model.specs.Answers.{Opens, IsOpen, IsRanked}
use Rattle.farkas_check.specs.declared.combination.Combination.{Combination}
use Rattle.farkas_check.specs.Proof.{Proves}
use Rattle.simplex.specs.Rows.{IsCoprime}
use Rattle.simplex.specs.Weights.{is_weight}
use Rattle.decider.specs.declared.decision.Decision.{Decision}
use Rattle.decider.specs.declared.decision.Decision.TheVariants.{Undecided, Implied}

-- all its numbers
abbrev pub numbers_of : Combination → List ℤ
numbers_of combination = combination.scale ∷ combination.increments ++ map (λ cite. cite.weight) combination.answers

-- two vectors that open the pair, each without a common divisor; or a combination without one, its scale below the bound of certificates, which proves the verdict, so that this is the pair's ranking
abbrev pub IsDecision : List ℕ → List Answer → Pair → Decision → Type 0
IsDecision levels answers pair (Undecided plus minus) = Opens levels answers pair plus minus × IsOpen levels answers pair × IsCoprime plus × IsCoprime minus
IsDecision levels answers pair (Implied verdict combination) =
    Proves levels answers combination pair verdict × IsRanked levels answers pair verdict × IsCoprime (numbers_of combination) × (unsigned_abs combination.scale < CERTIFICATE_BOUND)

-- it leaves the pair open
abbrev pub IsUndecided : Decision → Type 0
IsUndecided (Undecided plus minus) = Unit {0}
IsUndecided (Implied verdict combination) = ⊥

-- it ranks the pair so
abbrev pub Implies : Decision → Side → Type 0
Implies (Undecided plus minus) side = ⊥
Implies (Implied verdict combination) side = verdict ≡ side

-- undecided exactly where the pair is open, and implied exactly where it is ranked
pub record IsExact (levels : List ℕ) (answers : List Answer) (pair : Pair) (decision : Decision) : Type 0 where
  pub open_pair : IsUndecided decision ↔ IsOpen levels answers pair
  pub ranked_pair : (side : Side) → Implies decision side ↔ IsRanked levels answers pair side

-- its weights on increments and answers
abbrev pub weights_of : Combination → List ℤ
weights_of combination = combination.increments ++ map (λ cite. cite.weight) combination.answers

-- at most as many weights of its combination as a model has increments at most aren't 0
abbrev pub HasFewWeights : Decision → Type 0
HasFewWeights (Undecided plus minus) = Unit {0}
HasFewWeights (Implied verdict combination) = count_by is_weight (weights_of combination) ≤ MAX_INCREMENTS
