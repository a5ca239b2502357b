-- What follows from one answer and the increments.
use Rattle.std.specs.Prelude.{ℕ, ◌≢◌, ◌⊎◌, ◌≤◌, List, slice_index, EachIndex, All, pos, ◌≤ℤ◌}
use Rattle.criteria_model.specs.declared.pairs.Pair.{Pair}
use Rattle.criteria_model.specs.declared.pairs.Answer.{Answer}
use Rattle.criteria_model.specs.declared.pairs.Side.{Side}
use Rattle.criteria_model.specs.declared.pairs.Side.TheVariants.{Left, Right, Equal}
use Rattle.row_laws.specs.Rows.{minus}
use Rattle.criteria_model.specs.Answers.{gain}

-- on one criterion, by its levels: from `low` to `high` lie all increments between `other_low` and `other_high`, or the one rises and the other falls; or it falls less far
abbrev pub CoversAt : ℕ → ℕ → ℕ → ℕ → Type 0
CoversAt high low other_high other_low = ((other_high ≤ high) × (low ≤ other_low)) ⊎ ((other_high ≤ other_low) × (low ≤ high))

-- the same on each criterion
abbrev pub CoversOnEach : List ℕ → List ℕ → List ℕ → List ℕ → Type 0
CoversOnEach high low other_high other_low =
    EachIndex high (λ k. CoversAt (slice_index high k) (slice_index low k) (slice_index other_high k) (slice_index other_low k))

-- the same against an answer's winner and loser; one that is equal has none
abbrev pub CoversAnswer : List ℕ → List ℕ → Pair → Side → Type 0
CoversAnswer high low pair Left = CoversOnEach high low pair.left pair.right
CoversAnswer high low pair Right = CoversOnEach high low pair.right pair.left
CoversAnswer high low pair Equal = ⊥

-- the answer and the increments give the ranking: neither is equal, and at each increment the pair's winner gains at least what the answer's winner gains
pub record Suffices (levels : List ℕ) (answer : Answer) (pair : Pair) (side : Side) : Type 0 where
  pub answer_strict : answer.side ≢ Equal
  pub verdict_strict : side ≢ Equal
  pub covers : All (λ x. pos 0 ≤ℤ x) (minus (gain levels pair side) (gain levels answer.pair answer.side))
