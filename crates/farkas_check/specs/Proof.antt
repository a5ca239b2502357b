-- When a combination of answers proves a verdict on a pair: the easy half of Motzkin's transposition theorem, for
-- strict rows (the increments, which are positive, and the answers left and right) and equalities (the answers equal).
use Rattle.std.specs.Prelude.{◌≡◌, ◌⊎◌, ℕ, ◌<◌, ◌≤◌, List, length, All, Any, ℤ, pos, ◌+ℤ◌, ◌*ℤ◌, ◌<ℤ◌, ◌≤ℤ◌}
use Rattle.criteria_model.specs.declared.pairs.Pair.{Pair}
use Rattle.criteria_model.specs.declared.pairs.Answer.{Answer}
use Rattle.criteria_model.specs.declared.pairs.Side.{Side}
use Rattle.criteria_model.specs.declared.pairs.Side.TheVariants.{Left, Right, Equal}
use Rattle.row_laws.specs.Rows.{entry}
use Rattle.criteria_model.specs.Worth.{increments}
use Rattle.criteria_model.specs.Answers.{gain}
use Rattle.farkas_check.specs.declared.cites.Cite.{Cite}
use Rattle.farkas_check.specs.declared.combination.Combination.{Combination}
use Rattle.farkas_check.specs.Sums.{cited_side, sum_of_cites}

-- the weights that may stand on an answer: any where it is equal, at least 0 on the others
abbrev pub MayWeigh : Side → ℤ → Type 0
MayWeigh Left weight = pos 0 ≤ℤ weight
MayWeigh Right weight = pos 0 ≤ℤ weight
MayWeigh Equal weight = Unit {0}

-- a positive weight on an answer that isn't equal
abbrev pub IsStrict : Side → ℤ → Type 0
IsStrict Left weight = pos 0 <ℤ weight
IsStrict Right weight = pos 0 <ℤ weight
IsStrict Equal weight = ⊥

-- some increment, or some cited answer that isn't equal, has a positive weight
abbrev pub HasStrict : List Answer → Combination → Type 0
HasStrict answers combination =
    Any (λ weight. pos 0 <ℤ weight) combination.increments
    ⊎ Any (λ cite. IsStrict (cited_side answers cite) cite.weight) combination.answers

-- the scale is at least 1
abbrev pub HasPositiveScale : Combination → Type 0
HasPositiveScale combination = pos 1 ≤ℤ combination.scale

-- each increment's own weight is at least 0
abbrev pub HasNonnegativeIncrements : Combination → Type 0
HasNonnegativeIncrements combination = All (λ weight. pos 0 ≤ℤ weight) combination.increments

-- the cited answer is there
abbrev pub IsThere : List Answer → Cite → Type 0
IsThere answers cite = (1 ≤ cite.answer) × (cite.answer ≤ length answers)

-- each cited answer is there
abbrev pub HasCited : List Answer → Combination → Type 0
HasCited answers combination = All (IsThere answers) combination.answers

-- each weight may stand on its answer
abbrev pub HasWeights : List Answer → Combination → Type 0
HasWeights answers combination = All (λ cite. MayWeigh (cited_side answers cite) cite.weight) combination.answers

-- at each increment, scale times what the verdict's winner has more is the sum of the cites and the increment's own weight
abbrev pub HasSums : List ℕ → List Answer → Combination → Pair → Side → Type 0
HasSums levels answers combination pair side =
    (place : ℕ) → place < increments levels
    → combination.scale *ℤ entry (gain levels pair side) place ≡ sum_of_cites levels answers combination.answers place +ℤ entry combination.increments place

-- something strict has a positive weight where the verdict is left or right, and nothing has where it is equal
abbrev pub IsStrictEnough : List Answer → Combination → Side → Type 0
IsStrictEnough answers combination Left = HasStrict answers combination
IsStrictEnough answers combination Right = HasStrict answers combination
IsStrictEnough answers combination Equal = ¬ HasStrict answers combination

-- the combination proves that the answers rank the pair so
pub record Proves (levels : List ℕ) (answers : List Answer) (combination : Combination) (pair : Pair) (side : Side) : Type 0 where
  pub len : length combination.increments ≡ increments levels
  pub scale : HasPositiveScale combination
  pub own : HasNonnegativeIncrements combination
  pub cited : HasCited answers combination
  pub weights : HasWeights answers combination
  pub sums : HasSums levels answers combination pair side
  pub strict : IsStrictEnough answers combination side
