-- Answers, and what follows from them for all value vectors (PAPRIKA: Hansen and Ombler 2008).
use Rattle.std.specs.Prelude.{◌≡◌, ℕ, List, All, ℤ, ◌<ℤ◌}
use Rattle.criteria_model.specs.declared.pairs.Pair.{Pair}
use Rattle.criteria_model.specs.declared.pairs.Answer.{Answer}
use Rattle.criteria_model.specs.declared.pairs.Side.{Side}
use Rattle.criteria_model.specs.declared.pairs.Side.TheVariants.{Left, Right, Equal}
use Rattle.row_laws.specs.Rows.{minus}
use Rattle.criteria_model.specs.Worth.{has, worth, IsValueVector}

-- by these values the pair's left side is worth more, or less, or as much
abbrev pub Ranks : List ℕ → List ℤ → Pair → Side → Type 0
Ranks levels values pair Left = worth levels values pair.right <ℤ worth levels values pair.left
Ranks levels values pair Right = worth levels values pair.left <ℤ worth levels values pair.right
Ranks levels values pair Equal = worth levels values pair.left ≡ worth levels values pair.right

-- the values rank the answer's pair as the answer says
abbrev pub Meets : List ℕ → List ℤ → Answer → Type 0
Meets levels values answer = Ranks levels values answer.pair answer.side

-- a value vector that meets each answer
pub record MeetsAll (levels : List ℕ) (answers : List Answer) (values : List ℤ) : Type 0 where
  pub vector : IsValueVector levels values
  pub each : All (Meets levels values) answers

-- some value vector meets them all
abbrev pub IsSatisfiable : List ℕ → List Answer → Type 0
IsSatisfiable levels answers = (values : List ℤ) × MeetsAll levels answers values

-- every value vector that meets the answers ranks the pair so
abbrev pub IsRanked : List ℕ → List Answer → Pair → Side → Type 0
IsRanked levels answers pair side = (values : List ℤ) → MeetsAll levels answers values → Ranks levels values pair side

-- the answers rank the pair in none of the three ways
abbrev pub IsOpen : List ℕ → List Answer → Pair → Type 0
IsOpen levels answers pair = (side : Side) → ¬ IsRanked levels answers pair side

-- two value vectors that meet the answers; by the first the left side is worth more, by the second less
pub record Opens (levels : List ℕ) (answers : List Answer) (pair : Pair) (plus minus : List ℤ) : Type 0 where
  pub plus_meets : MeetsAll levels answers plus
  pub minus_meets : MeetsAll levels answers minus
  pub more : Ranks levels plus pair Left
  pub less : Ranks levels minus pair Right

-- for each increment: the winner has it, minus the loser has it; for equal, left counts as the winner
abbrev pub gain : List ℕ → Pair → Side → List ℤ
gain levels pair Left = minus (has levels pair.left) (has levels pair.right)
gain levels pair Right = minus (has levels pair.right) (has levels pair.left)
gain levels pair Equal = minus (has levels pair.left) (has levels pair.right)

-- the side, seen from the other side of the pair
abbrev pub turned_side : Side → Side
turned_side Left = Right
turned_side Right = Left
turned_side Equal = Equal
