-- Which part of a proof fails first.
use Rattle.std.specs.Prelude.{ℕ, List, Option, Some, None}
use Rattle.criteria_model.specs.declared.pairs.Pair.{Pair}
use Rattle.criteria_model.specs.declared.pairs.Answer.{Answer}
use Rattle.criteria_model.specs.declared.pairs.Side.{Side}
use Rattle.farkas_check.specs.declared.combination.Combination.{Combination}
use Rattle.farkas_check.specs.declared.flaws.Flaw.{Flaw}
use Rattle.farkas_check.specs.declared.flaws.Flaw.TheVariants.{Scale, Increment, Cite, Weight, Sum, Strict}
use Rattle.farkas_check.specs.Proof.{HasPositiveScale, HasNonnegativeIncrements, HasCited, HasWeights, HasSums, IsStrictEnough, Proves}

-- the named part fails and those before it hold; with no flaw the combination proves the verdict
abbrev pub IsFirstFlaw : List ℕ → List Answer → Combination → Pair → Side → Option Flaw → Type 0
IsFirstFlaw levels answers c pair side None = Proves levels answers c pair side
IsFirstFlaw levels answers c pair side (Some Scale) = ¬ HasPositiveScale c
IsFirstFlaw levels answers c pair side (Some Increment) = HasPositiveScale c × (¬ HasNonnegativeIncrements c)
IsFirstFlaw levels answers c pair side (Some Cite) = HasPositiveScale c × HasNonnegativeIncrements c × (¬ HasCited answers c)
IsFirstFlaw levels answers c pair side (Some Weight) = HasPositiveScale c × HasNonnegativeIncrements c × HasCited answers c × (¬ HasWeights answers c)
IsFirstFlaw levels answers c pair side (Some Sum) =
    HasPositiveScale c × HasNonnegativeIncrements c × HasCited answers c × HasWeights answers c × (¬ HasSums levels answers c pair side)
IsFirstFlaw levels answers c pair side (Some Strict) =
    HasPositiveScale c × HasNonnegativeIncrements c × HasCited answers c × HasWeights answers c × HasSums levels answers c pair side × (¬ IsStrictEnough answers c side)
