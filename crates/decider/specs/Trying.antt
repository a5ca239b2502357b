-- Rankings tried beside the rows of a dictionary.
use Rattle.std.specs.Prelude.{ℕ, ◌≡◌, List, ℤ}
use Rattle.criteria_model.specs.declared.pairs.Pair.{Pair}
use Rattle.criteria_model.specs.declared.pairs.Side.{Side}
use Rattle.criteria_model.specs.declared.pairs.Side.TheVariants.{Left, Right, Equal}
use Rattle.criteria_model.specs.Answers.{Ranks}
use Rattle.fraction_free.specs.declared.loaded.LoadedRow.{LoadedRow}
use Rattle.fraction_free.specs.Dictionary.{DictionaryView}
use Rattle.simplex.specs.Rows.{MeetsRows, IsCoprime}
use Rattle.decider.specs.Standing.{KeepsRoom, RisesAtMost}

-- the ranking that is tried against one that a vector gives
abbrev pub against : Side → Side
against Left = Right
against Right = Left
against Equal = Right

-- two vectors without common divisors that meet the rows; by the first the pair's left side is worth more, by the second less
pub record OpensRows (levels : List ℕ) (columns : ℕ) (loaded : List LoadedRow) (pair : Pair) (plus minus : List ℤ) : Type 0 where
  pub plus_meets : MeetsRows columns loaded plus
  pub minus_meets : MeetsRows columns loaded minus
  pub more : Ranks levels plus pair Left
  pub less : Ranks levels minus pair Right
  pub plus_reduced : IsCoprime plus
  pub minus_reduced : IsCoprime minus

-- the same rows as before, and no load; at most `most` rows were added
pub record IsTried (old new : DictionaryView) (most : ℕ) : Type 0 where
  pub columns : new.columns ≡ old.columns
  pub loaded : new.loaded ≡ old.loaded
  pub room : KeepsRoom old new
  pub loads : new.loads ≡ old.loads
  pub added : RisesAtMost old.added new.added most
