-- What `solve` finds: a vector, or weights that rule out every vector (Motzkin's transposition theorem, for rows of which some are strict).
use Rattle.std.specs.Prelude.{ℕ, ◌≡◌, ◌⊎◌, ◌+◌, ◌-◌, ◌<◌, ◌≤◌, List, length, count_by, All, Any, slice_index_or, ℤ, pos, ◌+ℤ◌, ◌<ℤ◌, ◌≤ℤ◌}
use Rattle.fraction_free.specs.declared.loaded.LoadedRow.{LoadedRow}
use Rattle.fraction_free.specs.Dictionary.{DictionaryView, loaded_at}
use Rattle.simplex.specs.declared.row_weights.RowWeight.{RowWeight}
use Rattle.simplex.specs.declared.found.Clash.{Clash}
use Rattle.simplex.specs.declared.found.Found.{Found}
use Rattle.simplex.specs.declared.found.Found.TheVariants.{Point}
use Rattle.simplex.specs.declared.found.Found.TheVariants as variant
use Rattle.simplex.specs.Rows.{MeetsRows, IsCoprime}
use Rattle.simplex.specs.Choice.{IsFeasible, IsLeavingRow, IsBlocked}
use Rattle.simplex.specs.Point.{IsPointOf}
use Rattle.simplex.specs.Equation.{IsClashOf}
use Rattle.simplex.specs.Weights.{is_weight, AreRowWeights, weighted}

-- a row's coefficient at a column; rows are numbered from 1, columns from 0
abbrev pub coefficient : List LoadedRow → ℕ → ℕ → ℤ
coefficient loaded column row = slice_index_or (loaded_at loaded (row - 1)).coefficients column (pos 0)

-- the row is loaded with the least 1
abbrev pub IsStrictRow : List LoadedRow → RowWeight → Type 0
IsStrictRow loaded item = (loaded_at loaded (item.row - 1)).least ≡ pos 1

-- weights at least 0 on increments and positive ones on loaded rows, which sum to 0 in each increment, with a positive weight on an increment or on a row whose least is 1; at most one weight more than there are increments isn't 0
pub record IsClash (columns : ℕ) (loaded : List LoadedRow) (clash : Clash) : Type 0 where
  pub len : length clash.increments ≡ columns
  pub own : All (λ weight. pos 0 ≤ℤ weight) clash.increments
  pub weights : AreRowWeights clash.rows
  pub loaded_rows : All (λ item. item.row ≤ length loaded) clash.rows
  pub sums : (column : ℕ) → column < columns → slice_index_or clash.increments column (pos 0) +ℤ weighted (coefficient loaded column) clash.rows ≡ pos 0
  pub strict : Any (λ weight. pos 0 <ℤ weight) clash.increments ⊎ Any (IsStrictRow loaded) clash.rows
  pub few : count_by is_weight clash.increments + length clash.rows ≤ columns + 1

-- a point meets the rows and has no common divisor; a clash is valid, and no vector meets the rows
abbrev pub IsFound : ℕ → List LoadedRow → Found → Type 0
IsFound columns loaded (Point vector) = MeetsRows columns loaded vector × IsCoprime vector
IsFound columns loaded (variant.Clash clash) = IsClash columns loaded clash × ((vector : List ℤ) → ¬ MeetsRows columns loaded vector)

-- the rule names no pivot: at a point no basic variable is below 0, and at a clash none helps the variable that is to leave; what is found is read off there
abbrev pub IsEnd : Found → DictionaryView → Type 0
IsEnd (Point vector) dictionary = IsFeasible dictionary × IsPointOf dictionary vector
IsEnd (variant.Clash clash) dictionary = (row : ℕ) × IsLeavingRow dictionary row × IsBlocked dictionary row × IsClashOf dictionary row clash

-- the rows and all that does not change by pivots are as before
pub record KeepsRows (old new : DictionaryView) : Type 0 where
  pub columns : new.columns ≡ old.columns
  pub loaded : new.loaded ≡ old.loaded
  pub room_columns : new.room_columns ≡ old.room_columns
  pub room_rows : new.room_rows ≡ old.room_rows
  pub loads : new.loads ≡ old.loads
  pub added : new.added ≡ old.added
