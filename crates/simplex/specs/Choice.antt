-- The least-index rule on a dictionary (Bland 1977). Rows and columns are counted from 0.
use Rattle.std.specs.Prelude.{ℕ, ◌<◌, ◌≤◌, length, slice_index, pos, ◌<ℤ◌, ◌≤ℤ◌}
use Rattle.fraction_free.specs.Dictionary.{DictionaryView, entry_in, constant_in}
use Rattle.fraction_free.specs.Changes.{IsPivoted}

-- no basic variable is below 0 where the nonbasic ones are 0
abbrev pub IsFeasible : DictionaryView → Type 0
IsFeasible dictionary = (row : ℕ) → row < length dictionary.loaded → pos 0 ≤ℤ constant_in dictionary row

-- the row of the least basic variable that is
pub record IsLeavingRow (dictionary : DictionaryView) (row : ℕ) : Type 0 where
  pub within : row < length dictionary.loaded
  pub negative : constant_in dictionary row <ℤ pos 0
  pub least : (other : ℕ) → other < length dictionary.loaded → constant_in dictionary other <ℤ pos 0 → slice_index dictionary.basic row ≤ slice_index dictionary.basic other

-- no nonbasic variable helps the row's variable to rise
abbrev pub IsBlocked : DictionaryView → ℕ → Type 0
IsBlocked dictionary row = (column : ℕ) → column < dictionary.columns → entry_in dictionary row column ≤ℤ pos 0

-- the column of the least nonbasic variable that does
pub record IsEnteringColumn (dictionary : DictionaryView) (row column : ℕ) : Type 0 where
  pub within : column < dictionary.columns
  pub positive : pos 0 <ℤ entry_in dictionary row column
  pub least : (other : ℕ) → other < dictionary.columns → pos 0 <ℤ entry_in dictionary row other → slice_index dictionary.nonbasic column ≤ slice_index dictionary.nonbasic other

-- the rule's pivot: the least infeasible variable leaves, and the least one that helps it enters
pub record IsRulePivot (old new : DictionaryView) (row column : ℕ) : Type 0 where
  pub leaving : IsLeavingRow old row
  pub entering : IsEnteringColumn old row column
  pub pivoted : IsPivoted old new row column

-- the rule's pivots lead from one dictionary to the other
pub data IsReached (start : DictionaryView) : DictionaryView → Type 0 where
  here : IsReached start start
  further : (old new : DictionaryView) (row column : ℕ) → IsReached start old → IsRulePivot old new row column → IsReached start new
