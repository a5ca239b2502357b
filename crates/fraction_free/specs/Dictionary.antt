-- A dictionary as contracts see it, and the assignments that satisfy it (a dictionary as in Chvátal 1983, all times one scale).
-- The variables have numbers: 1 to the number of columns are the increments minus 1, and then one slack for each loaded row. Number 0 stands for the constant 1.
use Rattle.std.specs.Prelude.{ℕ, ◌+◌, ◌*◌, ◌≡◌, ◌<◌, ◌≤◌, ◌⊎◌, ◌↔◌, List, [], ◌∷◌, ◌++◌, length, map, slice_index, slice_index_or, ℤ, pos, ◌+ℤ◌, ◌-ℤ◌, ◌*ℤ◌, ◌≤ℤ◌, unsigned_abs}
use Rattle.std.specs.List.{range_with_len}
use Rattle.criteria_model.specs.Lists.{IsRow}
use Rattle.row_laws.specs.Rows.{entry, dot}
use Rattle.minors.specs.Minor.{factorial}
use Rattle.criteria_model.specs.declared.limits.TheConstants.{MAX_INCREMENTS}
use Rattle.fraction_free.specs.declared.limits.TheConstants.{MAX_ROWS}
use Rattle.fraction_free.specs.declared.loaded.LoadedRow.{LoadedRow}
use Rattle.fraction_free.specs.Arrangement.{IsArrangement}

-- what a dictionary holds; a line has the entries of a row, one for each column, and then its constant
pub record DictionaryView : Type 0 where
  pub columns : ℕ
  pub loaded : List LoadedRow
  pub scale : ℤ
  pub nonbasic : List ℕ
  pub basic : List ℕ
  pub lines : List (List ℤ)
  pub room_columns : ℕ
  pub room_rows : ℕ
  pub loads : ℕ
  pub added : ℕ

-- the numbers of a row, counted from 0
abbrev pub line_of : DictionaryView → ℕ → List ℤ
line_of dictionary row = slice_index_or dictionary.lines row []

-- the number of a row at a column, by which the nonbasic variable is multiplied
abbrev pub entry_in : DictionaryView → ℕ → ℕ → ℤ
entry_in dictionary row column = entry (line_of dictionary row) column

-- the constant of a row
abbrev pub constant_in : DictionaryView → ℕ → ℤ
constant_in dictionary row = entry (line_of dictionary row) dictionary.columns

-- the variables of the columns, and of the constants
abbrev pub column_variables : DictionaryView → List ℕ
column_variables dictionary = dictionary.nonbasic ++ 0 ∷ []

-- an assignment satisfies each row: the scale times the basic variable is the constant plus the sum of entry times nonbasic variable.
-- The value at 0 stands for 1: values over it are rational numbers
pub record Satisfies (dictionary : DictionaryView) (x : ℕ → ℤ) : Type 0 where
  pub each : (row : ℕ) → row < length dictionary.basic
      → dictionary.scale *ℤ x (slice_index dictionary.basic row) ≡ dot (line_of dictionary row) (map x (column_variables dictionary))

-- the increments of an assignment: one more than the variables
abbrev pub vector_of : ℕ → (ℕ → ℤ) → List ℤ
vector_of columns x = map (λ variable. x variable +ℤ x 0) (range_with_len 1 columns)

-- a row that isn't there
abbrev pub no_row : LoadedRow
no_row = record { coefficients = []; least = pos 0 }

-- the row that was loaded at a place, counted from 0
abbrev pub loaded_at : List LoadedRow → ℕ → LoadedRow
loaded_at loaded row = slice_index_or loaded row no_row

-- by how much the coefficients times the vector are above the least
abbrev pub slack_of : ℕ → LoadedRow → (ℕ → ℤ) → ℤ
slack_of columns row x = dot row.coefficients (vector_of columns x) -ℤ row.least *ℤ x 0

-- in an assignment each slack is that of its loaded row
pub record HasSlacks (columns : ℕ) (loaded : List LoadedRow) (x : ℕ → ℤ) : Type 0 where
  pub each : (row : ℕ) → row < length loaded → x (columns + 1 + row) ≡ slack_of columns (loaded_at loaded row) x

-- a row that may be loaded: -1, 0 or 1 for each column, and a least of 0 or 1
pub record IsLoadable (columns : ℕ) (row : LoadedRow) : Type 0 where
  pub coefficients : IsRow row.coefficients
  pub len : length row.coefficients ≡ columns
  pub least : (row.least ≡ pos 0) ⊎ (row.least ≡ pos 1)

-- 25 times 25!, which bounds every number of a dictionary
abbrev pub max_number : ℕ
max_number = 25 * factorial 25

-- what holds of each dictionary
pub record IsDictionary (dictionary : DictionaryView) : Type 0 where
  pub columns_some : 1 ≤ dictionary.columns
  pub columns_most : dictionary.columns ≤ MAX_INCREMENTS
  pub columns_room : dictionary.columns ≤ dictionary.room_columns
  pub rows_room : length dictionary.loaded ≤ dictionary.room_rows
  pub rows_most : dictionary.room_rows ≤ MAX_ROWS
  pub nonbasic_len : length dictionary.nonbasic ≡ dictionary.columns
  pub basic_len : length dictionary.basic ≡ length dictionary.loaded
  pub lines_len : length dictionary.lines ≡ length dictionary.loaded
  pub line_len : (row : ℕ) → row < length dictionary.loaded → length (line_of dictionary row) ≡ dictionary.columns + 1
  pub rows : (row : ℕ) → row < length dictionary.loaded → IsLoadable dictionary.columns (loaded_at dictionary.loaded row)
  -- each variable is that of one column or of one row
  pub variables : IsArrangement (dictionary.nonbasic ++ 0 ∷ dictionary.basic)
  pub positive : pos 1 ≤ℤ dictionary.scale
  pub scale_size : unsigned_abs dictionary.scale ≤ max_number
  pub sizes : (row column : ℕ) → row < length dictionary.loaded → column ≤ dictionary.columns
      → unsigned_abs (entry_in dictionary row column) ≤ max_number
  -- the assignments that satisfy it are those of the loaded rows' slacks
  pub solutions : (x : ℕ → ℤ) → Satisfies dictionary x ↔ HasSlacks dictionary.columns dictionary.loaded x
