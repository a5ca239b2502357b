-- How a dictionary keeps what it promises: scale and entries are minors of the table of its variables.
-- The table has a row for each variable, and a column for each increment and one for the constant 1.
use Rattle.std.specs.Prelude.{ℕ, ◌+◌, ◌-◌, ◌≡◌, ◌<◌, ◌≤◌, List, [], ◌∷◌, ◌++◌, length, take, map, slice_index, slice_index_or, ℤ, pos, neg_ℤ, ◌+ℤ◌, ◌-ℤ◌, ◌*ℤ◌, ◌≤ℤ◌, ◌≢◌, unsigned_abs, fold, if◌then◌else◌, ◌==◌, nat_le, nat_lt, slice_set, replicate}
use Rattle.std.specs.List.{range_with_len}
use Rattle.wide_step.specs.Quotient.{HasQuotient}
use Rattle.row_laws.specs.Rows.{entry}
use Rattle.fraction_free.specs.Changes.{IsOtherLine, IsPivotLine}
use Rattle.minors.specs.Combination.{IsCombination, IsScale}
use Rattle.criteria_model.specs.declared.limits.TheConstants.{MAX_INCREMENTS}
use Rattle.fraction_free.specs.declared.limits.TheConstants.{MAX_ROWS, NUMBER_BOUND}
use Rattle.fraction_free.specs.declared.loaded.LoadedRow.{LoadedRow}
use Rattle.fraction_free.specs.Arrangement.{IsArrangement, Arranged}
use Rattle.fraction_free.specs.Dictionary.{DictionaryView, IsLoadable, HasSlacks, Satisfies, loaded_at}

-- the row of the identity with its 1 at a place
abbrev pub unit : ℕ → ℕ → List ℤ
unit order place = map (λ column. if column == place then pos 1 else pos 0) (range_with_len 0 order)

-- the constant of a loaded row's slack: where all variables are 0, each increment is 1
abbrev pub slack_constant : LoadedRow → ℤ
slack_constant row = fold ◌+ℤ◌ (neg_ℤ row.least) row.coefficients

-- the table's row of a slack: the coefficients, and the constant
abbrev pub row_of : LoadedRow → List ℤ
row_of row = row.coefficients ++ slack_constant row ∷ []

-- the table's row of a variable; that of the constant 1 is number 0
abbrev pub table_row : ℕ → List LoadedRow → ℕ → List ℤ
table_row columns loaded variable =
    if variable == 0 then unit (columns + 1) columns else
    if nat_le variable columns then unit (columns + 1) (variable - 1) else
    row_of (loaded_at loaded (variable - columns - 1))

-- the rows of the variables of the columns and of the constant 1
abbrev pub square_of : ℕ → List LoadedRow → List ℕ → List (List ℤ)
square_of columns loaded order = map (table_row columns loaded) (take (columns + 1) order)

-- scale and lines are minors, up to one common sign
pub record AreMinors (columns : ℕ) (loaded : List LoadedRow) (scale : ℤ) (order : List ℕ) (lines : List (List ℤ)) : Type 0 where
  pub columns_some : 1 ≤ columns
  pub columns_most : columns ≤ MAX_INCREMENTS
  pub lines_len : length lines ≡ length loaded
  pub order_len : length order ≡ columns + 1 + length loaded
  pub constant : slice_index order columns ≡ 0
  pub rows : (row : ℕ) → row < length loaded → IsLoadable columns (loaded_at loaded row)
  pub variables : IsArrangement order
  pub positive : pos 1 ≤ℤ scale
  pub scale_is : IsScale scale (square_of columns loaded order)
  pub lines_are : (row : ℕ) → row < length loaded
      → IsCombination scale (table_row columns loaded (slice_index order (columns + 1 + row))) (slice_index_or lines row []) (square_of columns loaded order)

-- what a dictionary keeps: its numbers are minors, its solutions have the loaded rows' slacks, and there is room
pub record IsRepresentation (dictionary : DictionaryView) (places : Arranged) (lines_room loaded_room : ℕ) : Type 0 where
  pub minors : AreMinors dictionary.columns dictionary.loaded dictionary.scale places.order dictionary.lines
  pub solutions : (x : ℕ → ℤ) → Satisfies dictionary x → HasSlacks dictionary.columns dictionary.loaded x
  pub columns_room : dictionary.columns ≤ dictionary.room_columns
  pub columns_most : dictionary.room_columns ≤ MAX_INCREMENTS
  pub rows_room : length dictionary.loaded ≤ dictionary.room_rows
  pub rows_most : dictionary.room_rows ≤ MAX_ROWS
  pub places_room : dictionary.room_columns + 1 + dictionary.room_rows ≤ places.room
  pub has_lines_room : dictionary.room_rows ≤ lines_room
  pub has_loaded_room : dictionary.room_rows ≤ loaded_room

-- what a pivot asks of the lines: sizes, and that each difference of products has an exact quotient
pub record CanExchange (scale : ℤ) (at column : ℕ) (lines : List (List ℤ)) : Type 0 where
  pub positive : pos 1 ≤ℤ scale
  pub scale_size : unsigned_abs scale < NUMBER_BOUND
  pub len : (row : ℕ) → row < length lines → length (slice_index_or lines row []) ≡ length (slice_index_or lines at [])
  pub column_below : column < length (slice_index_or lines at [])
  pub sizes : (row place : ℕ) → unsigned_abs (entry (slice_index_or lines row []) place) < NUMBER_BOUND
  pub exact : (row place : ℕ) → row < length lines → row ≢ at → place < length (slice_index_or lines at []) → place ≢ column
      → HasQuotient (entry (slice_index_or lines at []) column *ℤ entry (slice_index_or lines row []) place -ℤ entry (slice_index_or lines row []) column *ℤ entry (slice_index_or lines at []) place) scale

-- what the line of a new row asks: that the variables are the columns' and the lines', and sizes
pub record CanCombine (columns : ℕ) (scale : ℤ) (order : List ℕ) (lines : List (List ℤ)) : Type 0 where
  pub columns_some : 1 ≤ columns
  pub columns_most : columns ≤ MAX_INCREMENTS
  pub order_len : length order ≡ columns + 1 + length lines
  pub constant : slice_index order columns ≡ 0
  pub scale_size : unsigned_abs scale < NUMBER_BOUND
  pub len : (row : ℕ) → row < length lines → length (slice_index_or lines row []) ≡ columns + 1
  pub sizes : (row place : ℕ) → unsigned_abs (entry (slice_index_or lines row []) place) < NUMBER_BOUND

-- what a pivot makes of the lines
pub record AreExchanged (scale : ℤ) (at column : ℕ) (old new : List (List ℤ)) : Type 0 where
  pub len : length new ≡ length old
  pub pivot_line : IsPivotLine scale column (slice_index_or old at []) (slice_index_or new at [])
  pub other_lines : (other : ℕ) → other < length old → other ≢ at
      → IsOtherLine scale column (slice_index_or old at []) (slice_index_or old other []) (slice_index_or new other [])

-- the factors of the variable at a place: of a column it is the scale at that column, and of a row it is the row's line
abbrev pub factors_at : ℤ → List (List ℤ) → ℕ → ℕ → List ℤ
factors_at scale lines width place =
    if nat_lt place width then slice_set (replicate width (pos 0)) place scale else slice_index_or lines (place - width) []

-- a multiple of other numbers is added to each
pub record IsAdded (times : ℤ) (old other new : List ℤ) : Type 0 where
  pub len : length new ≡ length old
  pub sums : (at : ℕ) → at < length old → entry new at ≡ entry old at +ℤ times *ℤ entry other at
