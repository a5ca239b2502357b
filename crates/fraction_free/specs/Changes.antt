-- What the calls make of a dictionary.
use Rattle.std.specs.Prelude.{ℕ, ◌+◌, ◌-◌, ◌^◌, ◌≡◌, ◌≢◌, ◌<◌, ◌⊎◌, min, List, [], ◌∷◌, ◌++◌, length, take, slice_index, slice_set, ℤ, pos, negsuc, neg_ℤ, ◌-ℤ◌, ◌*ℤ◌}
use Rattle.std.specs.List.{range_with_len, swap_remove}
use Rattle.row_laws.specs.Rows.{entry}
use Rattle.fraction_free.specs.declared.loaded.LoadedRow.{LoadedRow}
use Rattle.fraction_free.specs.Dictionary.{DictionaryView, line_of, entry_in}

-- a count that rises by one, or stands at its last value
abbrev pub next_count : ℕ → ℕ
next_count count = min (count + 1) (2 ^ 64 - 1)

-- a dictionary with no rows
abbrev pub empty_dictionary : ℕ → ℕ → ℕ → ℕ → ℕ → DictionaryView
empty_dictionary columns room_columns room_rows loads added = record {
  columns = columns;
  loaded = [];
  scale = pos 1;
  nonbasic = range_with_len 1 columns;
  basic = [];
  lines = [];
  room_columns = room_columns;
  room_rows = room_rows;
  loads = loads;
  added = added;
}

-- a row more, whose slack is basic; no other equation changes
pub record AddsRow (old new : DictionaryView) (row : LoadedRow) : Type 0 where
  pub line : List ℤ
  pub is : new ≡ record old {
    loaded = old.loaded ++ row ∷ [];
    basic = old.basic ++ (old.columns + 1 + length old.loaded) ∷ [];
    lines = old.lines ++ line ∷ [];
    added = next_count old.added;
  }

-- y, or -y where x is negative
abbrev pub with_sign : ℤ → ℤ → ℤ
with_sign (pos n) y = y
with_sign (negsuc n) y = neg_ℤ y

-- the line of another row after a pivot: each difference of products is divided exactly by the old scale, and all signs are turned where the pivot's entry is negative
pub record IsOtherLine (scale : ℤ) (column : ℕ) (pivot old new : List ℤ) : Type 0 where
  pub len : length new ≡ length old
  pub kept : entry new column ≡ with_sign (entry pivot column) (entry old column)
  pub divided : (other : ℕ) → other < length old → other ≢ column
      → entry new other *ℤ scale
      ≡ with_sign (entry pivot column) (entry pivot column *ℤ entry old other -ℤ entry old column *ℤ entry pivot other)

-- the line of the pivot's row, which is that of the variable that was nonbasic
pub record IsPivotLine (scale : ℤ) (column : ℕ) (pivot new : List ℤ) : Type 0 where
  pub len : length new ≡ length pivot
  pub kept : entry new column ≡ with_sign (entry pivot column) scale
  pub negated : (other : ℕ) → other < length pivot → other ≢ column
      → entry new other ≡ with_sign (entry pivot column) (neg_ℤ (entry pivot other))

-- the basic variable of the row and the nonbasic variable of the column are exchanged, both counted from 0
pub record IsPivoted (old new : DictionaryView) (row column : ℕ) : Type 0 where
  pub rest : new ≡ record old { scale = new.scale; nonbasic = new.nonbasic; basic = new.basic; lines = new.lines }
  pub nonbasic : new.nonbasic ≡ slice_set old.nonbasic column (slice_index old.basic row)
  pub basic : new.basic ≡ slice_set old.basic row (slice_index old.nonbasic column)
  pub scale : new.scale ≡ with_sign (entry (line_of old row) column) (entry (line_of old row) column)
  pub lines_len : length new.lines ≡ length old.lines
  pub pivot_line : IsPivotLine old.scale column (line_of old row) (line_of new row)
  pub other_lines : (other : ℕ) → other < length old.lines → other ≢ row
      → IsOtherLine old.scale column (line_of old row) (line_of old other) (line_of new other)

-- the last loaded row goes with the equation of its slack, which is basic in `row`: the last equation takes that place, and all else stays
pub record DropsRow (old new : DictionaryView) (row : ℕ) : Type 0 where
  pub within : row < length old.loaded
  pub slack : slice_index old.basic row ≡ old.columns + length old.loaded
  pub is : new ≡ record old {
    loaded = take (length old.loaded - 1) old.loaded;
    basic = swap_remove old.basic row 0;
    lines = swap_remove old.lines row [];
  }

-- the first row with an entry at the column that isn't 0
pub record IsFirstWithEntry (dictionary : DictionaryView) (row column : ℕ) : Type 0 where
  pub within : row < length dictionary.loaded
  pub nonzero : entry_in dictionary row column ≢ pos 0
  pub first : (other : ℕ) → other < row → entry_in dictionary other column ≡ pos 0

-- the last slack, nonbasic in `column`, is pivoted on the first row with an entry there that isn't 0, and then its row goes
pub record DropsPivoted (old new : DictionaryView) (column row : ℕ) (between : DictionaryView) : Type 0 where
  pub within : column < old.columns
  pub slack : slice_index old.nonbasic column ≡ old.columns + length old.loaded
  pub first : IsFirstWithEntry old row column
  pub pivoted : IsPivoted old between row column
  pub dropped : DropsRow between new row

-- the last loaded row goes: by itself where its slack is basic, and after a pivot where it is nonbasic
pub record DropsLast (old new : DictionaryView) : Type 0 where
  pub loaded : new.loaded ≡ take (length old.loaded - 1) old.loaded
  pub columns : new.columns ≡ old.columns
  pub room_columns : new.room_columns ≡ old.room_columns
  pub room_rows : new.room_rows ≡ old.room_rows
  pub loads : new.loads ≡ old.loads
  pub added : new.added ≡ old.added
  pub way : ((row : ℕ) × DropsRow old new row) ⊎ ((column : ℕ) × (row : ℕ) × (between : DictionaryView) × DropsPivoted old new column row between)

-- one number of another row's line after a pivot, by the pivot's entry, the row's factor and the pivot row's number; the others are as they were
pub record IsExchangedAt (scale lead factor other : ℤ) (old new : List ℤ) (place : ℕ) : Type 0 where
  pub len : length new ≡ length old
  pub divided : entry new place *ℤ scale ≡ lead *ℤ entry old place -ℤ factor *ℤ other
  pub others : (at : ℕ) → at ≢ place → entry new at ≡ entry old at
