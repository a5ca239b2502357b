-- What contracts see of a dictionary, by its parts.
use Rattle.std.proofs.Common.{ℕ, ◌+◌, ℤ, List, take, drop}
use Rattle.fraction_free.specs.declared.loaded.LoadedRow.{LoadedRow}
use Rattle.fraction_free.specs.Dictionary.{DictionaryView}

-- the dictionary with these variables: of the columns, 0, and of the rows
abbrev pub view_with : ℕ → List LoadedRow → ℤ → List ℕ → List (List ℤ) → ℕ → ℕ → ℕ → ℕ → DictionaryView
view_with columns loaded scale order lines room_columns room_rows loads added = record {
  columns = columns;
  loaded = loaded;
  scale = scale;
  nonbasic = take columns order;
  basic = drop (columns + 1) order;
  lines = lines;
  room_columns = room_columns;
  room_rows = room_rows;
  loads = loads;
  added = added;
}
