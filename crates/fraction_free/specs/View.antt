-- What contracts see of the fields of a `Dictionary`.
use Rattle.std.specs.Prelude.{◌+◌, take, drop}
use Rattle.fraction_free.specs.declared.dictionary.Dictionary.TheInside.{Inside}
use Rattle.fraction_free.specs.Dictionary.{DictionaryView}

-- the variables lie in one list: of the columns, 0, and of the rows
abbrev pub view_of : Inside → DictionaryView
view_of fields = record {
  columns = fields.columns;
  loaded = fields.loaded.items;
  scale = fields.scale;
  nonbasic = take fields.columns fields.places.order;
  basic = drop (fields.columns + 1) fields.places.order;
  lines = fields.lines.items;
  room_columns = fields.room_columns;
  room_rows = fields.room_rows;
  loads = fields.loads;
  added = fields.added;
}
