-- Rooms that are reserved for a model.
use Rattle.std.specs.Prelude.{◌+◌, ◌*◌, ◌≤◌}
use Rattle.criteria_model.specs.Worth.{increments}
use Rattle.criteria_model.specs.Counts.{class_count}
use Rattle.criteria_model.specs.Criteria.{Criteria}
use Rattle.answer_rows.specs.Room.{room_of}
use Rattle.fraction_free.specs.Dictionary.{DictionaryView}
use Rattle.decider.specs.declared.tools.Snapshot.{Snapshot}
use Rattle.decider.specs.declared.tools.Tools.{Tools}

-- a snapshot has room for an answer on each class
abbrev pub IsReservedSnapshot : Criteria → Snapshot → Type 0
IsReservedSnapshot criteria snapshot = class_count criteria.levels criteria.degree ≤ room_of snapshot.answers

-- a dictionary has room for the model's increments, for two rows a class, and for two more
pub record IsReservedDictionary (criteria : Criteria) (d : DictionaryView) : Type 0 where
  pub columns : increments criteria.levels ≤ d.room_columns
  pub rows : 2 * class_count criteria.levels criteria.degree + 2 ≤ d.room_rows

-- tools have both
pub record IsReserved (criteria : Criteria) (tools : Tools) : Type 0 where
  pub snapshot : IsReservedSnapshot criteria tools.snapshot
  pub work : IsReservedDictionary criteria tools.work
