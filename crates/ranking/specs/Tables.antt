-- What a table of alternatives says, and why one is refused.
use Rattle.std.specs.Prelude.{◌≡◌, ◌≢◌, ℕ, ◌+◌, ◌<◌, ◌≤◌, ◌==◌, List, [], ◌∷◌, length, if◌then◌else◌, Option, Some, None, Result, Ok, Err, ℤ}
use Rattle.csv.specs.Reading.{default_config, records, strip_bom}
use Rattle.criteria_model.specs.Worth.{worth}
use Rattle.ranking.specs.declared.stops.TheConstants.{MAX_TABLE}
use Rattle.ranking.specs.declared.stops.RankStop.{RankStop}
use Rattle.ranking.specs.declared.stops.RankStop.TheVariants.{ReadFault, TableLong, Header, Row, Level, NoMemory}
use Rattle.ranking.specs.Names.{NamedCriteria, header_of, level_named}
use Rattle.ranking.specs.NamedWorths.{NamedWorthView}

-- the records of a table, as `csv` reads them: commas, double quotes, no trimming
abbrev pub table_records : List ℕ → List (List (List ℕ))
table_records table = records default_config (strip_bom table)

-- a level before those after it, or the number of texts before the first that is no level
abbrev pub level_before : Option ℕ → Result (List ℕ) ℕ → Result (List ℕ) ℕ
level_before None later = Err 0
level_before (Some level) (Ok levels) = Ok (level ∷ levels)
level_before (Some level) (Err before) = Err (before + 1)

-- the levels that the texts are, one a criterion; or the number of texts before the first that is none
abbrev pub levels_named : List (List (List ℕ)) → List (List ℕ) → Result (List ℕ) ℕ
levels_named [] texts = Ok []
levels_named (names ∷ later) [] = Ok []
levels_named (names ∷ later) (text ∷ texts) = level_before (level_named names text) (levels_named later texts)

-- an alternative of these levels, or the column of the text that is no level
abbrev pub named_worth : NamedCriteria → List ℤ → ℕ → List ℕ → Result (List ℕ) ℕ → Result NamedWorthView RankStop
named_worth criteria values place name (Ok levels) = Ok (record { name = name; worth = worth criteria.model.levels values levels })
named_worth criteria values place name (Err before) = Err (Level place (before + 2))

-- the alternative that a record says: its name, and then one text a criterion
abbrev pub alternative_in : NamedCriteria → List ℤ → ℕ → List (List ℕ) → Result NamedWorthView RankStop
alternative_in criteria values place [] = Err (Row place)
alternative_in criteria values place (name ∷ texts) =
    if length texts == length criteria.levels then named_worth criteria values place name (levels_named criteria.levels texts)
    else Err (Row place)

-- one before those after it; the first that is refused counts
abbrev pub worth_before : Result NamedWorthView RankStop → Result (List NamedWorthView) RankStop → Result (List NamedWorthView) RankStop
worth_before (Err stop) later = Err stop
worth_before (Ok worth) (Err stop) = Err stop
worth_before (Ok worth) (Ok worths) = Ok (worth ∷ worths)

-- the alternatives of the records from this place on
abbrev pub alternatives_in : NamedCriteria → List ℤ → ℕ → List (List (List ℕ)) → Result (List NamedWorthView) RankStop
alternatives_in criteria values place [] = Ok []
alternatives_in criteria values place (fields ∷ later) =
    worth_before (alternative_in criteria values place fields) (alternatives_in criteria values (place + 1) later)

-- the alternatives of a table's records are these, or it is refused so: the first record is the header, and says none
abbrev pub RecordsSay : NamedCriteria → List ℤ → List (List (List ℕ)) → Result (List NamedWorthView) RankStop → Type 0
RecordsSay criteria values [] read = read ≡ Err Header
RecordsSay criteria values (header ∷ later) read =
    (header ≡ header_of criteria → read ≡ alternatives_in criteria values 2 later) × (header ≢ header_of criteria → read ≡ Err Header)

-- the alternatives of a table are these, in its order, or it is refused so
pub record TableSays (criteria : NamedCriteria) (values : List ℤ) (table : List ℕ) (read : Result (List NamedWorthView) RankStop) : Type 0 where
  pub long : MAX_TABLE < length table → read ≡ Err TableLong
  pub within : length table ≤ MAX_TABLE → RecordsSay criteria values (table_records table) read

-- a stop that is neither a failure of the source nor want of memory is one of these
abbrev pub IsRefusal : (RankStop → Type 0) → RankStop → Type 0
IsRefusal Refused ReadFault = Unit {0}
IsRefusal Refused NoMemory = Unit {0}
IsRefusal Refused TableLong = Refused TableLong
IsRefusal Refused Header = Refused Header
IsRefusal Refused (Row place) = Refused (Row place)
IsRefusal Refused (Level place column) = Refused (Level place column)

-- a stop before a table of at most this number of bytes is there says that it is too long, or nothing of it
abbrev pub IsTableStop : ℕ → List ℕ → RankStop → Type 0
IsTableStop most table ReadFault = Unit {0}
IsTableStop most table NoMemory = Unit {0}
IsTableStop most table TableLong = most < length table
IsTableStop most table Header = ⊥
IsTableStop most table (Row place) = ⊥
IsTableStop most table (Level place column) = ⊥
