-- The texts that answer what was to be ranked.
use Rattle.std.specs.Prelude.{◌≡◌, ℕ, false, List, [], ◌∷◌, ◌++◌, codes, Vec}
use Rattle.std.specs.Fmt.{decimal, signed_decimal}
use Rattle.std.specs.declared.alloc.Global.{Global}
use Rattle.csv.specs.Writing.{default_writer, fields_written, has_written, row_text, writer_pending, writer_setup, writer_under}
use Rattle.csv.specs.declared.writer.Writer.{Writer}
use Rattle.criteria_model.specs.declared.faults.ModelFault.{ModelFault}
use Rattle.criteria_model.specs.declared.faults.ModelFault.TheVariants.{NoCriteria, Levels, Increments, Degree, Classes}
use Rattle.json_forms.specs.declared.definition_faults.DefinitionFault.{DefinitionFault}
use Rattle.json_forms.specs.declared.definition_faults.DefinitionFault.TheVariants.{Long, Form, Model, Respondents, Name, Twice}
use Rattle.ranking.specs.declared.stops.RankStop.{RankStop}
use Rattle.ranking.specs.declared.stops.RankStop.TheVariants.{ReadFault, TableLong, Header, Row, Level, NoMemory}
use Rattle.ranking.specs.NamedWorths.{NamedWorthView}
use Rattle.ranking.specs.Rankings.{rank_of}
use Rattle.survey_server.specs.declared.rank_input.RankRefusal.{RankRefusal}
use Rattle.survey_server.specs.declared.rank_input.RankRefusal.TheVariants.{Definition, Values, Stopped}

-- the line of criteria that make no model
abbrev pub model_fault_line : ModelFault → List ℕ
model_fault_line NoCriteria = codes "definition criteria\n"
model_fault_line (Levels criterion) = codes "definition levels " ++ decimal criterion ++ codes "\n"
model_fault_line (Increments count) = codes "definition increments " ++ decimal count ++ codes "\n"
model_fault_line Degree = codes "definition degree\n"
model_fault_line (Classes count) = codes "definition classes " ++ decimal count ++ codes "\n"

-- the line of a first line that is no definition
abbrev pub definition_fault_line : DefinitionFault → List ℕ
definition_fault_line Long = codes "definition long\n"
definition_fault_line Form = codes "definition form\n"
definition_fault_line (Model fault) = model_fault_line fault
definition_fault_line Respondents = codes "definition respondents\n"
definition_fault_line Name = codes "definition name\n"
definition_fault_line Twice = codes "definition twice\n"

-- the line of a table that is refused
abbrev pub stop_line : RankStop → List ℕ
stop_line ReadFault = []
stop_line NoMemory = []
stop_line TableLong = codes "rank long\n"
stop_line Header = codes "rank header\n"
stop_line (Row place) = codes "rank row " ++ decimal place ++ codes "\n"
stop_line (Level place column) = codes "rank level " ++ decimal place ++ codes " " ++ decimal column ++ codes "\n"

-- the line of a refusal
abbrev pub refusal_line : RankRefusal → List ℕ
refusal_line (Definition fault) = definition_fault_line fault
refusal_line Values = codes "rank values\n"
refusal_line (Stopped stop) = stop_line stop

-- the record of an alternative: its rank, its name and what it is worth
abbrev pub ranked_row : List NamedWorthView → NamedWorthView → List ℕ
ranked_row ranked one = row_text default_writer (decimal (rank_of ranked one) ∷ one.name ∷ signed_decimal one.worth ∷ [])

-- those of some alternatives
abbrev pub ranked_rows : List NamedWorthView → List NamedWorthView → List ℕ
ranked_rows ranked [] = []
ranked_rows ranked (one ∷ later) = ranked_row ranked one ++ ranked_rows ranked later

-- the header of a ranking, and then the record of each alternative
abbrev pub ranked_text : List NamedWorthView → List ℕ
ranked_text ranked = row_text default_writer (codes "rank" ∷ codes "name" ∷ codes "value" ∷ []) ++ ranked_rows ranked ranked

-- what a writer of records into memory has written
abbrev pub written : Writer (Vec ℕ Global) → List ℕ
written writer = (writer_under writer).items ++ writer_pending writer

-- a writer of records stands at the start of one, with the crate's defaults
pub record IsReady (writer : Writer (Vec ℕ Global)) : Type 0 where
  pub setup : writer_setup writer ≡ default_writer
  pub fields : fields_written writer ≡ 0
  pub wrote : has_written writer ≡ false
