-- A criterion and a respondent as the code holds them: a name, and what belongs to it.
use Rattle.std.specs.Prelude.{ℕ, List, map, String, string_bytes, Vec}
use Rattle.std.specs.declared.alloc.Global.{Global}
use Rattle.indexmap.specs.IndexSet.{IndexSet}
use Rattle.json_forms.specs.DefinitionViews.{CriterionView, RespondentView}

abbrev pub criterion_view : String Global × Vec (String Global) Global → CriterionView
criterion_view entry = record { name = string_bytes entry.0; levels = map string_bytes entry.1.items }

abbrev pub respondent_view : String Global × String Global → RespondentView
respondent_view entry = record { name = string_bytes entry.0; code = string_bytes entry.1 }

-- a criterion whose levels are in a set
abbrev pub kept_criterion : {S : Type 0} → String Global × IndexSet (String Global) S → CriterionView
kept_criterion entry = record { name = string_bytes entry.0; levels = map string_bytes entry.1.keys }

-- the name of an entry
abbrev pub name_of : {V : Type 0} → String Global × V → List ℕ
name_of entry = string_bytes entry.0
