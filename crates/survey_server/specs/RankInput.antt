-- What is to be ranked: a definition line, a values line and a table.
use Rattle.std.specs.Prelude.{◌≡◌, ℕ, ◌+◌, ◌<◌, ◌≤◌, nat_le, Bool, List, length, drop, map, if◌then◌else◌, Option, Some, None, IfSome, MatchOption, Result, Ok, Err, MatchResult, ℤ}
use Rattle.std.specs.Bool.{MatchBool}
use Rattle.edges.specs.Line.{first_line}
use Rattle.json_forms.specs.declared.definition_faults.TheConstants.{MAX_DEFINITION}
use Rattle.json_forms.specs.declared.definition_faults.DefinitionFault.{DefinitionFault}
use Rattle.json_forms.specs.declared.definition_faults.DefinitionFault.TheVariants.{Long}
use Rattle.json_forms.specs.DefinitionViews.{DefinitionView, level_counts, model_of}
use Rattle.json_forms.specs.Definitions.{definition_of}
use Rattle.json_forms.specs.Vectors.{values_vector}
use Rattle.ranking.specs.declared.stops.RankStop.TheVariants.{ReadFault, TableLong, Header, Row, Level, NoMemory}
use Rattle.ranking.specs.Names.{NamedCriteria}
use Rattle.ranking.specs.NamedWorths.{NamedWorthView}
use Rattle.ranking.specs.Rankings.{IsTableRanking}
use Rattle.result_file.specs.declared.limits.TheConstants.{MAX_LINE}
use Rattle.survey_server.specs.declared.input_lines.FirstLineStop.{FirstLineStop}
use Rattle.survey_server.specs.declared.input_lines.FirstLineStop.TheVariants as stop
use Rattle.survey_server.specs.declared.rank_input.RankRefusal.{RankRefusal}
use Rattle.survey_server.specs.declared.rank_input.RankRefusal.TheVariants.{Definition, Values, Stopped}

-- what a definition calls criteria and levels
abbrev pub named_criteria : DefinitionView → NamedCriteria
named_criteria definition = record {
  model = model_of definition;
  names = map (λ criterion. criterion.name) definition.criteria;
  levels = map (λ criterion. criterion.levels) definition.criteria;
}

-- what follows the first line of a text and its line end
abbrev pub after_first_line : List ℕ → List ℕ
after_first_line text = drop (length (first_line text) + 1) text

-- the definition of the first line
abbrev pub leading_definition : List ℕ → Result DefinitionView DefinitionFault
leading_definition text = if nat_le (length (first_line text)) MAX_DEFINITION then definition_of (first_line text) else Err Long

-- the vector of the first line
abbrev pub values_in : List ℕ → List ℕ → Option (List ℤ)
values_in levels text = if nat_le (length (first_line text)) MAX_LINE then values_vector levels (first_line text) else None

-- a table is ranked so, or refused so
abbrev pub IsTableOutcome : NamedCriteria → List ℤ → List ℕ → Result (List NamedWorthView) RankRefusal → Type 0
IsTableOutcome criteria values table (Ok ranked) = IsTableRanking criteria values table (Ok ranked)
IsTableOutcome criteria values table (Err (Stopped stop)) = IsTableRanking criteria values table (Err stop)
IsTableOutcome criteria values table (Err (Definition fault)) = ⊥
IsTableOutcome criteria values table (Err Values) = ⊥

-- the same of a values line and a table
abbrev pub IsValuesOutcome : DefinitionView → List ℕ → Result (List NamedWorthView) RankRefusal → Type 0
IsValuesOutcome definition text outcome =
    MatchOption (values_in (level_counts definition.criteria) text) (outcome ≡ Err Values)
    (λ values. IsTableOutcome (named_criteria definition) values (after_first_line text) outcome)

-- the same of a definition line, a values line and a table
abbrev pub IsInputOutcome : List ℕ → Result (List NamedWorthView) RankRefusal → Type 0
IsInputOutcome text outcome =
    MatchResult (leading_definition text)
    (λ definition. IsValuesOutcome definition (after_first_line text) outcome)
    (λ fault. outcome ≡ Err (Definition fault))

-- that the source failed, or that memory ran out, says nothing of the text
abbrev pub UnlessStopped : Result (List NamedWorthView) RankRefusal → Type 0 → Type 0
UnlessStopped (Err (Stopped ReadFault)) P = Unit {0}
UnlessStopped (Err (Stopped NoMemory)) P = Unit {0}
UnlessStopped (Err (Stopped TableLong)) P = P
UnlessStopped (Err (Stopped Header)) P = P
UnlessStopped (Err (Stopped (Row place))) P = P
UnlessStopped (Err (Stopped (Level place column))) P = P
UnlessStopped (Err (Definition fault)) P = P
UnlessStopped (Err Values) P = P
UnlessStopped (Ok ranked) P = P

-- what a call under a definition says of the text after the definition line
abbrev pub IsUnderRanking : DefinitionView → List ℕ → Result (List NamedWorthView) RankRefusal → Type 0
IsUnderRanking definition text outcome = UnlessStopped outcome (IsValuesOutcome definition text outcome)

-- the text of a source is ranked so, or refused so, where it is known
abbrev pub IsToldInput : Option (List ℕ) → Result (List NamedWorthView) RankRefusal → Type 0
IsToldInput told outcome = IfSome told (λ text. UnlessStopped outcome (IsInputOutcome text outcome))

-- a line within the longest length is the first of the text, and the rest is left; or the first line is longer
abbrev pub LineIs : Bool → List ℕ → List ℕ → ℕ → Option (List ℕ) → Type 0
LineIs within text line longest left =
    MatchBool within ((line ≡ first_line text) × (length line ≤ longest) × (left ≡ Some (after_first_line text))) (longest < length (first_line text))

-- the definition is that of the first line, and the rest is left
abbrev pub ReadsDefinition : List ℕ → DefinitionView → Option (List ℕ) → Type 0
ReadsDefinition text definition left = (leading_definition text ≡ Ok definition) × (left ≡ Some (after_first_line text))

-- the stop is that of the first line, or says nothing of it
abbrev pub IsFirstLineStop : List ℕ → FirstLineStop → Type 0
IsFirstLineStop text (stop.Refused fault) = leading_definition text ≡ Err fault
IsFirstLineStop text stop.ReadFault = Unit {0}
IsFirstLineStop text stop.NoMemory = Unit {0}
