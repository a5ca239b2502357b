-- Which definition a line is, and which fault it has first.
use Rattle.std.specs.Prelude.{◌≡◌, ℕ, ◌+◌, nat_le, not, ◌&&◌, ◌||◌, Bool, false, List, [], ◌∷◌, length, map, position, bytes_eq, if◌then◌else◌, Option, Some, None, option_map, Result, Ok, Err}
use Rattle.std.specs.Char.{is_ascii_control}
use Rattle.std.specs.List.{list_all, list_any}
use Rattle.std.specs.Option.{option_or}
use Rattle.criteria_model.specs.Faults.{model_fault}
use Rattle.json_forms.specs.declared.definition_faults.TheConstants.{MAX_NAME, MAX_RESPONDENTS}
use Rattle.json_forms.specs.declared.definition_faults.DefinitionFault.{DefinitionFault}
use Rattle.json_forms.specs.declared.definition_faults.DefinitionFault.TheVariants.{Form, Model, Respondents, Name, Twice}
use Rattle.json_forms.specs.declared.definition_faults.DefinitionStop.{DefinitionStop}
use Rattle.json_forms.specs.declared.definition_faults.DefinitionStop.TheVariants.{Refused, NoMemory}
use Rattle.json_forms.specs.DefinitionForm.{form_of}
use Rattle.json_forms.specs.DefinitionViews.{CriterionView, RespondentView, DefinitionView, level_counts}

-- 1 to `MAX_NAME` bytes without control characters
abbrev pub is_name : List ℕ → Bool
is_name name = nat_le 1 (length name) && (nat_le (length name) MAX_NAME && list_all (λ byte. not (is_ascii_control byte)) name)

-- its name and each level's name is one
abbrev pub has_criterion_names : CriterionView → Bool
has_criterion_names criterion = is_name criterion.name && list_all is_name criterion.levels

-- its name and its code are such
abbrev pub has_respondent_names : RespondentView → Bool
has_respondent_names respondent = is_name respondent.name && is_name respondent.code

abbrev pub has_names : DefinitionView → Bool
has_names definition = list_all has_criterion_names definition.criteria && list_all has_respondent_names definition.respondents

-- some name stands again after itself
abbrev pub repeats : List (List ℕ) → Bool
repeats [] = false
repeats (name ∷ names) = list_any (bytes_eq name) names || repeats names

-- two criteria have the same name, or two levels of one criterion
abbrev pub repeats_criteria : List CriterionView → Bool
repeats_criteria criteria = list_any (λ criterion. repeats criterion.levels) criteria || repeats (map (λ criterion. criterion.name) criteria)

-- two respondents have the same name
abbrev pub repeats_respondents : List RespondentView → Bool
repeats_respondents respondents = repeats (map (λ respondent. respondent.name) respondents)

-- the fault of the respondents and names, or none
abbrev pub name_fault : DefinitionView → Option DefinitionFault
name_fault definition =
    if not (nat_le 1 (length definition.respondents) && nat_le (length definition.respondents) MAX_RESPONDENTS) then Some Respondents else
    if not (has_names definition) then Some Name else
    if repeats_criteria definition.criteria || repeats_respondents definition.respondents then Some Twice else
    None

-- the first fault of a definition: those of its model come first
abbrev pub first_fault : DefinitionView → Option DefinitionFault
first_fault definition = option_or (option_map Model (model_fault (level_counts definition.criteria) definition.degree)) (name_fault definition)

-- a definition without fault, or the fault
abbrev pub tested : DefinitionView → Option DefinitionFault → Result DefinitionView DefinitionFault
tested definition None = Ok definition
tested definition (Some fault) = Err fault

abbrev pub tested_form : Option DefinitionView → Result DefinitionView DefinitionFault
tested_form None = Err Form
tested_form (Some definition) = tested definition (first_fault definition)

-- what the line is read as: its definition, or the first fault
abbrev pub definition_of : List ℕ → Result DefinitionView DefinitionFault
definition_of line = tested_form (form_of line)

-- a stop that isn't for want of memory is the fault
abbrev pub IsStop : Result DefinitionView DefinitionFault → DefinitionStop → Type 0
IsStop read (Refused fault) = read ≡ Err fault
IsStop read NoMemory = Unit {0}

-- the number of the first of these names that is the same, counted from 1
abbrev pub number_of : List ℕ → List (List ℕ) → Option ℕ
number_of name names = option_map (λ place. place + 1) (position (bytes_eq name) names)
