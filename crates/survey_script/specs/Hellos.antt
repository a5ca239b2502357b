-- The tests on a hello, in their order: the name, the code, the desk.
use Rattle.std.specs.Prelude.{ℕ, nat_le, not, ◌&&◌, Bool, false, List, map, bytes_eq, if◌then◌else◌, Option, Some, None, option_map, Result, Ok, Err}
use Rattle.row_laws.specs.Items.{item_at}
use Rattle.json_forms.specs.DefinitionViews.{DefinitionView}
use Rattle.json_forms.specs.Definitions.{number_of}
use Rattle.json_forms.specs.HelloView.{HelloView}
use Rattle.survey_core.specs.declared.limits.TheConstants.{MAX_DESKS}
use Rattle.survey_script.specs.declared.hellos.Admitted.{Admitted}
use Rattle.survey_script.specs.declared.hellos.HelloFault.{HelloFault}
use Rattle.survey_script.specs.declared.hellos.HelloFault.TheVariants.{Name, Code, Desk}

-- the code of the respondent with this number
abbrev pub code_of : DefinitionView → ℕ → Option (List ℕ)
code_of definition respondent = option_map (λ r. r.code) (item_at definition.respondents respondent)

-- the code that is kept is this one
abbrev pub is_code : Option (List ℕ) → List ℕ → Bool
is_code None code = false
is_code (Some kept) code = bytes_eq kept code

-- the number of a desk
abbrev pub is_desk : ℕ → Bool
is_desk desk = nat_le 1 desk && nat_le desk MAX_DESKS

-- the tests after the name, by whose respondent's number it is
abbrev pub admission_by : DefinitionView → HelloView → Option ℕ → Result Admitted HelloFault
admission_by definition hello None = Err Name
admission_by definition hello (Some respondent) =
    if not (is_code (code_of definition respondent) hello.code) then Err Code else
    if not (is_desk hello.desk) then Err Desk else
    Ok (record { respondent = respondent; desk = hello.desk })

-- whom a hello admits to which desk, or the first test that it fails
abbrev pub admission_of : DefinitionView → HelloView → Result Admitted HelloFault
admission_of definition hello = admission_by definition hello (number_of hello.name (map (λ r. r.name) definition.respondents))
