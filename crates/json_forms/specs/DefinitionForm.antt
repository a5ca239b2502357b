-- Which form a definition line has.
use Rattle.std.specs.Prelude.{ℕ, List, codes, Option, Some}
use Rattle.serde_json.specs.Data.{Data}
use Rattle.serde_json.specs.Find.{as_array, as_str}
use Rattle.json_forms.specs.Members.{◌>>=◌, json_of, member_at, text_at, whole_at, each}
use Rattle.json_forms.specs.DefinitionViews.{CriterionView, RespondentView, DefinitionView}

-- an array of strings
abbrev pub texts_in : Data → Option (List (List ℕ))
texts_in d = as_array d >>= each as_str

-- exactly a name and an array of levels
abbrev pub criterion_in : Data → Option CriterionView
criterion_in d =
    text_at 2 (codes "name") d >>= λ name. member_at 2 (codes "levels") d >>= texts_in >>= λ levels.
    Some (record { name = name; levels = levels })

abbrev pub criteria_in : Data → Option (List CriterionView)
criteria_in d = as_array d >>= each criterion_in

-- exactly a name and a code
abbrev pub respondent_in : Data → Option RespondentView
respondent_in d =
    text_at 2 (codes "name") d >>= λ name. text_at 2 (codes "code") d >>= λ code.
    Some (record { name = name; code = code })

abbrev pub respondents_in : Data → Option (List RespondentView)
respondents_in d = as_array d >>= each respondent_in

-- exactly criteria, a degree and respondents
abbrev pub definition_in : Data → Option DefinitionView
definition_in d =
    member_at 3 (codes "criteria") d >>= criteria_in >>= λ criteria.
    whole_at 3 (codes "degree") d >>= λ degree.
    member_at 3 (codes "respondents") d >>= respondents_in >>= λ respondents.
    Some (record { criteria = criteria; degree = degree; respondents = respondents })

-- what the line says, where it is of the form
abbrev pub form_of : List ℕ → Option DefinitionView
form_of line = json_of line >>= definition_in
