-- What contracts see of a definition: lists in the order of the line.
use Rattle.std.specs.Prelude.{ℕ, List, length, map}
use Rattle.criteria_model.specs.Criteria.{Criteria}

-- a criterion's name and its levels' names, the lowest first
pub record CriterionView : Type 0 where
  pub name : List ℕ
  pub levels : List (List ℕ)

-- a respondent's name and code
pub record RespondentView : Type 0 where
  pub name : List ℕ
  pub code : List ℕ

-- the criteria, the degree limit and the respondents
pub record DefinitionView : Type 0 where
  pub criteria : List CriterionView
  pub degree : ℕ
  pub respondents : List RespondentView

-- how many levels each criterion has
abbrev pub level_counts : List CriterionView → List ℕ
level_counts criteria = map (λ criterion. length criterion.levels) criteria

-- the model of a definition
abbrev pub model_of : DefinitionView → Criteria
model_of definition = record { levels = level_counts definition.criteria; degree = definition.degree }
