-- What an eliminator has while it is at rest, and at work.
use Rattle.std.specs.Prelude.{◌≡◌, ℕ, List, Some, slice_get}
use Rattle.std.specs.Arc.{arc_value}
use Rattle.std.specs.Global.{Global}
use Rattle.std.specs.declared.sync.Arc.{Arc}
use Rattle.criteria_model.specs.Criteria.{Criteria}
use Rattle.shared_survey.specs.declared.survey.Survey.{Survey}
use Rattle.shared_survey.specs.declared.pass.Pass.{Pass}
use Rattle.shared_survey.specs.Passes.{IsPassOf, survey_listed}

-- the pass is one of the survey
abbrev pub HoldsPass : Arc Survey Global → Pass → Type 0
HoldsPass survey pass = IsPassOf (arc_value survey) pass

-- each pass is one of the survey at the same place
abbrev pub AreHeld : List (Arc Survey Global) → List Pass → Type 0
AreHeld surveys passes =
    (k : ℕ) (survey : Arc Survey Global) (pass : Pass) → slice_get surveys k ≡ Some survey → slice_get passes k ≡ Some pass → HoldsPass survey pass

-- the survey is one of this model
abbrev pub IsOfModel : Criteria → Arc Survey Global → Type 0
IsOfModel criteria survey = (survey_listed (arc_value survey)).criteria ≡ criteria
