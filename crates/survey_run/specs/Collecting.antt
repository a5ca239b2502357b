-- The ends of all surveys of a script.
use Rattle.std.specs.Prelude.{◌≡◌, ℕ, List, length}
use Rattle.json_forms.specs.DefinitionViews.{model_of}
use Rattle.survey_script.specs.ScriptViews.{IsWholeScript, ScriptView}
use Rattle.survey_run.specs.declared.ends.SurveyEnd.{SurveyEnd}
use Rattle.survey_run.specs.Each.{EachZipFrom}
use Rattle.survey_run.specs.Ends.{DeskPart, EndAt}

-- one for each respondent of a whole script
pub record AreEndsOf (script : ScriptView) (ends : List SurveyEnd) : Type 0 where
  pub whole : IsWholeScript script
  pub workers : ℕ
  pub parts : List (List DeskPart)
  pub each : EachZipFrom (EndAt (model_of script.definition) workers script.sessions) 0 parts ends
  pub count : length ends ≡ length script.definition.respondents
