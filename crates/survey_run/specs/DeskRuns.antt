-- Desks that run.
use Rattle.std.specs.Prelude.{◌≡◌, ℕ, List}
use Rattle.shared_survey.specs.declared.survey.Survey.{Survey}
use Rattle.survey_script.specs.ScriptViews.{ScriptSessionView}
use Rattle.survey_run.specs.declared.desks.Running.{Running}
use Rattle.survey_run.specs.declared.desks.Running.TheVariants.{Thread, Done}
use Rattle.survey_run.specs.Desks.{HasSpoken}

-- the thread is this desk's, or the desk has spoken
abbrev pub RunsFor : Survey → ℕ → ℕ → List ScriptSessionView → Running → Type 0
RunsFor survey respondent desk sessions (Thread h) =
    (h.promise.survey.value ≡ survey) × (h.promise.script.value.sessions ≡ sessions) × (h.promise.respondent ≡ respondent) × (h.promise.desk ≡ desk)
RunsFor survey respondent desk sessions (Done spoken) = HasSpoken survey respondent desk sessions spoken
