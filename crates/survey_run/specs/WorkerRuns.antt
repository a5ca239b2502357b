-- Eliminators that run.
use Rattle.std.specs.Prelude.{◌≡◌, ℕ, List}
use Rattle.shared_survey.specs.declared.survey.Survey.{Survey}
use Rattle.survey_run.specs.declared.workers.Working.{Working}
use Rattle.survey_run.specs.declared.workers.Working.TheVariants.{Thread, LeftOut}
use Rattle.survey_run.specs.Workers.{IsStack}

-- the thread is this eliminator's, or the eliminator was left out
abbrev pub WorksFor : List Survey → ℕ → Working → Type 0
WorksFor surveys worker (Thread h) = (h.promise.surveys.value.items ≡ surveys) × (h.promise.worker ≡ worker)
WorksFor surveys worker (LeftOut passes) = IsStack worker surveys passes
