-- Results as callers see them.
use Rattle.std.specs.Prelude.{ℕ}
use Rattle.survey_core.specs.Recorded.{Recorded}

-- a result that was read: the survey, and how many lines were read
pub record LoadedResult : Type 0 where
  pub survey : Recorded
  pub lines : ℕ
