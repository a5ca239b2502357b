-- The passes of eliminators at one survey.
use Rattle.std.specs.Prelude.{◌≡◌, ℕ, ◌+◌, List, [], ◌∷◌, ◌++◌}
use Rattle.std.specs.Global.{Vec}
use Rattle.shared_survey.specs.declared.pass.Pass.{Pass}
use Rattle.shared_survey.specs.declared.survey.Survey.{Survey}
use Rattle.survey_run.specs.Workers.{HasWorked}

-- on top is the pass of the survey, of the eliminator with this number, counted from 0
pub record HasTop (survey : Survey) (n : ℕ) (passes : Vec Pass) : Type 0 where
  pub rest : List Pass
  pub top : Pass
  pub whole : passes.items ≡ rest ++ top ∷ []
  pub worked : HasWorked (n + 1) survey top

-- the top is gone
abbrev pub LosesTop : ℕ → Vec Pass → Vec Pass → Type 0
LosesTop n old new = (top : Pass) × (old.items ≡ new.items ++ top ∷ [])
