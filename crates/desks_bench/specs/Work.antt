-- What threads are given.
use Rattle.criteria_model.specs.Criteria.{Criteria}
use Rattle.survey_core.specs.Legal.{IsDesk}
use Rattle.shared_survey.specs.declared.pass.Pass.{Pass}
use Rattle.shared_survey.specs.declared.survey.Survey.{Survey}
use Rattle.shared_survey.specs.Passes.{desk_of}
use Rattle.desks_bench.specs.declared.threads.Role.{Role}
use Rattle.desks_bench.specs.declared.threads.Role.TheVariants.{Desk, Eliminator}
use Rattle.desks_bench.specs.declared.threads.Duty.{Duty}
use Rattle.desks_bench.specs.Runs.{IsSingle}
use Rattle.desks_bench.specs.Eliminators.{IsEliminator}

-- the pass is for this role
abbrev pub MayTake : Criteria → Pass → Role → Type 0
MayTake criteria pass (Desk seed) = IsDesk (desk_of pass)
MayTake criteria pass (Eliminator eliminator) = IsEliminator criteria eliminator

-- what a thread of the survey, which is of the model, works with
pub record IsDuty (survey : Survey) (criteria : Criteria) (duty : Duty) : Type 0 where
  pub pass : IsSingle survey duty.pass
  pub role : MayTake criteria duty.pass duty.role
