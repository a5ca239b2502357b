-- What eliminators are given.
use Rattle.std.specs.Prelude.{◌≡◌}
use Rattle.criteria_model.specs.Criteria.{Criteria}
use Rattle.decider.specs.Reserved.{IsReserved}
use Rattle.eliminators.specs.Jobs.{IsWorker}
use Rattle.desks_bench.specs.declared.eliminator_work.Eliminator.{Eliminator}

-- what an eliminator of a survey of the model works with, but for its pass
pub record IsEliminator (criteria : Criteria) (eliminator : Eliminator) : Type 0 where
  pub number : IsWorker eliminator.number
  pub tools : IsReserved criteria eliminator.tools
  pub surveys : eliminator.end.surveys ≡ 1
