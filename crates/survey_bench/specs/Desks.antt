-- The surveys that are run.
use Rattle.std.specs.Prelude.{◌≡◌}
use Rattle.criteria_model.specs.Criteria.{Criteria}
use Rattle.pair_enumeration.specs.Listed.{Listed, IsListed}

-- the survey is of the model
pub record IsOf (criteria : Criteria) (listed : Listed) : Type 0 where
  pub list : IsListed listed
  pub model : listed.criteria ≡ criteria
