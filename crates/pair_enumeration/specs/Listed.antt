-- A list of classes, and the model whose classes they are.
use Rattle.std.specs.Prelude.{◌≡◌, List, length}
use Rattle.criteria_model.specs.declared.pairs.Pair.{Pair}
use Rattle.criteria_model.specs.Counts.{class_count}
use Rattle.criteria_model.specs.Criteria.{Criteria, IsModel}
use Rattle.criteria_model.specs.Classes.{IsClassList}

-- what contracts see of a `Classes`
pub record Listed : Type 0 where
  pub criteria : Criteria
  pub classes : List Pair

-- the class list of a model, as long as its number of classes says
pub record IsListed (listed : Listed) : Type 0 where
  pub model : IsModel listed.criteria
  pub list : IsClassList listed.criteria listed.classes
  pub len : length listed.classes ≡ class_count listed.criteria.levels listed.criteria.degree
