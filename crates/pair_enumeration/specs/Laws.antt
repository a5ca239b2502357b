-- What is true of class lists.
use Rattle.std.specs.Prelude.{◌≡◌, List, length}
use Rattle.criteria_model.specs.declared.pairs.Pair.{Pair}
use Rattle.criteria_model.specs.Counts.{class_count}
use Rattle.criteria_model.specs.Criteria.{Criteria, IsModel}
use Rattle.criteria_model.specs.Classes.{IsClassList}

-- each model has a class list, which has as many members as the model counts
abbrev pub EachModelHasList : Type 0
EachModelHasList =
    (criteria : Criteria) → IsModel criteria
    → (classes : List Pair) × IsClassList criteria classes × (length classes ≡ class_count criteria.levels criteria.degree)

-- and it has no other, since members and order leave one list
abbrev pub OneClassList : Type 0
OneClassList = (criteria : Criteria) (one other : List Pair) → IsClassList criteria one → IsClassList criteria other → one ≡ other
