use Rattle.criteria_model.proofs.DominanceLemmas.{undominated_is_not_dominated_lem}
use Rattle.criteria_model.proofs.laws.undominated_is_not_dominated.Goals as goal

pub returns : goal.returns
returns c = undominated_is_not_dominated_lem
