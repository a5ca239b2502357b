use Rattle.criteria_model.proofs.GainLemmas.{replicas_rank_same_lem}
use Rattle.criteria_model.proofs.laws.replicas_rank_same.Goals as goal

pub returns : goal.returns
returns c = replicas_rank_same_lem
