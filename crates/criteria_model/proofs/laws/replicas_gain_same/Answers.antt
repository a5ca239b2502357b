use Rattle.criteria_model.proofs.GainLemmas.{replicas_gain_same_lem}
use Rattle.criteria_model.proofs.laws.replicas_gain_same.Goals as goal

pub returns : goal.returns
returns c = replicas_gain_same_lem
