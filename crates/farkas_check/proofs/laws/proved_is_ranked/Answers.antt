use Rattle.farkas_check.proofs.Ranking.{proved_is_ranked_lem}
use Rattle.farkas_check.proofs.laws.proved_is_ranked.Goals as goal

pub returns : goal.returns
returns c = proved_is_ranked_lem
