use Rattle.survey_core.proofs.RankingLemmas.{complete_ranks_every_pair_lem}
use Rattle.survey_core.proofs.laws.complete_ranks_every_pair.Goals as goal

pub returns : goal.returns
returns c = complete_ranks_every_pair_lem
