use Rattle.survey_core.proofs.RankingLemmas.{ranked_has_ranking_lem}
use Rattle.survey_core.proofs.laws.ranked_has_ranking.Goals as goal

pub returns : goal.returns
returns c = ranked_has_ranking_lem
