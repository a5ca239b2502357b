use Rattle.survey_core.proofs.RankingLemmas.{each_has_one_ranking_lem}
use Rattle.survey_core.proofs.laws.each_has_one_ranking.Goals as goal

pub returns : goal.returns
returns c = each_has_one_ranking_lem
