use Rattle.survey_core.proofs.RankingLemmas.{eliminated_pairs_are_ranked_lem}
use Rattle.survey_core.proofs.laws.eliminated_pairs_are_ranked.Goals as goal

pub returns : goal.returns
returns c = eliminated_pairs_are_ranked_lem
