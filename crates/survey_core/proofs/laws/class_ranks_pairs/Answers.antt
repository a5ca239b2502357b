use Rattle.survey_core.proofs.RankingLemmas.{class_ranks_pairs_lem}
use Rattle.survey_core.proofs.laws.class_ranks_pairs.Goals as goal

pub returns : goal.returns
returns c = class_ranks_pairs_lem
