use Rattle.survey_core.proofs.RankingLemmas.{answered_are_open_lem}
use Rattle.survey_core.proofs.laws.answered_are_open.Goals as goal

pub returns : goal.returns
returns c = answered_are_open_lem
