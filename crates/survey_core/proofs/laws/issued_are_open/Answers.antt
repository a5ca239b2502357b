use Rattle.survey_core.proofs.RankingLemmas.{issued_are_open_lem}
use Rattle.survey_core.proofs.laws.issued_are_open.Goals as goal

pub returns : goal.returns
returns c = issued_are_open_lem
