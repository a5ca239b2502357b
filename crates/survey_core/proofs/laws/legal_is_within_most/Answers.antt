use Rattle.survey_core.proofs.ShortLemmas.{legal_is_within_most_lem}
use Rattle.survey_core.proofs.laws.legal_is_within_most.Goals as goal

pub returns : goal.returns
returns c = legal_is_within_most_lem
