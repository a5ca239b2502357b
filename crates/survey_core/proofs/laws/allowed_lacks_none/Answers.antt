use Rattle.survey_core.proofs.PartLemmas.{allowed_lacks_none_lem}
use Rattle.survey_core.proofs.laws.allowed_lacks_none.Goals as goal

pub returns : goal.returns
returns c = allowed_lacks_none_lem
