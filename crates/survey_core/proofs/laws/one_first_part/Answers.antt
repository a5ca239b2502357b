use Rattle.survey_core.proofs.PartLemmas.{one_first_part_lem}
use Rattle.survey_core.proofs.laws.one_first_part.Goals as goal

pub returns : goal.returns
returns c = one_first_part_lem
