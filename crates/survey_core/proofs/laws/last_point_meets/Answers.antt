use Rattle.survey_core.proofs.LawLemmas.{last_point_meets_lem}
use Rattle.survey_core.proofs.laws.last_point_meets.Goals as goal

pub returns : goal.returns
returns c = last_point_meets_lem
