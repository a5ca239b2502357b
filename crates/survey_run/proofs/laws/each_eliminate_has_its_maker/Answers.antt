use Rattle.survey_run.proofs.LawLemmas.{each_eliminate_has_its_maker_lem}
use Rattle.survey_run.proofs.laws.each_eliminate_has_its_maker.Goals as goal

pub returns : goal.returns
returns c = each_eliminate_has_its_maker_lem
