use Rattle.survey_run.proofs.LawLemmas.{issued_were_open_lem}
use Rattle.survey_run.proofs.laws.issued_were_open.Goals as goal

pub returns : goal.returns
returns c = issued_were_open_lem
