use Rattle.survey_run.proofs.LawLemmas.{answers_stay_satisfiable_lem}
use Rattle.survey_run.proofs.laws.answers_stay_satisfiable.Goals as goal

pub returns : goal.returns
returns c = answers_stay_satisfiable_lem
