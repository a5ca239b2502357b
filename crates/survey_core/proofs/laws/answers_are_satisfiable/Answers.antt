use Rattle.survey_core.proofs.RankingLemmas.{answers_are_satisfiable_lem}
use Rattle.survey_core.proofs.laws.answers_are_satisfiable.Goals as goal

pub returns : goal.returns
returns c = answers_are_satisfiable_lem
