use Rattle.survey_core.proofs.RankingLemmas.{rankings_are_by_answers_lem}
use Rattle.survey_core.proofs.laws.rankings_are_by_answers.Goals as goal

pub returns : goal.returns
returns c = rankings_are_by_answers_lem
