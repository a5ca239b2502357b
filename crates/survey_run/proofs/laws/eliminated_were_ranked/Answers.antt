use Rattle.survey_run.proofs.LawLemmas.{eliminated_were_ranked_lem}
use Rattle.survey_run.proofs.laws.eliminated_were_ranked.Goals as goal

pub returns : goal.returns
returns c = eliminated_were_ranked_lem
