use Rattle.survey_replies.proofs.TurnLemmas.{preparations_join_lem}
use Rattle.survey_replies.proofs.laws.preparations_join.Goals as goal

pub returns : goal.returns
returns c = preparations_join_lem
