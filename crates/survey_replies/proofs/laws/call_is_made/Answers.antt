use Rattle.survey_replies.proofs.TurnLemmas.{call_is_made_lem}
use Rattle.survey_replies.proofs.laws.call_is_made.Goals as goal

pub returns : goal.returns
returns c = call_is_made_lem
