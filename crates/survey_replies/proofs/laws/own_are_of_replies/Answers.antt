use Rattle.survey_replies.proofs.CallLemmas.{own_are_of_replies_lem}
use Rattle.survey_replies.proofs.laws.own_are_of_replies.Goals as goal

pub returns : goal.returns
returns c = own_are_of_replies_lem
