use Rattle.survey_replies.proofs.CallLemmas.{replies_stand_lem}
use Rattle.survey_replies.proofs.laws.replies_stand.Goals as goal

pub returns : goal.returns
returns c = replies_stand_lem
