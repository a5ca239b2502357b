use Rattle.survey_replies.proofs.ReplyLemmas.{one_reply_lem}
use Rattle.survey_replies.proofs.laws.one_reply.Goals as goal

pub returns : goal.returns
returns c = one_reply_lem
