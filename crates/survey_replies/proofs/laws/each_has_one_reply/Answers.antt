use Rattle.survey_replies.proofs.JournalLemmas.{each_has_one_reply_lem}
use Rattle.survey_replies.proofs.laws.each_has_one_reply.Goals as goal

pub returns : goal.returns
returns c = each_has_one_reply_lem
