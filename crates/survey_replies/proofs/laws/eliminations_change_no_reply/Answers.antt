use Rattle.survey_replies.proofs.InterviewLemmas.{eliminations_change_no_reply_lem}
use Rattle.survey_replies.proofs.laws.eliminations_change_no_reply.Goals as goal

pub returns : goal.returns
returns c = eliminations_change_no_reply_lem
