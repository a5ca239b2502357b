use Rattle.survey_replies.proofs.CallLemmas.{reply_stays_lem}
use Rattle.survey_replies.proofs.laws.reply_stays.Goals as goal

pub returns : goal.returns
returns c = reply_stays_lem
