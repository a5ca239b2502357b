use Rattle.reply_laws.proofs.Replies.{each_has_reply_lem}
use Rattle.reply_laws.proofs.laws.each_has_reply.Goals as goal

pub returns : goal.returns
returns c = each_has_reply_lem
