use Rattle.reply_laws.proofs.Decided.{each_is_decided_lem}
use Rattle.reply_laws.proofs.laws.each_is_decided.Goals as goal

pub returns : goal.returns
returns c = each_is_decided_lem
