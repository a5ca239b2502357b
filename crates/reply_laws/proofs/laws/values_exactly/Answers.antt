use Rattle.reply_laws.proofs.CompleteLemmas.{values_exactly_lem}
use Rattle.reply_laws.proofs.laws.values_exactly.Goals as goal

pub returns : goal.returns
returns c = values_exactly_lem
