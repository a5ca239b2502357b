use Rattle.reply_laws.proofs.CompleteLemmas.{complete_exactly_lem}
use Rattle.reply_laws.proofs.laws.complete_exactly.Goals as goal

pub returns : goal.returns
returns c = complete_exactly_lem
