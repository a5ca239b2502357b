use Rattle.part_worths.proofs.ShareLaws.{shares_add_up}
use Rattle.part_worths.proofs.laws.shares_add_up.Goals as goal

pub returns : goal.returns
returns c = shares_add_up
