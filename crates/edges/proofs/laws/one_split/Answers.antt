use Rattle.edges.proofs.SplitLaws.{one_split_lem}
use Rattle.edges.proofs.laws.one_split.Goals as goal

pub returns : goal.returns
returns c = one_split_lem
