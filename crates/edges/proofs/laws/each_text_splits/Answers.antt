use Rattle.edges.proofs.SplitLaws.{each_text_splits_lem}
use Rattle.edges.proofs.laws.each_text_splits.Goals as goal

pub returns : goal.returns
returns c = each_text_splits_lem
