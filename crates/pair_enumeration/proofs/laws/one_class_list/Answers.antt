use Rattle.pair_enumeration.proofs.OneList.{one_class_list_lem}
use Rattle.pair_enumeration.proofs.laws.one_class_list.Goals as goal

pub returns : goal.returns
returns c = one_class_list_lem
