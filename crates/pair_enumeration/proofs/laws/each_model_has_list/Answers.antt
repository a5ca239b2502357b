use Rattle.pair_enumeration.proofs.OneList.{each_model_has_list_lem}
use Rattle.pair_enumeration.proofs.laws.each_model_has_list.Goals as goal

pub returns : goal.returns
returns c = each_model_has_list_lem
