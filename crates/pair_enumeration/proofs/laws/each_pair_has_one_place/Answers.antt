use Rattle.pair_enumeration.proofs.PlaceLaws.{each_pair_has_one_place_lem}
use Rattle.pair_enumeration.proofs.laws.each_pair_has_one_place.Goals as goal

pub returns : goal.returns
returns c = each_pair_has_one_place_lem
