use Rattle.part_worths.proofs.ValueLaws.{best_values_add_up}
use Rattle.part_worths.proofs.laws.best_values_add_up.Goals as goal

pub returns : goal.returns
returns c = best_values_add_up
