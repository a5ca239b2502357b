use Rattle.row_laws.proofs.ListLemmas.{written_over}
use Rattle.criteria_model.specs.declared.limits.TheConstants.{MAX_INCREMENTS}
use Rattle.part_worths.specs.Apportionment.{IsShares}
use Rattle.part_worths.proofs.apportionment.Shares.with_items.Goals as goal

pub invariant_of-result : goal.invariant_of-result
invariant_of-result c = written_over MAX_INCREMENTS 0 c.args.items.now _ IsShares c.requires.most c.copy_from_slice.ensures.after c.requires
