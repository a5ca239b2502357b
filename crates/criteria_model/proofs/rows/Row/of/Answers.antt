use Rattle.std.proofs.Common.{pos}
use Rattle.row_laws.proofs.ListLemmas.{written_over}
use Rattle.criteria_model.specs.declared.limits.TheConstants.{MAX_INCREMENTS}
use Rattle.criteria_model.specs.Lists.{IsRow}
use Rattle.criteria_model.proofs.rows.Row.of.Goals as goal

pub invariant_of-result : goal.invariant_of-result
invariant_of-result c = written_over MAX_INCREMENTS (pos 0) c.args.items.now _ IsRow c.requires.most c.copy_from_slice.ensures.after c.requires
