use Rattle.std.proofs.Common.{◌-◌}
use Rattle.simplex.proofs.Raises.{pivoted_entry}
use Rattle.simplex.proofs.raise.reach.Goals as goal

pub pivot-requires-2-clause-entry : goal.pivot-requires-2-clause-entry
pivot-requires-2-clause-entry c = pivoted_entry c.args.work.now c.pivot.new.self (c.args.last - 1) (c.args.col - 1) c.requires.dictionary c.pivot.ensures.pivoted
