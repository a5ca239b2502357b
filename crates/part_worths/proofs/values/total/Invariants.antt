use Rattle.std.proofs.Common.{◌≡◌, ◌*◌, ◌≤◌, take, unsigned_abs}
use Rattle.criteria_model.specs.declared.limits.TheConstants.{CERTIFICATE_BOUND}
use Rattle.part_worths.specs.Values.{total}
use Rattle.part_worths.proofs.values.total.Given as goal

abbrev pub invariant-loop-value : goal.invariant-loop-value
invariant-loop-value l = (l.sum ≡ total (take l.value-index l.values)) × (unsigned_abs l.sum ≤ CERTIFICATE_BOUND * l.value-index)
