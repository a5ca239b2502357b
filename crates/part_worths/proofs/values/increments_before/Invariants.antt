use Rattle.std.proofs.Common.{◌≡◌, ◌-◌, ◌*◌, ◌≤◌, take}
use Rattle.criteria_model.specs.declared.limits.TheConstants.{MAX_LEVEL}
use Rattle.criteria_model.specs.Worth.{increments}
use Rattle.part_worths.proofs.values.increments_before.Given as goal

abbrev pub invariant-loop-earlier : goal.invariant-loop-earlier
invariant-loop-earlier l = (l.before ≡ increments (take (l.earlier - 1) l.model.levels)) × (l.before ≤ MAX_LEVEL * l.earlier)
