use Rattle.std.proofs.Common.{◌≡◌, ◌+◌, take, sum_by}
use Rattle.part_worths.specs.declared.apportionment.TheConstants.{WHOLE}
use Rattle.part_worths.specs.Apportionment.{rounded_down}
use Rattle.part_worths.proofs.apportionment.missing.Given as goal

abbrev pub invariant-loop-value : goal.invariant-loop-value
invariant-loop-value l = l.missing + sum_by (rounded_down l.total) (take l.value-index l.values) ≡ WHOLE
