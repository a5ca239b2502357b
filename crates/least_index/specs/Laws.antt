-- The laws of the least-index rule.
use Rattle.std.specs.Prelude.{◌≡◌, ◌^◌, ◌<◌, false, pos, ◌<ℤ◌}
use Rattle.least_index.specs.Dictionary.{RationalDictionary}
use Rattle.least_index.specs.Rule.{is_end, next, pivots_left, Covers}

-- from each dictionary the rule makes fewer than 2^size pivots
abbrev pub RuleEnds : Type 0
RuleEnds = (d : RationalDictionary) → pos 0 <ℤ d.scale → pivots_left d < 2 ^ d.size

-- a dictionary with the basis of the rule's next one, of which all holds that satisfies that, has fewer pivots left
abbrev pub PivotsFall : Type 0
PivotsFall = (d other : RationalDictionary) → pos 0 <ℤ d.scale → is_end d ≡ false → Covers (next d) other → pivots_left other < pivots_left d
