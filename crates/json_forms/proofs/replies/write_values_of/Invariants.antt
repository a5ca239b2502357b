use Rattle.std.proofs.Common.{◌≡◌, length, take, map}
use Rattle.std.specs.List.{range_with_len}
use Rattle.criteria_model.specs.declared.limits.TheConstants.{MAX_LEVEL}
use Rattle.part_worths.specs.Values.{value_of_level}
use Rattle.json_forms.proofs.replies.write_values_of.Given as goal

-- The values of the levels so far are in their cells.
abbrev pub invariant-loop-place : goal.invariant-loop-place
invariant-loop-place l = record {
  len : length l.values ≡ MAX_LEVEL;
  written : take l.place l.values ≡ map (value_of_level l.model.levels l.vector l.criterion) (range_with_len 1 l.place);
}
