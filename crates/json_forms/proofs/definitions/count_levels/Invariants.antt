use Rattle.std.proofs.Common.{◌≡◌, ◌+◌, ◌^◌, ◌<◌, length, map, take}
use Rattle.json_forms.specs.DefinitionViews.{level_counts}
use Rattle.json_forms.specs.EntryViews.{criterion_view}
use Rattle.json_forms.proofs.definitions.count_levels.Given as goal

-- The criteria so far were counted.
abbrev pub invariant-loop-criterion : goal.invariant-loop-criterion
invariant-loop-criterion l = record {
  counts : l.counts.items ≡ level_counts (map criterion_view (take l.criterion-index l.criteria));
  few : length l.criteria + 1 < 2 ^ 32;
}
