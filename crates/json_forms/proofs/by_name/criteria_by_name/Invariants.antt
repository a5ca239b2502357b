use Rattle.std.proofs.Common.{◌≡◌, ◌++◌, length, map, false}
use Rattle.std.specs.List.{list_any}
use Rattle.std.specs.Vec.Iter.{into_iter_items, into_iter_len}
use Rattle.json_forms.specs.DefinitionViews.{CriterionView}
use Rattle.json_forms.specs.Definitions.{repeats}
use Rattle.json_forms.specs.EntryViews.{criterion_view, kept_criterion}
use Rattle.json_forms.proofs.by_name.criteria_by_name.Given as goal

-- The levels of the criteria so far stand once, and are in the sets.
abbrev pub invariant-loop-name : goal.invariant-loop-name
invariant-loop-name l = record {
  whole : l.yielded ++ into_iter_items l.name-iterator ≡ into_iter_items l.initial.name-iterator;
  len : into_iter_len l.name-iterator ≡ length (into_iter_items l.name-iterator);
  kept : map kept_criterion l.kept.items ≡ map criterion_view l.yielded;
  once : list_any (λ (criterion : CriterionView). repeats criterion.levels) (map criterion_view l.yielded) ≡ false;
}
