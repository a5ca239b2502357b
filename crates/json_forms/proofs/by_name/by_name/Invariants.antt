use Rattle.std.proofs.Common.{◌≡◌, ◌++◌, length, map, false}
use Rattle.std.specs.Vec.Iter.{into_iter_items, into_iter_len}
use Rattle.json_forms.specs.Definitions.{repeats}
use Rattle.json_forms.specs.EntryViews.{name_of}
use Rattle.json_forms.proofs.by_name.by_name.Given as goal

-- The names so far stand once, and the entries are in the map.
abbrev pub invariant-loop-name : goal.invariant-loop-name
invariant-loop-name g l = record {
  whole : l.yielded ++ into_iter_items l.name-iterator ≡ into_iter_items l.initial.name-iterator;
  len : into_iter_len l.name-iterator ≡ length (into_iter_items l.name-iterator);
  kept : l.found.entries ≡ l.yielded;
  once : repeats (map name_of l.yielded) ≡ false;
}
