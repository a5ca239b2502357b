use Rattle.std.proofs.Common.{◌≡◌, ◌++◌, length, map, false, string_bytes}
use Rattle.std.specs.Vec.Iter.{into_iter_items, into_iter_len}
use Rattle.json_forms.specs.Definitions.{repeats}
use Rattle.json_forms.proofs.by_name.once.Given as goal

-- The names so far stand once, and are in the set.
abbrev pub invariant-loop-name : goal.invariant-loop-name
invariant-loop-name l = record {
  whole : l.yielded ++ into_iter_items l.name-iterator ≡ into_iter_items l.initial.name-iterator;
  len : into_iter_len l.name-iterator ≡ length (into_iter_items l.name-iterator);
  kept : l.found.keys ≡ l.yielded;
  once : repeats (map string_bytes l.yielded) ≡ false;
}
