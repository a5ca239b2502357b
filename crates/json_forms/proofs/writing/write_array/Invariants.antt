use Rattle.std.proofs.Common.{◌≡◌, ◌+◌, ◌*◌, ◌≤◌, ◌++◌, length, map, take, false}
use Rattle.json_forms.proofs.ArrayLemmas.{front}
use Rattle.json_forms.proofs.writing.write_array.Given as goal

-- The items so far are out.
abbrev pub invariant-loop-place : goal.invariant-loop-place
invariant-loop-place g l = record {
  out : l.out.bytes ≡ l.initial.out.bytes ++ front false (map g.T.Item.json (take l.place l.items));
  short : length l.out.bytes ≤ length l.initial.out.bytes + (g.T.Item.longest + 1) * l.place;
  room : l.out.room ≡ l.initial.out.room;
}
