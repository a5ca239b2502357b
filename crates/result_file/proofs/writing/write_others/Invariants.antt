use Rattle.std.proofs.Common.{◌≡◌, ◌+◌, ◌*◌, ◌≤◌, ◌∷◌, ◌++◌, length, take}
use Rattle.std.specs.List.{flat_map}
use Rattle.result_file.proofs.writing.write_others.Given as goal

-- The items so far are out.
abbrev pub invariant-loop-item : goal.invariant-loop-item
invariant-loop-item g l = record {
  out : l.out.bytes ≡ l.initial.out.bytes ++ flat_map (λ item. 0x2C ∷ g.T.Item.text item) (take l.item-index l.items);
  short : length l.out.bytes ≤ length l.initial.out.bytes + (g.T.Item.longest + 1) * l.item-index;
  room : l.out.room ≡ l.initial.out.room;
}
