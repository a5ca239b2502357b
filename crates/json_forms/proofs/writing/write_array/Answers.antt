use Rattle.std.proofs.Common.{◌∙◌, ◌++◌, map, false, ap}
use Rattle.std.proofs.lemmas.List.{take_all}
use Rattle.json_forms.proofs.ArrayLemmas.{front, array_more, array_end, room_more}
use Rattle.json_forms.proofs.writing.write_array.Goals as goal

pub loop-place-preserved : goal.loop-place-preserved
loop-place-preserved g c = record {
  out = array_more g.T.Item.json c.args.items.now c.loop-place.place c.index-items-place.result c.add.new.self.bytes c.loop-place.out.bytes c.separate.new.out.bytes c.write.new.out.bytes
      c.loop-place-test.true c.index-items-place.is c.loop-place.invariant.out c.separate.ensures.bytes c.write.ensures.bytes;
  short = room_more g.T.Item.longest c.loop-place.place _ _ _ _ c.loop-place.invariant.short c.separate.ensures.grown c.write.ensures.grown;
  room = c.write.ensures.room ∙ c.separate.ensures.room ∙ c.loop-place.invariant.room;
}

pub returns-clause-bytes : goal.returns-clause-bytes
returns-clause-bytes g c =
    array_end (map g.T.Item.json c.args.items.now) c.args.out.now.bytes c.add.new.self.bytes c.loop-place.out.bytes c.add-2.new.self.bytes c.add.ensures.bytes
    (c.loop-place.invariant.out ∙ ap (λ xs. c.add.new.self.bytes ++ front false (map g.T.Item.json xs)) (take_all c.loop-place.place c.args.items.now c.loop-place-test.false))
    c.add-2.ensures.bytes
