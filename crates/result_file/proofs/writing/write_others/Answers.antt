use Rattle.std.proofs.Common.{◌∙◌}
use Rattle.result_file.proofs.ListedLemmas.{others_more, room_more}
use Rattle.result_file.proofs.writing.write_others.Goals as goal

pub loop-item-preserved : goal.loop-item-preserved
loop-item-preserved g c = record {
  out = others_more g.T.Item.text c.args.items.now c.loop-item.item-index c.item-item.result c.args.out.now.bytes c.loop-item.out.bytes c.add.new.self.bytes c.write.new.out.bytes
      c.loop-item-test.true c.item-item.is c.loop-item.invariant.out c.add.ensures.bytes c.write.ensures.bytes;
  short = room_more g.T.Item.longest c.loop-item.item-index _ _ _ _ c.loop-item.invariant.short c.add.ensures.grown c.write.ensures.grown;
  room = c.write.ensures.room ∙ c.add.ensures.room ∙ c.loop-item.invariant.room;
}
