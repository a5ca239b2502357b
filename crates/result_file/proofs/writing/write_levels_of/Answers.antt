use Rattle.std.proofs.Common.{◌∙◌, decimal, arith}
use Rattle.result_file.proofs.ListedLemmas.{item_here, listed_first, listed_more}
use Rattle.result_file.proofs.writing.write_levels_of.Goals as goal

pub loop-criterion-init : goal.loop-criterion-init
loop-criterion-init c = record {
  out = listed_first decimal c.args.model.now.levels c.levels.result c.args.out.now.bytes c.write.new.out.bytes c.levels.ensures.value c.write.ensures.bytes;
  short = omega (arith, c.write.ensures.grown);
  room = c.write.ensures.room;
}

pub loop-criterion-preserved : goal.loop-criterion-preserved
loop-criterion-preserved c = record {
  out = listed_more decimal c.args.model.now.levels c.loop-criterion.criterion c.levels-in-loop-criterion.result c.args.out.now.bytes c.loop-criterion.out.bytes c.add.new.self.bytes c.write-in-loop-criterion.new.out.bytes
      c.loop-criterion.auto.criterion (item_here c.args.model.now.levels c.loop-criterion.criterion c.levels-in-loop-criterion.result c.levels-in-loop-criterion.ensures.value) c.loop-criterion.invariant.out c.add.ensures.bytes c.write-in-loop-criterion.ensures.bytes;
  short = omega (arith, c.write-in-loop-criterion.ensures.grown, c.add.ensures.grown, c.loop-criterion.invariant.short);
  room = c.write-in-loop-criterion.ensures.room ∙ c.add.ensures.room ∙ c.loop-criterion.invariant.room;
}
