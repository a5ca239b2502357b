use Rattle.std.proofs.Common.{slice_set, ap, ◌∙◌, arith}
use Rattle.std.proofs.lemmas.List.{get_or_default}
use Rattle.std.proofs.lemmas.List.Edits.{map_over_more}
use Rattle.question_queue.specs.Pools.{cut_kept}
use Rattle.question_queue.proofs.pool.cut_all.Goals as goal

pub loop-latest-preserved : goal.loop-latest-preserved
loop-latest-preserved c =
    ap (slice_set c.loop-latest.kept c.loop-latest.latest-index) c.cut.ensures
    ∙ map_over_more (cut_kept c.args.met) c.args.kept.now c.loop-latest.kept c.loop-latest.latest-index _ c.loop-latest-test.true c.loop-latest.invariant
    (get_or_default c.loop-latest.kept c.loop-latest.latest-index _ _ (omega arith))
