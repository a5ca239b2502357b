use Rattle.std.proofs.Common.{◌≡◌, ◌++◌, take, drop, map}
use Rattle.question_queue.specs.Pools.{cut_kept}
use Rattle.question_queue.proofs.pool.cut_all.Given as goal

abbrev pub invariant-loop-latest : goal.invariant-loop-latest
invariant-loop-latest l = l.kept ≡ map (cut_kept l.met) (take l.latest-index l.initial.kept) ++ drop l.latest-index l.initial.kept
