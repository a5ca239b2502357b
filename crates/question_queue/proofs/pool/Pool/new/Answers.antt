use Rattle.std.proofs.Common.{rules}
use Rattle.question_queue.proofs.PoolLaws.{new_keeps}
use Rattle.question_queue.proofs.pool.Pool.new.Goals as goal

pub invariant_of-result : goal.invariant_of-result
invariant_of-result c = new_keeps c.args.count _ _ (search rules) (search rules) (search rules)
