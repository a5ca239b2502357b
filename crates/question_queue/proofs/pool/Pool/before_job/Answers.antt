use Rattle.std.proofs.Common.{ap, arith}
use Rattle.std.specs.List.{position_or_len}
use Rattle.question_queue.specs.Pools.{Pooled, is_job}
use Rattle.question_queue.proofs.PoolLaws.{before_jobs}
use Rattle.question_queue.proofs.pool.Pool.before_job.Goals as goal

pub returns-else-version-self : goal.returns-else-version-self
returns-else-version-self c =
    omega (arith, c.self.invariant.first_unranked, before_jobs c.self.inside.marks.items c.args.version, ap (λ (v : Pooled). position_or_len (is_job c.args.version) v.marks) c.self.view_is)
