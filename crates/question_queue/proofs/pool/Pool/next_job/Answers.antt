use Rattle.std.proofs.Common.{◌≡◌, ◌≢◌, ◌<◌, length, vec_len, Some, sym, ap, ◌∙◌, rules, arith}
use Rattle.std.specs.List.{position_or_len}
use Rattle.question_queue.specs.Pools.{Pooled, is_job, given_out}
use Rattle.question_queue.proofs.Places.{item_at}
use Rattle.question_queue.proofs.PoolLaws.{job_within, given_keeps, given_out_is}
use Rattle.question_queue.proofs.pool.Pool.next_job.Goals as goal
use Rattle.question_queue.proofs.pool.Pool.next_job.Goals.{After-len}

-- the job's place is the first of the list, where it isn't past the end
found : (c : After-len) → c.find_job-index.result ≢ c.len.result
    → (c.find_job-index.result ≡ position_or_len (is_job c.args.version) c.self.inside.marks.items) × (c.find_job-index.result < length c.self.inside.marks.items)
found c other =
    job_within c.args.self.now c.self.inside.marks.items c.self.inside.kept.items c.args.version c.find_job-index.result c.len.result
    c.self.view_is c.find_job-index.ensures (search rules) other

pub index_mut-requires : goal.index_mut-requires
index_mut-requires c =
    let size : vec_len c.self.inside.marks ≡ length c.self.inside.marks.items = search rules in
    omega (arith, size, (found (goal.at.index_mut-requires c).After-len c.if-index-len.false).1)

pub overflow_add-self : goal.overflow_add-self
overflow_add-self c = omega (arith, c.self.invariant.few, (found (goal.at.overflow_add-self c).After-len c.if-index-len.false).1)

pub overflow_cast-result : goal.overflow_cast-result
overflow_cast-result c = omega (arith, c.self.invariant.few, (found (goal.at.overflow_cast-result c).After-len c.if-index-len.false).1)

pub overflow_add-result : goal.overflow_add-result
overflow_add-result c = omega (arith, c.self.invariant.few, (found (goal.at.overflow_add-result c).After-len c.if-index-len.false).1)

pub invariant_of-self-2 : goal.invariant_of-self-2
invariant_of-self-2 c =
    let here = found (goal.at.invariant_of-self-2 c).After-len c.if-index-len.false in
    given_keeps c.self.inside.marks.items c.self.inside.kept.items _ _ _ _ c.args.version c.find_job-index.result c.index_mut.result.now c.self.invariant
    (item_at c.self.inside.marks.items c.find_job-index.result c.index_mut.result.now here.1 ∙ ap Some (sym c.index_mut.ensures.value)) here.0

pub returns-clause-marks : goal.returns-clause-marks
returns-clause-marks c =
    let here = found (goal.at.returns-clause-marks c).After-len c.if-index-len.false in
    given_out_is c.args.version c.self.inside.marks.items c.find_job-index.result c.index_mut.result.now here.0
    (item_at c.self.inside.marks.items c.find_job-index.result c.index_mut.result.now here.1 ∙ ap Some (sym c.index_mut.ensures.value))
    ∙ ap (λ (v : Pooled). given_out c.args.version v.marks) c.self.view_is
