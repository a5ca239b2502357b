use Rattle.std.proofs.Common.{◌≡◌, ◌-◌, ℕ, vec_len, vec_capacity, Option, IfSome, refl, ap, sym, subst, ◌∙◌, arith}
use Rattle.question_queue.specs.Pools.{Pooled, first_place, is_job, given_out}
use Rattle.survey_core.specs.Legal.{IsPlace, IsUnranked}
use Rattle.survey_state.specs.States.{Surveyed, version_of, with_pool, with_given}
use Rattle.survey_state.proofs.JournalLemmas.{keeps_with}
use Rattle.survey_state.proofs.PoolLemmas.{job_is, job_kept, pool_by}
use Rattle.survey_state.proofs.state.State.job.Goals as goal

pub invariant_of-self : goal.invariant_of-self
invariant_of-self c =
    keeps_with _ _ _ c.self.invariant refl
    (job_kept c.self.invariant.pool_of c.self.inside.version c.next_job.new.self c.next_job.ensures.marks c.next_job.ensures.len c.next_job.ensures.kept)
    (omega arith)

pub returns-clause-job : goal.returns-clause-job
returns-clause-job c =
    c.next_job.ensures.job ∙ ap (λ (n : ℕ). first_place (is_job n) c.self.inside.pool.marks) c.self.invariant.changes
    ∙ ap (λ (s : Surveyed). first_place (is_job (version_of s.journal)) s.pool.marks) c.self.view_is

pub returns-clause-given : goal.returns-clause-given
returns-clause-given c =
    let pool : c.next_job.new.self ≡ with_given c.self.inside.pool (version_of c.self.inside.journal.items) =
    pool_by c.next_job.new.self _ _
    (c.next_job.ensures.marks ∙ ap (λ (n : ℕ). given_out n c.self.inside.pool.marks) c.self.invariant.changes) c.next_job.ensures.kept in
    ap (λ (p : Pooled). with_pool (record {
      listed = c.self.inside.core.listed;
      journal = c.self.inside.journal.items;
      spare = vec_capacity c.self.inside.journal - vec_len c.self.inside.journal;
      pool = c.self.inside.pool;
    }) p) pool ∙ ap (λ (s : Surveyed). with_pool s (with_given s.pool (version_of s.journal))) c.self.view_is

pub returns-clause-open : goal.returns-clause-open
returns-clause-open c =
    subst (λ (s : Surveyed). IfSome c.next_job.result (λ place. IsPlace s.listed place × IsUnranked s.journal place)) c.self.view_is
    (subst (λ (o : Option ℕ). IfSome o (λ place. IsPlace c.self.inside.core.listed place × IsUnranked c.self.inside.journal.items place))
    (sym c.next_job.ensures.job) (job_is c.self.invariant.pool_of c.self.inside.version))
