use Rattle.std.proofs.Common.{refl, subst, ◌∙◌}
use Rattle.question_queue.specs.Pools.{as_ranked, as_asked}
use Rattle.survey_core.specs.declared.events.Event.{Event}
use Rattle.survey_state.specs.States.{IsLastEvent}
use Rattle.survey_state.proofs.PoolLemmas.{given_changed, commit_asked, marked_first, pool_eliminate, pool_issue, pool_commit, pool_close, pool_withdraw}
use Rattle.survey_state.proofs.pool.mark.Goals as goal

-- ---- Eliminate
pub returns-in-Eliminate-clause-pool : goal.returns-in-Eliminate-clause-pool
returns-in-Eliminate-clause-pool c =
    pool_eliminate c.args.core.now c.args.pool.now c.in-Eliminate.worker c.in-Eliminate.place c.in-Eliminate.verdict c.in-Eliminate.combination c.mark_ranked.new.self
    (subst (λ (e : Event). IsLastEvent c.args.core.now e c.args.pool.now) c.in-Eliminate.is c.requires) c.mark_ranked.ensures

pub returns-in-Eliminate-clause-given : goal.returns-in-Eliminate-clause-given
returns-in-Eliminate-clause-given c = given_changed as_ranked c.args.pool.now c.mark_ranked.new.self c.in-Eliminate.place c.mark_ranked.ensures (λ mark. refl)

-- ---- Issue
pub returns-in-Issue-clause-pool : goal.returns-in-Issue-clause-pool
returns-in-Issue-clause-pool c =
    pool_issue c.args.core.now c.args.pool.now c.in-Issue.desk c.in-Issue.place c.in-Issue.plus c.in-Issue.minus c.mark_asked.new.self
    (subst (λ (e : Event). IsLastEvent c.args.core.now e c.args.pool.now) c.in-Issue.is c.requires) c.mark_asked.ensures

pub returns-in-Issue-clause-given : goal.returns-in-Issue-clause-given
returns-in-Issue-clause-given c = given_changed as_asked c.args.pool.now c.mark_asked.new.self c.in-Issue.place c.mark_asked.ensures (λ mark. refl)

-- ---- Commit
pub asked_place-requires-clause-high : goal.asked_place-requires-clause-high
asked_place-requires-clause-high c =
    (commit_asked c.args.core.now c.args.pool.now c.in-Commit.desk c.in-Commit.question c.in-Commit.side c.in-Commit.plus c.in-Commit.minus c.in-Commit.point
    (subst (λ (e : Event). IsLastEvent c.args.core.now e c.args.pool.now) c.in-Commit.is c.requires)).1

pub returns-in-Commit-clause-pool : goal.returns-in-Commit-clause-pool
returns-in-Commit-clause-pool c =
    pool_commit c.args.core.now c.args.pool.now c.in-Commit.desk c.in-Commit.question c.in-Commit.side c.in-Commit.plus c.in-Commit.minus c.in-Commit.point
    c.asked_place.result c.mark_ranked-in-Commit.new.self
    (subst (λ (e : Event). IsLastEvent c.args.core.now e c.args.pool.now) c.in-Commit.is c.requires)
    c.asked_place.ensures.0 c.asked_place.ensures.1.0 c.mark_ranked-in-Commit.ensures

pub returns-in-Commit-clause-given : goal.returns-in-Commit-clause-given
returns-in-Commit-clause-given c =
    given_changed as_ranked c.args.pool.now c.mark_ranked-in-Commit.new.self c.asked_place.result c.mark_ranked-in-Commit.ensures (λ mark. refl)

-- ---- Close
pub returns-in-Close-clause-pool : goal.returns-in-Close-clause-pool
returns-in-Close-clause-pool c =
    pool_close c.args.core.now c.args.pool.now c.in-Close.desk c.in-Close.question
    (subst (λ (e : Event). IsLastEvent c.args.core.now e c.args.pool.now) c.in-Close.is c.requires)

-- ---- Withdraw
pub mark_all-requires : goal.mark_all-requires
mark_all-requires c =
    marked_first c.args.core.now c.args.pool.now c.in-Withdraw.desk c.in-Withdraw.answer
    (subst (λ (e : Event). IsLastEvent c.args.core.now e c.args.pool.now) c.in-Withdraw.is c.requires) c.cut_met.new.self.marks c.cut_met.ensures.marks

pub returns-in-Withdraw-clause-pool : goal.returns-in-Withdraw-clause-pool
returns-in-Withdraw-clause-pool c =
    pool_withdraw c.args.core.now c.args.pool.now c.in-Withdraw.desk c.in-Withdraw.answer
    (subst (λ (e : Event). IsLastEvent c.args.core.now e c.args.pool.now) c.in-Withdraw.is c.requires) c.mark_all.new.pool c.mark_all.ensures.marks
    (c.mark_all.ensures.kept ∙ c.cut_met.ensures.kept)
