use Rattle.std.proofs.Common.{sym, subst, ◌∙◌}
use Rattle.survey_core.specs.Histories.{committed}
use Rattle.survey_state.specs.States.{Surveyed, IsKept}
use Rattle.survey_state.proofs.PoolLemmas.{kept_as}
use Rattle.survey_state.proofs.state.State.kept.Goals as goal

pub returns-clause-kept : goal.returns-clause-kept
returns-clause-kept c =
    subst (λ (s : Surveyed). IsKept s.listed (committed s.listed.classes s.journal) c.args.place
    (record { plus = c.in_ok-plus.plus; minus = c.in_ok-plus.minus; met = c.met-met.result })) c.self.view_is
    (kept_as c.self.invariant.pool_of c.args.place c.met-met.result c.in_ok-plus.plus c.in_ok-plus.minus c.requires.0
    (sym c.kept.ensures ∙ c.in_ok-plus.was) c.met-met.ensures)
