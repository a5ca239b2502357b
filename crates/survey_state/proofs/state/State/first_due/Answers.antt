use Rattle.std.proofs.Common.{ℕ, ◌+◌, length, Option, MatchOption, sym, subst}
use Rattle.survey_core.specs.Legal.{AreEarlierAsked}
use Rattle.survey_state.specs.States.{Surveyed, IsFirstDue}
use Rattle.survey_state.proofs.PoolLemmas.{first_due_is}
use Rattle.survey_state.proofs.state.State.first_due.Goals as goal

pub returns : goal.returns
returns c =
    subst (λ (s : Surveyed). MatchOption c.first_due.result (AreEarlierAsked s.journal (length s.listed.classes + 1)) (λ place. IsFirstDue s.listed s.journal place)) c.self.view_is
    (subst (λ (o : Option ℕ). MatchOption o (AreEarlierAsked c.self.inside.journal.items (length c.self.inside.core.listed.classes + 1))
    (λ place. IsFirstDue c.self.inside.core.listed c.self.inside.journal.items place))
    (sym c.first_due.ensures) (first_due_is c.self.invariant.pool_of))
