use Rattle.std.proofs.Common.{ℕ, Option, MatchOption, sym, subst}
use Rattle.survey_core.specs.Laws.{RanksEachClass}
use Rattle.survey_state.specs.States.{Surveyed, IsFirstUnranked}
use Rattle.survey_state.proofs.PoolLemmas.{first_unranked_is}
use Rattle.survey_state.proofs.state.State.first_unranked.Goals as goal

pub returns : goal.returns
returns c =
    subst (λ (s : Surveyed). MatchOption c.first_unranked.result (RanksEachClass s.listed s.journal) (λ place. IsFirstUnranked s.listed s.journal place)) c.self.view_is
    (subst (λ (o : Option ℕ). MatchOption o (RanksEachClass c.self.inside.core.listed c.self.inside.journal.items)
    (λ place. IsFirstUnranked c.self.inside.core.listed c.self.inside.journal.items place))
    (sym c.first_unranked.ensures) (first_unranked_is c.self.invariant.pool_of))
