use Rattle.std.proofs.Common.{◌≡◌, ◌≤◌, length, subst, rules, arith}
use Rattle.survey_core.specs.declared.limits.TheConstants.{MAX_EVENTS}
use Rattle.survey_core.specs.Legal.{IsLegal}
use Rattle.survey_core.proofs.ShortLemmas.{legal_is_short_lem}
use Rattle.survey_state.specs.States.{Surveyed}
use Rattle.survey_state.proofs.state.State.length.Goals as goal

pub overflow_cast-result : goal.overflow_cast-result
overflow_cast-result c =
    let size : c.len.result ≡ length c.self.inside.journal.items = search rules in
    omega (arith, size, legal_is_short_lem _ _ c.self.invariant.model c.self.invariant.legal)

pub returns-clause-legal : goal.returns-clause-legal
returns-clause-legal c = subst (λ (s : Surveyed). IsLegal s.listed s.journal) c.self.view_is c.self.invariant.legal

pub returns-clause-short : goal.returns-clause-short
returns-clause-short c =
    subst (λ (s : Surveyed). length s.journal ≤ MAX_EVENTS) c.self.view_is
    (legal_is_short_lem _ _ c.self.invariant.model c.self.invariant.legal)
