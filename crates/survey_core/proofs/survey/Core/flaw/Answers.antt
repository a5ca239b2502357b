use Rattle.std.proofs.Common.{All, IsSomeAnd, sym, subst}
use Rattle.survey_core.specs.Recorded.{Recorded}
use Rattle.criteria_model.specs.Criteria.{Criteria}
use Rattle.criteria_model.specs.Pairs.{IsFit}
use Rattle.farkas_check.specs.Flaws.{IsFirstFlaw}
use Rattle.survey_core.specs.Histories.{class_at, committed}
use Rattle.survey_core.proofs.KeptLemmas.{fit_at, flaw_at}
use Rattle.survey_core.proofs.survey.Core.flaw.Goals as goal

pub flaw-requires-clause-answers_fit : goal.flaw-requires-clause-answers_fit
flaw-requires-clause-answers_fit c =
    subst (λ (m : Criteria). All (λ answer. IsFit m.levels answer.pair) c.self.inside.answers.answers) (sym c.model-model.ensures.value) (fit_at _ _ _ _ _ _ c.self.invariant)

pub returns : goal.returns
returns c =
    subst (λ (r : Recorded). IsSomeAnd (class_at r.listed.classes c.args.place)
    (λ pair. IsFirstFlaw r.listed.criteria.levels (committed r.listed.classes r.history) c.args.combination.now pair c.args.verdict c.flaw.result)) c.self.view_is
    (flaw_at _ _ _ _ _ _ c.self.invariant c.model-model.result c.args.place c.class-pair.result c.args.combination.now c.args.verdict c.flaw.result
    c.model-model.ensures.value c.class-pair.ensures.value c.flaw.ensures)
