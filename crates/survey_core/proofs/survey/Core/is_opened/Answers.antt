use Rattle.std.proofs.Common.{◌↔◌, IsTrue, All, sym, subst}
use Rattle.survey_core.specs.Recorded.{Recorded}
use Rattle.criteria_model.specs.Criteria.{Criteria}
use Rattle.criteria_model.specs.Pairs.{IsFit}
use Rattle.survey_core.proofs.KeptLemmas.{fit_at}
use Rattle.survey_core.specs.Legal.{OpensClass}
use Rattle.survey_core.proofs.KeptLemmas.{opens_at}
use Rattle.survey_core.proofs.survey.Core.is_opened.Goals as goal

pub opens-requires-clause-answers_fit : goal.opens-requires-clause-answers_fit
opens-requires-clause-answers_fit c =
    subst (λ (m : Criteria). All (λ answer. IsFit m.levels answer.pair) c.self.inside.answers.answers) (sym c.model-model.ensures.value) (fit_at _ _ _ _ _ _ c.self.invariant)

pub returns : goal.returns
returns c =
    subst (λ (r : Recorded). IsTrue c.opens.result ↔ OpensClass r.listed r.history c.args.place c.args.plus.now c.args.minus.now) c.self.view_is
    (opens_at _ _ _ _ _ _ c.self.invariant c.model-model.result c.args.place c.class-pair.result c.args.plus.now c.args.minus.now c.opens.result
    c.model-model.ensures.value c.class-pair.ensures.value c.opens.ensures.opens)
