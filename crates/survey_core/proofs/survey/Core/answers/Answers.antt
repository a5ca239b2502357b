use Rattle.std.proofs.Common.{◌≤◌, length, All, subst}
use Rattle.criteria_model.specs.Pairs.{IsFit}
use Rattle.survey_core.specs.Recorded.{Recorded}
use Rattle.survey_core.proofs.KeptLemmas.{fit_at, few_answers}
use Rattle.survey_core.proofs.survey.Core.answers.Goals as goal

pub returns-clause-fit : goal.returns-clause-fit
returns-clause-fit c =
    subst (λ (r : Recorded). All (λ answer. IsFit r.listed.criteria.levels answer.pair) c.self.inside.answers.answers) c.self.view_is
    (fit_at _ _ _ _ _ _ c.self.invariant)

pub returns-clause-few : goal.returns-clause-few
returns-clause-few c =
    subst (λ (r : Recorded). length c.self.inside.answers.answers ≤ length r.listed.classes) c.self.view_is
    (few_answers _ _ _ _ _ _ c.self.invariant)
