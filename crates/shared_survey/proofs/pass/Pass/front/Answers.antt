use Rattle.std.proofs.Common.{sym, subst}
use Rattle.survey_core.specs.Legal.{IsLegal}
use Rattle.shared_survey.specs.declared.pass.Pass.{Pass}
use Rattle.shared_survey.specs.Passes.{pass_seen, survey_listed}
use Rattle.shared_survey.proofs.pass.Pass.front.Goals as goal

pub returns-clause-legal : goal.returns-clause-legal
returns-clause-legal c =
    λ survey of. subst (λ (p : Pass). IsLegal (survey_listed survey) (pass_seen p).journal) (sym c.of.ensures) (c.length.ensures.legal survey of)
