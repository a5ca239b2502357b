use Rattle.std.proofs.Common.{subst}
use Rattle.survey_core.specs.Recorded.{Recorded}
use Rattle.survey_core.specs.Legal.{IsLegal}
use Rattle.survey_core.proofs.survey.Core.model.Goals as goal

pub returns-clause-legal : goal.returns-clause-legal
returns-clause-legal c = subst (λ (r : Recorded). IsLegal r.listed r.history) c.self.view_is c.self.invariant.legal
