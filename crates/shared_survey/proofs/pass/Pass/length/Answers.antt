use Rattle.shared_survey.specs.Passes.{survey_listed}
use Rattle.shared_survey.proofs.pass.Pass.length.Goals as goal

pub returns-clause-listed : goal.returns-clause-listed
returns-clause-listed c = λ survey of. (c.length.ensures.legal (survey_listed survey) of.seat.kind).0

pub returns-clause-legal : goal.returns-clause-legal
returns-clause-legal c = λ survey of. (c.length.ensures.legal (survey_listed survey) of.seat.kind).1
