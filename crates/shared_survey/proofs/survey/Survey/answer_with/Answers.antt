use Rattle.std.proofs.Common.{rules, subst}
use Rattle.survey_replies.specs.Requests as request
use Rattle.survey_replies.specs.Outcomes as outcome
use Rattle.survey_replies.specs.Calls.{Seen, IsCall}
use Rattle.shared_survey.specs.Passes.{pass_seen, survey_listed}
use Rattle.shared_survey.proofs.survey.Survey.answer_with.Goals as goal

pub returns-clause-call : goal.returns-clause-call
returns-clause-call g c =
    subst (λ (after : Seen). IsCall (survey_listed c.args.self.now) c.args.of.now.desk (pass_seen c.args.pass.now) after (request.answer c.args.question c.args.side) (outcome.answer c.answer_by.result)) (search rules)
    (simp (c.lend-access.ensures.lent.0, c.lend-access.ensures.lent.1) at c.answer_by.ensures.call)
