use Rattle.std.proofs.Common.{rules}
use Rattle.shared_survey.specs.Passes.{AreDeskTools, survey_listed}
use Rattle.shared_survey.proofs.survey.Survey.values.Goals as goal

pub values_with-reply-requires-clause-tools : goal.values_with-reply-requires-clause-tools
values_with-reply-requires-clause-tools g c =
    let tools : AreDeskTools (survey_listed c.args.self.now) c.take_tools-tools.result =
    c.requires.pass.belongs.tools c.take_tools-tools.result c.take_tools-tools.ensures.tools in
    search rules
