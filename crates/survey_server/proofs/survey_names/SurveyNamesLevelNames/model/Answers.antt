use Rattle.survey_server.proofs.NameLemmas.{definition_names}
use Rattle.survey_server.proofs.survey_names.SurveyNamesLevelNames.model.Goals as goal

pub returns-clause-named : goal.returns-clause-named
returns-clause-named c = definition_names c.args.self.now.definition
