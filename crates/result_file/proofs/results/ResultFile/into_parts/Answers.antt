use Rattle.std.proofs.Common.{subst}
use Rattle.criteria_model.specs.Answers.{MeetsAll}
use Rattle.survey_core.specs.Histories.{committed}
use Rattle.result_file.specs.LoadedResults.{LoadedResult}
use Rattle.result_file.proofs.results.ResultFile.into_parts.Goals as goal

pub returns-clause-meets : goal.returns-clause-meets
returns-clause-meets c =
    subst (λ (r : LoadedResult). MeetsAll r.survey.listed.criteria.levels (committed r.survey.listed.classes r.survey.history) c.point-point.result) c.self.view_is
    c.point-point.ensures.meets
