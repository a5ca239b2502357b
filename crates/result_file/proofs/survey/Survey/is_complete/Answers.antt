use Rattle.std.proofs.Common.{◌↔◌, IsTrue, subst}
use Rattle.survey_core.specs.Laws.{RanksEachClass}
use Rattle.result_file.specs.Kept.{KeptSurvey}
use Rattle.result_file.proofs.survey.Survey.is_complete.Goals as goal

pub returns : goal.returns
returns c = subst (λ (k : KeptSurvey). IsTrue c.all_ranked.result ↔ RanksEachClass k.survey.listed k.survey.history) c.self.view_is c.all_ranked.ensures
