use Rattle.survey_run.proofs.LawLemmas.{each_reply_stands_lem}
use Rattle.survey_run.proofs.laws.each_reply_stands.Goals as goal

pub returns : goal.returns
returns c = each_reply_stands_lem
