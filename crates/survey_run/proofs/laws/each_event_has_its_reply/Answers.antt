use Rattle.survey_run.proofs.LawLemmas.{each_event_has_its_reply_lem}
use Rattle.survey_run.proofs.laws.each_event_has_its_reply.Goals as goal

pub returns : goal.returns
returns c = each_event_has_its_reply_lem
