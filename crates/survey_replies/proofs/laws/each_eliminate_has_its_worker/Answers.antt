use Rattle.survey_replies.proofs.JournalLemmas.{each_eliminate_has_its_worker_lem}
use Rattle.survey_replies.proofs.laws.each_eliminate_has_its_worker.Goals as goal

pub returns : goal.returns
returns c = each_eliminate_has_its_worker_lem
