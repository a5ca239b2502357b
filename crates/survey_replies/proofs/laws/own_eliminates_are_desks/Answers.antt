use Rattle.survey_replies.proofs.JournalLemmas.{own_eliminates_are_desks_lem}
use Rattle.survey_replies.proofs.laws.own_eliminates_are_desks.Goals as goal

pub returns : goal.returns
returns c = own_eliminates_are_desks_lem
