use Rattle.survey_replies.proofs.JournalLemmas.{places_from_start_lem}
use Rattle.survey_replies.proofs.laws.places_from_start.Goals as goal

pub returns : goal.returns
returns c = places_from_start_lem
