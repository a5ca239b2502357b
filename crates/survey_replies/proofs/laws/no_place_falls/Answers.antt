use Rattle.survey_replies.proofs.CallLemmas.{no_place_falls_lem}
use Rattle.survey_replies.proofs.laws.no_place_falls.Goals as goal

pub returns : goal.returns
returns c = no_place_falls_lem
