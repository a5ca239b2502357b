use Rattle.survey_replies.proofs.TurnLemmas.{nothing_prepares_lem}
use Rattle.survey_replies.proofs.laws.nothing_prepares.Goals as goal

pub returns : goal.returns
returns c = nothing_prepares_lem
