use Rattle.survey_replies.proofs.TurnLemmas.{elimination_prepares_lem}
use Rattle.survey_replies.proofs.laws.elimination_prepares.Goals as goal

pub returns : goal.returns
returns c = elimination_prepares_lem
