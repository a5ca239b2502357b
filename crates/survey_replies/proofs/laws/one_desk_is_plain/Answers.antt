use Rattle.survey_replies.proofs.AloneLemmas.{one_desk_is_plain_lem}
use Rattle.survey_replies.proofs.laws.one_desk_is_plain.Goals as goal

pub returns : goal.returns
returns c = one_desk_is_plain_lem
