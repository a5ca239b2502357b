use Rattle.survey_replies.proofs.PlainLemmas.{alone_is_the_plain_lem}
use Rattle.survey_replies.proofs.laws.alone_is_the_plain.Goals as goal

pub returns : goal.returns
returns c = alone_is_the_plain_lem
