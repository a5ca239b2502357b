use Rattle.survey_replies.proofs.CallLemmas.{conversations_join_lem}
use Rattle.survey_replies.proofs.laws.conversations_join.Goals as goal

pub returns : goal.returns
returns c = conversations_join_lem
