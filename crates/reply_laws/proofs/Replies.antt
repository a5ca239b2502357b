-- A reply on every legal history.
use Rattle.survey_replies.specs.Interview.{interview}
use Rattle.reply_laws.specs.Laws.{EachHasReply}
use Rattle.reply_laws.proofs.Decided.{each_is_decided_lem}
use Rattle.reply_laws.proofs.TotalLemmas.{has_reply_lem}

pub each_has_reply_lem : EachHasReply
each_has_reply_lem listed history request model legal =
    has_reply_lem listed history request model legal
    (λ place pair class. each_is_decided_lem listed.criteria.levels (interview listed history).answers pair)
