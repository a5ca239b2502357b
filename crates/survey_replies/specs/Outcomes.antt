-- What a survey replies to a request.
use Rattle.std.specs.Prelude.{ℕ}
use Rattle.survey_replies.specs.declared.replies.NextReply.{NextReply}
use Rattle.survey_replies.specs.declared.replies.NextReply.TheVariants.{Question, Full, Waiting, Complete}
use Rattle.survey_replies.specs.declared.replies.AnswerReply.{AnswerReply}
use Rattle.survey_replies.specs.declared.replies.AnswerReply.TheVariants.{Accepted, Unknown, Closed, Implied}
use Rattle.survey_replies.specs.declared.replies.ValuesReply.{ValuesReply}
use Rattle.survey_replies.specs.declared.replies.ValuesReply.TheVariants.{Values, Incomplete}
use Rattle.survey_replies.specs.declared.replies.WithdrawReply.{WithdrawReply}
use Rattle.survey_replies.specs.declared.replies.WithdrawReply.TheVariants.{Withdrawn, Nothing, Spent}
use Rattle.survey_replies.specs.Requests.{Request}

-- the reply of each kind; a look has only its place in the journal
pub data Outcome : Type 0 where
  next : NextReply → Outcome
  answer : AnswerReply → Outcome
  values : ValuesReply → Outcome
  withdraw : WithdrawReply → Outcome
  look : ℕ → Outcome

-- a request and its reply
pub record Exchange : Type 0 where
  pub request : Request
  pub reply : Outcome

-- the length of the journal before the reply's last turn
abbrev pub at_of : Outcome → ℕ
at_of (next (Question at number place pair)) = at
at_of (next (Full at)) = at
at_of (next (Waiting at place plus minus)) = at
at_of (next (Complete at)) = at
at_of (answer (Accepted at question)) = at
at_of (answer (Unknown at question)) = at
at_of (answer (Closed at question)) = at
at_of (answer (Implied at question verdict combination)) = at
at_of (values (Values at vector)) = at
at_of (values (Incomplete at place pair plus minus)) = at
at_of (withdraw (Withdrawn at last question)) = at
at_of (withdraw (Nothing at)) = at
at_of (withdraw (Spent at)) = at
at_of (look at) = at
