-- What a line of a session asks of the survey, and what is replied to it.
use Rattle.std.specs.Prelude.{◌≡◌, ℕ, Option, Some}
use Rattle.pair_enumeration.specs.Listed.{Listed}
use Rattle.json_forms.specs.declared.messages.Message.{Message}
use Rattle.json_forms.specs.declared.messages.Message.TheVariants as message
use Rattle.json_forms.specs.declared.replies.Reply.{Reply}
use Rattle.json_forms.specs.declared.replies.Reply.TheVariants as reply
use Rattle.json_forms.specs.declared.replies.Word.TheVariants as word
use Rattle.survey_replies.specs.Requests.{Request}
use Rattle.survey_replies.specs.Requests as request
use Rattle.survey_replies.specs.Outcomes.{Outcome}
use Rattle.survey_replies.specs.Outcomes as outcome
use Rattle.survey_replies.specs.Calls.{Seen, IsCall}

-- what is asked by the message that a line is, if it is one; a second hello asks as little as a line that is none
abbrev pub asked_by : Option Message → Request
asked_by (Some message.Next) = request.next
asked_by (Some (message.Answer question side)) = request.answer question side
asked_by (Some message.Values) = request.values
asked_by (Some message.Withdraw) = request.withdraw
asked_by _ = request.look

-- what is replied where the survey was only looked at, when it had this number of events
abbrev pub reply_of_look : Option Message → ℕ → Reply
reply_of_look (Some message.Result) at = reply.Result at
reply_of_look (Some message.Bye) at = reply.Bye
reply_of_look _ at = reply.Refused word.Message

-- what is replied to the message by what came of its request
abbrev pub reply_by : Option Message → Outcome → Reply
reply_by message (outcome.next came) = reply.Next came
reply_by message (outcome.answer came) = reply.Answer came
reply_by message (outcome.values came) = reply.Values came
reply_by message (outcome.withdraw came) = reply.Withdraw came
reply_by message (outcome.look at) = reply_of_look message at

-- one exchange with the respondent: the call that the message asks for, and the reply by what came of it
pub record IsAnswered (listed : Listed) (desk : ℕ) (before after : Seen) (message : Option Message) (reply : Reply) : Type 0 where
  pub came : Outcome
  pub call : IsCall listed desk before after (asked_by message) came
  pub replied : reply ≡ reply_by message came
