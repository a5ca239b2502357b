-- What a reply says: its certificates and its place in the journal left out.
use Rattle.std.specs.Prelude.{ℕ}
use Rattle.criteria_model.specs.declared.pairs.Pair.{Pair}
use Rattle.criteria_model.specs.declared.pairs.Side.{Side}
use Rattle.survey_replies.specs.declared.replies.NextReply.TheVariants.{Question, Full, Waiting, Complete}
use Rattle.survey_replies.specs.declared.replies.AnswerReply.TheVariants.{Accepted, Unknown, Closed, Implied}
use Rattle.survey_replies.specs.declared.replies.ValuesReply.TheVariants.{Values, Incomplete}
use Rattle.survey_replies.specs.declared.replies.WithdrawReply.TheVariants.{Withdrawn, Nothing, Spent}
use Rattle.survey_replies.specs.Outcomes.{Outcome}
use Rattle.survey_replies.specs.Outcomes as outcome

pub data Gist : Type 0 where
  full : Gist
  asks : ℕ → ℕ → Pair → Gist
  waiting : ℕ → Gist
  complete : Gist
  accepted : ℕ → Gist
  unknown : ℕ → Gist
  closed : ℕ → Gist
  implied : ℕ → Side → Gist
  values : Gist
  incomplete : ℕ → Pair → Gist
  withdrawn : ℕ → ℕ → Gist
  nothing : Gist
  spent : Gist
  looked : Gist

abbrev pub gist_of : Outcome → Gist
gist_of (outcome.next (Full at)) = full
gist_of (outcome.next (Question at number place pair)) = asks number place pair
gist_of (outcome.next (Waiting at place plus minus)) = waiting place
gist_of (outcome.next (Complete at)) = complete
gist_of (outcome.answer (Accepted at question)) = accepted question
gist_of (outcome.answer (Unknown at question)) = unknown question
gist_of (outcome.answer (Closed at question)) = closed question
gist_of (outcome.answer (Implied at question verdict combination)) = implied question verdict
gist_of (outcome.values (Values at vector)) = values
gist_of (outcome.values (Incomplete at place pair plus minus)) = incomplete place pair
gist_of (outcome.withdraw (Withdrawn at answer question)) = withdrawn answer question
gist_of (outcome.withdraw (Nothing at)) = nothing
gist_of (outcome.withdraw (Spent at)) = spent
gist_of (outcome.look at) = looked
