-- The reply law: which reply a request has, by the questions and answers of the survey.
use Rattle.std.specs.Prelude.{◌≡◌, ℕ, ◌+◌, ◌<◌, ◌≤◌, ◌==◌, IsFalse, [], length, Contains, Some, IsSomeAnd}
use Rattle.std.specs.List.{list_any}
use Rattle.criteria_model.specs.Answers.{IsRanked, IsOpen}
use Rattle.pair_enumeration.specs.Listed.{Listed}
use Rattle.survey_core.specs.declared.limits.TheConstants.{MAX_OPEN_QUESTIONS}
use Rattle.survey_core.specs.Histories.{item_at, class_at, class_of}
use Rattle.survey_core.specs.Legal.{IsSpent}
use Rattle.survey_replies.specs.declared.replies.NextReply.{NextReply}
use Rattle.survey_replies.specs.declared.replies.NextReply.TheVariants.{Question, Full, Waiting, Complete}
use Rattle.survey_replies.specs.declared.replies.AnswerReply.{AnswerReply}
use Rattle.survey_replies.specs.declared.replies.AnswerReply.TheVariants.{Accepted, Unknown, Closed, Implied}
use Rattle.survey_replies.specs.declared.replies.ValuesReply.{ValuesReply}
use Rattle.survey_replies.specs.declared.replies.ValuesReply.TheVariants.{Values, Incomplete}
use Rattle.survey_replies.specs.declared.replies.WithdrawReply.{WithdrawReply}
use Rattle.survey_replies.specs.declared.replies.WithdrawReply.TheVariants.{Withdrawn, Nothing, Spent}
use Rattle.survey_replies.specs.Requests.{Request}
use Rattle.survey_replies.specs.Requests as request
use Rattle.survey_replies.specs.Outcomes.{Outcome}
use Rattle.survey_replies.specs.Outcomes as outcome
use Rattle.survey_replies.specs.Interview.{Interview}

-- the least number of a kind
pub record IsFirst (Is : ℕ → Type 0) (n : ℕ) : Type 0 where
  pub is : Is n
  pub first : (earlier : ℕ) → earlier < n → ¬ Is earlier

module _ (listed : Listed) (now : Interview) where
  -- the answers leave the class at the place open
  abbrev pub IsOpenClass : ℕ → Type 0
  IsOpenClass place = IsSomeAnd (class_at listed.classes place) (λ pair. IsOpen listed.criteria.levels now.answers pair)

  -- some class is open
  abbrev pub HasOpenClass : Type 0
  HasOpenClass = (place : ℕ) × IsOpenClass place

  -- the place of the first open class
  abbrev pub IsFirstOpenClass : ℕ → Type 0
  IsFirstOpenClass place = IsFirst IsOpenClass place

  -- the class is open and was never asked
  abbrev pub IsUnaskedOpenClass : ℕ → Type 0
  IsUnaskedOpenClass place = IsOpenClass place × IsFalse (list_any (λ other. other == place) now.asked)

  -- the place of the class that is to be asked next
  abbrev pub IsDue : ℕ → Type 0
  IsDue place = IsFirst IsUnaskedOpenClass place

  -- four or more questions are open
  abbrev pub IsFull : Type 0
  IsFull = MAX_OPEN_QUESTIONS ≤ length now.open_questions

  -- the reply to `next`, by the first case that holds: Full while a class is open, the due class, Waiting while a class is open,
  -- Complete
  abbrev pub IsNextReply : NextReply → Type 0
  IsNextReply (Full at) = IsFull × HasOpenClass
  IsNextReply (Question at number place pair) =
      (¬ IsFull) × IsDue place × (number ≡ length now.asked + 1) × (class_at listed.classes place ≡ Some pair)
  IsNextReply (Waiting at place plus minus) = (¬ IsFull) × ((other : ℕ) → ¬ IsUnaskedOpenClass other) × IsFirstOpenClass place
  IsNextReply (Complete at) = ¬ HasOpenClass

  -- the number is that of a question
  abbrev pub IsQuestion : ℕ → Type 0
  IsQuestion question = (1 ≤ question) × (question ≤ length now.asked)

  -- the question is open
  abbrev pub IsOpenNow : ℕ → Type 0
  IsOpenNow question = IsQuestion question × Contains now.open_questions question

  -- the reply to `answer`: no such question, a question that isn't open, a class that the answers rank, else the answer is taken
  abbrev pub IsAnswerReply : ℕ → AnswerReply → Type 0
  IsAnswerReply question (Unknown at replied) = (replied ≡ question) × (¬ IsQuestion question)
  IsAnswerReply question (Closed at replied) = (replied ≡ question) × IsQuestion question × (¬ Contains now.open_questions question)
  IsAnswerReply question (Implied at replied verdict combination) =
      (replied ≡ question) × IsOpenNow question
      × IsSomeAnd (class_of listed.classes now.asked question) (λ pair. IsRanked listed.criteria.levels now.answers pair verdict)
  IsAnswerReply question (Accepted at replied) =
      (replied ≡ question) × IsOpenNow question
      × IsSomeAnd (class_of listed.classes now.asked question) (λ pair. IsOpen listed.criteria.levels now.answers pair)

  -- the reply to `values`: the first open class, or values where none is open
  abbrev pub IsValuesReply : ValuesReply → Type 0
  IsValuesReply (Incomplete at place pair plus minus) = IsFirstOpenClass place × (class_at listed.classes place ≡ Some pair)
  IsValuesReply (Values at vector) = ¬ HasOpenClass

  -- no further withdrawal is allowed
  abbrev pub AreSpent : Type 0
  AreSpent = IsSpent (length listed.classes) now.withdrawals

  -- the reply to `withdraw`: no answer, no further withdrawal, or the number of the last answer with its question
  abbrev pub IsWithdrawReply : WithdrawReply → Type 0
  IsWithdrawReply (Nothing at) = now.answers ≡ []
  IsWithdrawReply (Spent at) = (1 ≤ length now.answers) × AreSpent
  IsWithdrawReply (Withdrawn at answer question) =
      (1 ≤ length now.answers) × (¬ AreSpent) × (answer ≡ length now.answers)
      × (item_at now.answered (length now.answered) ≡ Some question)

  -- the reply to a request
  abbrev pub IsReplyTo : Request → Outcome → Type 0
  IsReplyTo request.next (outcome.next reply) = IsNextReply reply
  IsReplyTo (request.answer question side) (outcome.answer reply) = IsAnswerReply question reply
  IsReplyTo request.values (outcome.values reply) = IsValuesReply reply
  IsReplyTo request.withdraw (outcome.withdraw reply) = IsWithdrawReply reply
  IsReplyTo request.look (outcome.look at) = Unit {0}
  IsReplyTo _ _ = ⊥
