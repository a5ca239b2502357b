-- What a sample respondent does at a desk of a survey, where others may ask and answer too.
use Rattle.std.specs.Prelude.{◌≡◌, ℕ, ◌+◌, ◌≤◌, List, [], ◌∷◌, ◌++◌, length, ℤ}
use Rattle.criteria_model.specs.Answers.{Ranks}
use Rattle.pair_enumeration.specs.Listed.{Listed}
use Rattle.survey_core.specs.Histories.{issued}
use Rattle.survey_replies.specs.Requests as request
use Rattle.survey_replies.specs.Outcomes.{Exchange}
use Rattle.survey_replies.specs.Gists.{Gist, gist_of}
use Rattle.survey_replies.specs.Gists as gist
use Rattle.survey_replies.specs.Calls.{Seen, Conversation}
use Rattle.sample_survey.specs.declared.summary.Summary.{Summary}
use Rattle.sample_survey.specs.declared.samples.Step.{Step}
use Rattle.sample_survey.specs.declared.samples.Step.TheVariants.{Answered, NotAccepted, NoQuestion}
use Rattle.sample_survey.specs.Samples.{AnsweredQuestion, AnswersQuestions, AreByValues, summary_of, values_of}

-- the reply is no question
abbrev pub IsNoQuestion : Gist → Type 0
IsNoQuestion (gist.asks number place pair) = ⊥
IsNoQuestion _ = Unit {0}

-- the reply doesn't say that an answer was accepted
abbrev pub IsNotAccepted : Gist → Type 0
IsNotAccepted (gist.accepted number) = ⊥
IsNotAccepted _ = Unit {0}

-- a question came, and its answer by the values wasn't accepted
pub record IsNotTaken (levels : List ℕ) (values : List ℤ) (asks answers : Exchange) : Type 0 where
  pub one : AnsweredQuestion
  pub next : asks.request ≡ request.next
  pub question : gist_of asks.reply ≡ gist.asks one.number one.place one.pair
  pub by_values : Ranks levels values one.pair one.side
  pub answer : answers.request ≡ request.answer one.number one.side
  pub refused : IsNotAccepted (gist_of answers.reply)

-- the exchanges after which a sample respondent stops, with the number of questions that came in them: a reply to `next` that is
-- no question, or a question whose answer isn't accepted
abbrev pub Stops : List ℕ → List ℤ → ℕ → List Exchange → Type 0
Stops levels values asked (last ∷ []) = (asked ≡ 0) × (last.request ≡ request.next) × IsNoQuestion (gist_of last.reply)
Stops levels values asked (asks ∷ answers ∷ []) = (asked ≡ 1) × IsNotTaken levels values asks answers
Stops levels values asked _ = ⊥

-- a conversation in which each question is answered by the hidden values of the seed, up to the first reply that is neither a
-- question nor says that an answer was accepted; the summary counts what came
pub record IsSampling (listed : Listed) (desk seed : ℕ) (before after : Seen) (summary : Summary) : Type 0 where
  pub questions : List AnsweredQuestion
  pub exchanges : List Exchange
  pub last : List Exchange
  pub asked : ℕ
  pub held : Conversation listed desk before after (exchanges ++ last)
  pub answered : AnswersQuestions questions exchanges
  pub by_values : AreByValues listed.criteria.levels (values_of listed seed) questions
  pub stops : Stops listed.criteria.levels (values_of listed seed) asked last
  pub counted : summary ≡ summary_of (length listed.classes) (length questions + asked) questions

-- a conversation in which these questions came and were answered by the values; each was issued in it
pub record HasAnswered (listed : Listed) (desk : ℕ) (values : List ℤ) (before after : Seen) (questions : List AnsweredQuestion) : Type 0 where
  pub exchanges : List Exchange
  pub held : Conversation listed desk before after exchanges
  pub answered : AnswersQuestions questions exchanges
  pub by_values : AreByValues listed.criteria.levels values questions
  pub issues : length (issued before.journal) + length questions ≤ length (issued after.journal)

-- what comes of asking once: an answered question, or the stop
abbrev pub IsSampleStep : Listed → ℕ → List ℤ → Seen → Seen → Step → Type 0
IsSampleStep listed desk values before after (Answered place side) =
    (one : AnsweredQuestion) × (one.place ≡ place) × (one.side ≡ side) × HasAnswered listed desk values before after (one ∷ [])
IsSampleStep listed desk values before after NotAccepted =
    (last : List Exchange) × Conversation listed desk before after last × Stops listed.criteria.levels values 1 last
IsSampleStep listed desk values before after NoQuestion =
    (last : List Exchange) × Conversation listed desk before after last × Stops listed.criteria.levels values 0 last
