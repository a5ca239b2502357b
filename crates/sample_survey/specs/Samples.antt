-- What a sample survey comes to: questions that are answered by hidden values, one after the other, up to Complete.
use Rattle.std.specs.Prelude.{◌≡◌, ℕ, ◌+◌, ◌-◌, ◌*◌, ◌%◌, ◌==◌, List, [], ◌∷◌, ◌++◌, length, map, fold, count_by, All, ℤ}
use Rattle.std.specs.List.{flat_map}
use Rattle.criteria_model.specs.declared.pairs.Pair.{Pair}
use Rattle.criteria_model.specs.declared.pairs.Side.{Side}
use Rattle.criteria_model.specs.declared.pairs.Side.TheVariants.{Left, Right, Equal}
use Rattle.criteria_model.specs.Criteria.{Criteria}
use Rattle.criteria_model.specs.Worth.{increments}
use Rattle.criteria_model.specs.Answers.{Ranks}
use Rattle.pair_enumeration.specs.Listed.{Listed, IsListed}
use Rattle.survey_replies.specs.Requests.{Request}
use Rattle.survey_replies.specs.Requests as request
use Rattle.survey_replies.specs.Outcomes.{Exchange}
use Rattle.survey_replies.specs.Gists.{Gist, gist_of}
use Rattle.survey_replies.specs.Gists as gist
use Rattle.survey_replies.specs.PlainRun.{plain_start, IsPlainRun}
use Rattle.sample_values.specs.Draws.{hidden_vector}
use Rattle.sample_survey.specs.declared.summary.TheConstants.{TRACE_FACTOR, PLACE_FACTOR, TRACE_MODULUS}
use Rattle.sample_survey.specs.declared.summary.Summary.{Summary}

-- a question, and the side by which it was answered
pub record AnsweredQuestion : Type 0 where
  pub number : ℕ
  pub place : ℕ
  pub pair : Pair
  pub side : Side

-- what is asked: for the question, and that its answer is taken
abbrev pub requests_for : AnsweredQuestion → List Request
requests_for one = request.next ∷ request.answer one.number one.side ∷ []

-- what is replied: the question, and that its answer was taken
abbrev pub replies_for : AnsweredQuestion → List Gist
replies_for one = gist.asks one.number one.place one.pair ∷ gist.accepted one.number ∷ []

-- exchanges by which these questions were asked and answered, one after the other
pub record AnswersQuestions (questions : List AnsweredQuestion) (exchanges : List Exchange) : Type 0 where
  pub requests : map (λ exchange. exchange.request) exchanges ≡ flat_map requests_for questions
  pub replies : map (λ exchange. gist_of exchange.reply) exchanges ≡ flat_map replies_for questions

-- each is answered as the values rank its class
abbrev pub AreByValues : List ℕ → List ℤ → List AnsweredQuestion → Type 0
AreByValues levels values questions = All (λ one. Ranks levels values one.pair one.side) questions

-- a wish for a question that is replied by Complete
abbrev pub IsCompletion : Exchange → Type 0
IsCompletion exchange = (exchange.request ≡ request.next) × (gist_of exchange.reply ≡ gist.complete)

-- the questions of a plain run in which each is answered by the values, up to Complete
pub record IsSampleRun (listed : Listed) (values : List ℤ) (questions : List AnsweredQuestion) : Type 0 where
  pub exchanges : List Exchange
  pub last : Exchange
  pub plain : IsPlainRun listed plain_start (exchanges ++ last ∷ [])
  pub answered : AnswersQuestions questions exchanges
  pub by_values : AreByValues listed.criteria.levels values questions
  pub complete : IsCompletion last

-- the number of a side in a trace
abbrev pub side_number : Side → ℕ
side_number Left = 0
side_number Right = 1
side_number Equal = 2

-- how many questions were answered by the side
abbrev pub answered_by : Side → List AnsweredQuestion → ℕ
answered_by side questions = count_by (λ one. side_number one.side == side_number side) questions

-- a trace after one more answer
abbrev pub trace_after : ℕ → AnsweredQuestion → ℕ
trace_after trace one = (TRACE_FACTOR * trace + PLACE_FACTOR * one.place + side_number one.side) % TRACE_MODULUS

-- what is counted of a survey with so many classes, in which so many questions were asked and these were answered
abbrev pub summary_of : ℕ → ℕ → List AnsweredQuestion → Summary
summary_of classes asked questions = record {
  classes = classes;
  questions = asked;
  left = answered_by Left questions;
  right = answered_by Right questions;
  equal = answered_by Equal questions;
  eliminated = classes - length questions;
  trace = fold trace_after 0 questions;
}

-- the hidden values of a seed
abbrev pub values_of : Listed → ℕ → List ℤ
values_of listed seed = hidden_vector seed (increments listed.criteria.levels)

-- the summary of the sample run of a seed
pub record IsSample (listed : Listed) (seed : ℕ) (summary : Summary) : Type 0 where
  pub questions : List AnsweredQuestion
  pub run : IsSampleRun listed (values_of listed seed) questions
  pub counted : summary ≡ summary_of (length listed.classes) (length questions) questions

-- the same, of the class list of a model
pub record IsSampleOf (criteria : Criteria) (seed : ℕ) (summary : Summary) : Type 0 where
  pub listed : Listed
  pub model : listed.criteria ≡ criteria
  pub list : IsListed listed
  pub sample : IsSample listed seed summary
