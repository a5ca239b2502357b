-- A survey of one desk without eliminations: what the desk's own questions and answers come to.
use Rattle.std.specs.Prelude.{ℕ, ◌+◌, ◌-◌, ◌==◌, nat_lt, Bool, not, ◌||◌, List, [], ◌∷◌, ◌++◌, length, map, take, filter, Option}
use Rattle.std.specs.Option.{option_map}
use Rattle.std.specs.List.{filter_map, list_any, range_with_len}
use Rattle.criteria_model.specs.declared.pairs.Pair.{Pair}
use Rattle.criteria_model.specs.declared.pairs.Answer.{Answer}
use Rattle.criteria_model.specs.declared.pairs.Side.{Side}
use Rattle.pair_enumeration.specs.Listed.{Listed}
use Rattle.survey_core.specs.Histories.{class_of}
use Rattle.survey_replies.specs.Requests.{Request}
use Rattle.survey_replies.specs.Requests as request
use Rattle.survey_replies.specs.Interview.{Interview}
use Rattle.survey_replies.specs.ReplyLaw.{IsReplyTo}
use Rattle.survey_replies.specs.Gists.{Gist, gist_of}
use Rattle.survey_replies.specs.Gists as gist
use Rattle.survey_replies.specs.Outcomes.{Exchange}

-- a side given to a question
pub record Given : Type 0 where
  pub question : ℕ
  pub side : Side

-- a question that was closed, and how many answers stood then
pub record Ended : Type 0 where
  pub question : ℕ
  pub answers : ℕ

pub record PlainSurvey : Type 0 where
  -- the place of each question's class
  pub asked : List ℕ
  -- the standing answers
  pub given : List Given
  -- the questions that are closed
  pub closed : List Ended
  -- how often an answer was taken back
  pub withdrawals : ℕ

abbrev pub plain_start : PlainSurvey
plain_start = record { asked = []; given = []; closed = []; withdrawals = 0 }

abbrev pub answer_given : List Pair → List ℕ → Given → Option Answer
answer_given classes asked given = option_map (λ pair. record { pair = pair; side = given.side }) (class_of classes asked given.question)

-- whether the question is neither answered nor closed
abbrev pub is_open_in : PlainSurvey → ℕ → Bool
is_open_in run question = not (list_any (λ given. given.question == question) run.given || list_any (λ ended. ended.question == question) run.closed)

-- what replies rest on
abbrev pub plain_interview : Listed → PlainSurvey → Interview
plain_interview listed run = record {
  asked = run.asked;
  answers = filter_map (answer_given listed.classes run.asked) run.given;
  answered = map (λ given. given.question) run.given;
  open_questions = filter (is_open_in run) (range_with_len 1 (length run.asked));
  withdrawals = run.withdrawals;
}

-- after a request and its reply
abbrev pub plain_after : PlainSurvey → Request → Gist → PlainSurvey
plain_after run request.next (gist.asks number place pair) = record run { asked = run.asked ++ place ∷ [] }
plain_after run (request.answer question side) (gist.accepted replied) = record run { given = run.given ++ record { question = question; side = side } ∷ [] }
plain_after run (request.answer question side) (gist.implied replied verdict) =
    record run { closed = run.closed ++ record { question = question; answers = length run.given } ∷ [] }
-- the last answer goes, and with it what was closed after it was given
plain_after run request.withdraw (gist.withdrawn answer question) =
    record run {
      given = take (length run.given - 1) run.given;
      closed = filter (λ ended. nat_lt ended.answers (length run.given)) run.closed;
      withdrawals = run.withdrawals + 1;
    }
plain_after run _ _ = run

-- each reply is the one by the questions and answers before it
abbrev pub IsPlainRun : Listed → PlainSurvey → List Exchange → Type 0
IsPlainRun listed run [] = Unit {0}
IsPlainRun listed run (exchange ∷ exchanges) =
    IsReplyTo listed (plain_interview listed run) exchange.request exchange.reply
    × IsPlainRun listed (plain_after run exchange.request (gist_of exchange.reply)) exchanges
