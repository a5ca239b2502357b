-- What replies rest on: the questions and answers of a survey. An elimination changes none of it.
use Rattle.std.specs.Prelude.{ℕ, List, Option, Some, None}
use Rattle.std.specs.List.{filter_map}
use Rattle.criteria_model.specs.declared.pairs.Answer.{Answer}
use Rattle.pair_enumeration.specs.Listed.{Listed}
use Rattle.survey_core.specs.declared.events.Event.{Event}
use Rattle.survey_core.specs.declared.events.Event.TheVariants.{Commit}
use Rattle.survey_core.specs.Histories.{standing, issued, committed, open_questions, withdrawals}

-- the question that a Commit answers
abbrev pub answered_question : Event → Option ℕ
answered_question (Commit desk question side plus minus point) = Some question
answered_question _ = None

-- the questions of the standing Commits, in order
abbrev pub answered : List Event → List ℕ
answered history = filter_map answered_question (standing history)

pub record Interview : Type 0 where
  -- the place of each question's class, by the question's number
  pub asked : List ℕ
  -- the standing answers, in order, and the question of each
  pub answers : List Answer
  pub answered : List ℕ
  -- the numbers of the open questions
  pub open_questions : List ℕ
  -- how often an answer was taken back
  pub withdrawals : ℕ

-- that of a history
abbrev pub interview : Listed → List Event → Interview
interview listed history = record {
  asked = issued history;
  answers = committed listed.classes history;
  answered = answered history;
  open_questions = open_questions history;
  withdrawals = withdrawals history;
}
