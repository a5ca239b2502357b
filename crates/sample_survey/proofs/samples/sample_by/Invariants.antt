use Rattle.std.proofs.Common.{◌≡◌, List, length}
use Rattle.survey_core.specs.Legal.{IsLegal}
use Rattle.sample_survey.specs.Samples.{AnsweredQuestion, summary_of, values_of}
use Rattle.sample_survey.specs.Sampling.{HasAnswered}
use Rattle.sample_survey.proofs.samples.sample_by.Given as goal

-- So far each question came and its answer was accepted.
abbrev pub invariant-loop-asked : goal.invariant-loop-asked
invariant-loop-asked g l = record {
  questions : List AnsweredQuestion;
  has : HasAnswered (g.R.Events.listed (g.R.Events.about l.fn.respondent)) (g.R.Respondent.desk (g.R.Events.about l.fn.respondent))
      (values_of (g.R.Events.listed (g.R.Events.about l.fn.respondent)) l.seed) (g.R.Events.seen l.fn.respondent) (g.R.Events.seen l.respondent) questions;
  counted : l.summary ≡ summary_of (length (g.R.Events.listed (g.R.Events.about l.fn.respondent)).classes) (length questions) questions;
  count : length questions ≡ l._asked;
  legal : IsLegal (g.R.Events.listed (g.R.Events.about l.fn.respondent)) (g.R.Events.seen l.respondent).journal;
  same : g.R.Events.about l.respondent ≡ g.R.Events.about l.fn.respondent;
}
