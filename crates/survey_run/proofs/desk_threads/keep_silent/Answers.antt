use Rattle.std.proofs.Common.{sym, subst}
use Rattle.survey_replies.specs.Calls.{Seen, unseen}
use Rattle.shared_survey.specs.Passes.{survey_listed}
use Rattle.survey_run.specs.Desks.{SaysAll, lists_of}
use Rattle.survey_run.proofs.SayLemmas.{says_nothing}
use Rattle.survey_run.proofs.desk_threads.keep_silent.Goals as goal

pub returns : goal.returns
returns c = λ survey respondent desk sessions job. record {
  pass = job.pass;
  weight = job.weight;
  said = subst (λ (s : Seen). SaysAll (survey_listed survey) respondent desk unseen s sessions (lists_of c.args.job.rooms)) (sym job.seen)
      (says_nothing (survey_listed survey) respondent desk unseen sessions c.args.job.rooms (job.idle c.requires.idle) job.rooms);
}
