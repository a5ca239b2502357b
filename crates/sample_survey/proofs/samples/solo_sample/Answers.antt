use Rattle.sample_survey.proofs.SamplingLemmas.{solo_is_alone}
use Rattle.sample_survey.proofs.samples.solo_sample.Goals as goal

pub returns : goal.returns
returns c = record {
  listed = c.in_ok-solo.solo.listed;
  model = c.in_ok-solo.ensures.model;
  list = c.in_ok-solo.ensures.listed;
  sample = c.sample_by.ensures.alone (solo_is_alone c.sample_by.new.respondent.history);
}
