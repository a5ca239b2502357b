use Rattle.sample_survey.proofs.SamplingLemmas.{one_sample_lem}
use Rattle.sample_survey.proofs.laws.one_sample.Goals as goal

pub returns : goal.returns
returns c = one_sample_lem
