use Rattle.sample_survey.proofs.SamplingLemmas.{alone_is_sample_lem}
use Rattle.sample_survey.proofs.laws.alone_is_sample.Goals as goal

pub returns : goal.returns
returns c = alone_is_sample_lem
