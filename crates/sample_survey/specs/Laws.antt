-- What is true of sample surveys.
use Rattle.std.specs.Prelude.{◌≡◌, ℕ}
use Rattle.criteria_model.specs.Criteria.{Criteria}
use Rattle.pair_enumeration.specs.Listed.{Listed, IsListed}
use Rattle.survey_core.specs.Legal.{IsLegal}
use Rattle.survey_replies.specs.Calls.{Seen, unseen}
use Rattle.survey_replies.specs.PlainLaws.{IsAlone}
use Rattle.sample_survey.specs.declared.summary.Summary.{Summary}
use Rattle.sample_survey.specs.Samples.{IsSample, IsSampleOf}
use Rattle.sample_survey.specs.Sampling.{IsSampling}

-- a model and a seed have one sample at most
abbrev pub OneSample : Type 0
OneSample =
    (criteria : Criteria) (seed : ℕ) (one other : Summary) → IsSampleOf criteria seed one → IsSampleOf criteria seed other → one ≡ other

-- a sample respondent that is alone on a legal journal, eliminations apart, comes to the sample
abbrev pub AloneIsSample : Type 0
AloneIsSample =
    (listed : Listed) (desk seed : ℕ) (after : Seen) (summary : Summary) → IsListed listed → IsLegal listed after.journal
    → IsSampling listed desk seed unseen after summary → IsAlone after → IsSample listed seed summary
