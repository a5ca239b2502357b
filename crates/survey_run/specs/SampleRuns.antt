-- What a sample beside eliminators is begun with.
use Rattle.std.specs.Prelude.{◌≡◌, ℕ, ◌+◌, ◌≤◌, [], ◌∷◌, vec_len, vec_capacity}
use Rattle.criteria_model.specs.Criteria.{Criteria}
use Rattle.pair_enumeration.specs.Listed.{Listed, IsListed}
use Rattle.survey_core.specs.Legal.{IsDesk}
use Rattle.survey_replies.specs.Calls.{Seen, unseen}
use Rattle.survey_replies.specs.PlainLaws.{IsAlone}
use Rattle.sample_survey.specs.declared.summary.Summary.{Summary}
use Rattle.sample_survey.specs.Samples.{IsSample}
use Rattle.shared_survey.specs.declared.survey.Survey.{Survey}
use Rattle.shared_survey.specs.Passes.{IsPassOf, desk_of, pass_seen, pass_weight, survey_listed, survey_weight}
use Rattle.survey_run.specs.declared.sample_run.SampleReady.{SampleReady}
use Rattle.survey_run.specs.Each.{EachFrom}
use Rattle.survey_run.specs.Workers.{WorkAt}

-- where the desk is alone on what it has seen, eliminations apart, what was counted is the sample
pub record SamplesAlone (listed : Listed) (seed : ℕ) (seen : Seen) (summary : Summary) : Type 0 where
  pub alone : IsAlone seen → IsSample listed seed summary

-- one survey of the model, with a pass for its desk, one for each of `workers` eliminators, and one that the others are joined into
pub record IsSampleReady (criteria : Criteria) (workers : ℕ) (ready : SampleReady) : Type 0 where
  pub survey : Survey
  pub one : ready.surveys.items ≡ survey ∷ []
  pub model : (survey_listed survey).criteria ≡ criteria
  pub listed : IsListed (survey_listed survey)
  pub weight : survey_weight survey ≡ 2 + vec_len ready.works.works
  pub whole : IsPassOf survey ready.whole × (pass_weight ready.whole ≡ 1) × (pass_seen ready.whole ≡ unseen)
  pub pass : IsPassOf survey ready.pass × (pass_weight ready.pass ≡ 1) × (pass_seen ready.pass ≡ unseen)
  pub desk : IsDesk (desk_of ready.pass)
  pub works : EachFrom (WorkAt criteria 1 (survey ∷ [])) 0 ready.works.works.items
  pub count : vec_len ready.works.works ≡ workers
  pub line : ready.works.line.surveys ≡ 1
  pub working : (ready.works.working.items ≡ []) × (vec_len ready.works.works ≤ vec_capacity ready.works.working)
  pub worked : (ready.works.worked.items ≡ []) × (vec_len ready.works.works ≤ vec_capacity ready.works.worked)
  pub flags : vec_len ready.flags ≡ vec_len ready.works.works
