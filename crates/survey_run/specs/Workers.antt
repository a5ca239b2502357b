-- What an eliminator does at the surveys.
use Rattle.std.specs.Prelude.{◌≡◌, ℕ, ◌+◌, ◌≤◌, List, [], All, vec_capacity}
use Rattle.std.specs.List.{AllZip}
use Rattle.std.specs.Global.{Vec}
use Rattle.criteria_model.specs.Criteria.{Criteria}
use Rattle.decider.specs.Reserved.{IsReserved}
use Rattle.eliminators.specs.Jobs.{IsWorker}
use Rattle.survey_replies.specs.Calls.{unseen, HasEliminateOf}
use Rattle.shared_survey.specs.declared.survey.Survey.{Survey}
use Rattle.shared_survey.specs.declared.pass.Pass.{Pass}
use Rattle.shared_survey.specs.declared.bench.SurveyBench.{SurveyBench}
use Rattle.shared_survey.specs.Benches.{bench_about, bench_seen}
use Rattle.shared_survey.specs.Passes.{IsPassOf, pass_seen, pass_weight}
use Rattle.survey_run.specs.declared.workers.WorkerJob.{WorkerJob}
use Rattle.survey_run.specs.Each.{StackFrom}

-- a pass of the survey that has seen nothing
pub record IsFreshPass (survey : Survey) (pass : Pass) : Type 0 where
  pub of : IsPassOf survey pass
  pub weight : pass_weight pass ≡ 1
  pub seen : pass_seen pass ≡ unseen

-- a pass by which the eliminator has made Eliminates of its number alone
pub record HasWorked (worker : ℕ) (survey : Survey) (pass : Pass) : Type 0 where
  pub of : IsPassOf survey pass
  pub weight : pass_weight pass ≡ 1
  pub made : All (HasEliminateOf worker (pass_seen pass).journal) (pass_seen pass).own

-- its passes of all surveys, the first on top
abbrev pub IsStack : ℕ → List Survey → Vec Pass → Type 0
IsStack worker surveys passes = StackFrom (λ n. HasWorked worker) 0 surveys passes.items

-- the job of an eliminator that has passes of these surveys so far, of `count` in all
pub record IsWorkFor (criteria : Criteria) (count : ℕ) (surveys : List Survey) (worker : ℕ) (job : WorkerJob) : Type 0 where
  pub number : job.number ≡ worker
  pub is_worker : IsWorker worker
  pub passes : AllZip IsFreshPass surveys job.passes.items
  pub room : count ≤ vec_capacity job.passes
  pub back : (job.back.items ≡ []) × (count ≤ vec_capacity job.back)
  pub tools : IsReserved criteria job.tools
  pub jobs : job.jobs.surveys ≡ count

-- that of the eliminator with this number, counted from 0
abbrev pub WorkAt : Criteria → ℕ → List Survey → ℕ → WorkerJob → Type 0
WorkAt criteria count surveys n job = IsWorkFor criteria count surveys (n + 1) job

module _ {R : Type 0} where
  -- a bench of the survey by a pass that has seen nothing
  pub record HoldsFresh (worker : ℕ) (survey : Survey) (bench : SurveyBench R) : Type 0 where
    pub about : bench_about bench ≡ record { survey = survey; worker = worker; weight = 1; had = [] }
    pub seen : bench_seen bench ≡ unseen

  -- a bench at which the eliminator has made Eliminates of its number alone
  pub record HasWorkedAt (worker : ℕ) (survey : Survey) (bench : SurveyBench R) : Type 0 where
    pub about : bench_about bench ≡ record { survey = survey; worker = worker; weight = 1; had = [] }
    pub made : All (HasEliminateOf worker (bench_seen bench).journal) (bench_seen bench).own
