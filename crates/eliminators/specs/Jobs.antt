-- Jobs of eliminators, and how often they are taken and handed in.
use Rattle.std.specs.Prelude.{◌≡◌, ℕ, ◌+◌, ◌-◌, ◌^◌, ◌≤◌, List, length, max, min, All, Some}
use Rattle.criteria_model.specs.Counts.{class_count}
use Rattle.criteria_model.specs.Pairs.{IsFit}
use Rattle.decider.specs.declared.tools.Snapshot.{Snapshot}
use Rattle.pair_enumeration.specs.Listed.{Listed}
use Rattle.survey_core.specs.declared.events.Event.{Event}
use Rattle.survey_core.specs.declared.limits.TheConstants.{MAX_WORKERS}
use Rattle.survey_core.specs.Histories.{class_at}
use Rattle.survey_core.specs.Legal.{IsPlace, IsUnranked}
use Rattle.survey_state.specs.States.{version_of, IsSnapshotOf}
use Rattle.eliminators.specs.declared.job.Job.{Job}

-- the number of an eliminator
abbrev pub IsWorker : ℕ → Type 0
IsWorker worker = (1 ≤ worker) × (worker ≤ MAX_WORKERS)

-- a job by this journal: a class that no event ranks, its pair, and the number of changes of the answers
pub record IsJob (listed : Listed) (journal : List Event) (job : Job) : Type 0 where
  pub place : IsPlace listed job.place
  pub class : class_at listed.classes job.place ≡ Some job.pair
  pub fits : IsFit listed.criteria.levels job.pair
  pub unranked : IsUnranked journal job.place
  pub version : job.version ≡ version_of journal

-- a snapshot of the journal, by which each class may be decided
pub record IsReadySnapshot (listed : Listed) (journal : List Event) (snapshot : Snapshot) : Type 0 where
  pub copy : IsSnapshotOf listed journal snapshot
  pub few : length snapshot.answers.answers ≤ class_count listed.criteria.levels listed.criteria.degree
  pub answers_fit : All (λ answer. IsFit listed.criteria.levels answer.pair) snapshot.answers.answers

-- how many jobs were taken and handed in, and how often none was left to take
pub record JobCounts : Type 0 where
  pub taken : ℕ
  pub handed_in : ℕ
  pub none_left : ℕ

-- a count that has risen by so much; it stands still at its last value
abbrev pub raised : ℕ → ℕ → ℕ
raised count more = max count (min (count + more) (2 ^ 32 - 1))

-- after a job was taken
abbrev pub with_taken : JobCounts → JobCounts
with_taken counts = record counts { taken = raised counts.taken 1 }

-- after a job was handed in
abbrev pub with_handed_in : JobCounts → JobCounts
with_handed_in counts = record counts { handed_in = raised counts.handed_in 1 }

-- after none was left
abbrev pub with_none_left : JobCounts → JobCounts
with_none_left counts = record counts { none_left = raised counts.none_left 1 }
