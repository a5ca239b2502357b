-- What an eliminator does at a bench.
use Rattle.std.specs.Prelude.{◌≡◌, ℕ, ◌+◌, ◌-◌, ◌^◌, ◌<◌, Bool, true, false, List, [], ◌∷◌, length, count_by}
use mathlib.Core.List.{IsPrefix}
use Rattle.decider.specs.declared.decision.Decision.{Decision}
use Rattle.decider.specs.Decisions.{IsDecision}
use Rattle.pair_enumeration.specs.Listed.{Listed}
use Rattle.survey_core.specs.declared.events.Event.{Event}
use Rattle.survey_core.specs.Histories.{committed}
use Rattle.survey_replies.specs.Calls.{Seen, Watches}
use Rattle.eliminators.specs.declared.job.Job.{Job}
use Rattle.eliminators.specs.declared.job.HandIn.{HandIn}
use Rattle.eliminators.specs.declared.job.HandIn.TheVariants.{Recorded, Kept, Stale}
use Rattle.eliminators.specs.declared.work.Tally.{Tally}
use Rattle.eliminators.specs.Jobs.{IsJob, JobCounts, raised}
use Rattle.eliminators.specs.HandIns.{HandsIn}

-- one job: taken where this much of the journal was seen, decided by the answers there, and handed in
pub record DoesJob (listed : Listed) (worker : ℕ) (before after : Seen) (answer : HandIn) : Type 0 where
  pub read : List Event
  pub longer : IsPrefix before.journal read
  pub job : Job
  pub taken : IsJob listed read job
  pub decision : Decision
  pub decided : IsDecision listed.criteria.levels (committed listed.classes read) job.pair decision
  pub handed_in : HandsIn listed worker job decision (record { journal = read; own = before.own }) after answer

-- jobs one after another, with these answers; between them the journal seen may grow
abbrev pub Works : Listed → ℕ → Seen → Seen → List HandIn → Type 0
Works listed worker before after [] = Watches before after
Works listed worker before after (answer ∷ answers) =
    (middle : Seen) × DoesJob listed worker before middle answer × Works listed worker middle after answers

abbrev pub is_recorded : HandIn → Bool
is_recorded Recorded = true
is_recorded _ = false

abbrev pub is_kept : HandIn → Bool
is_kept Kept = true
is_kept _ = false

abbrev pub is_stale : HandIn → Bool
is_stale (Stale broken) = true
is_stale _ = false

-- how many of the answers were of each kind
pub record IsTallyOf (answers : List HandIn) (tally : Tally) : Type 0 where
  pub recorded : tally.recorded ≡ raised 0 (count_by is_recorded answers)
  pub kept : tally.kept ≡ raised 0 (count_by is_kept answers)
  pub stale : tally.stale ≡ raised 0 (count_by is_stale answers)

-- a tally, with one answer more
abbrev pub counted : Tally → HandIn → Tally
counted tally Recorded = record tally { recorded = raised tally.recorded 1 }
counted tally Kept = record tally { kept = raised tally.kept 1 }
counted tally (Stale broken) = record tally { stale = raised tally.stale 1 }

-- so many jobs were taken and handed in
abbrev pub with_jobs : JobCounts → ℕ → JobCounts
with_jobs counts jobs = record counts { taken = raised counts.taken jobs; handed_in = raised counts.handed_in jobs }

-- so many jobs were taken and handed in, and then none was left
abbrev pub with_all_jobs : JobCounts → ℕ → JobCounts
with_all_jobs counts jobs = record (with_jobs counts jobs) { none_left = raised counts.none_left 1 }

-- the work at a bench until no job is left: each job that was taken was handed in, and the tally counts the answers
pub record WorksUntilIdle (listed : Listed) (worker : ℕ) (before after : Seen) (was now : JobCounts) (tally : Tally) : Type 0 where
  pub answers : List HandIn
  pub works : Works listed worker before after answers
  pub counts : now ≡ with_all_jobs was (length answers)
  pub tallied : IsTallyOf answers tally

-- all answers of a tally
abbrev pub tally_total : Tally → ℕ
tally_total tally = tally.recorded + tally.kept + tally.stale

-- jobs taken and jobs handed in rose by the total of the tally, while neither number stands at its last value
abbrev pub AddsUp : JobCounts → JobCounts → Tally → Type 0
AddsUp was now tally =
    now.taken < 2 ^ 32 - 1 → now.handed_in < 2 ^ 32 - 1
    → (now.taken ≡ was.taken + tally_total tally) × (now.handed_in ≡ was.handed_in + tally_total tally)

-- what a run of work leaves of a bench, by the members of its type: it stands for the same, and each job was handed in
abbrev pub Stays : {B A : Type 0} → (B → A) → (A → Listed) → (A → ℕ) → (B → Seen) → B → B → Type 0
Stays about listed worker seen old new =
    (about new ≡ about old)
    × ((answers : List HandIn) × Works (listed (about old)) (worker (about old)) (seen old) (seen new) answers)
