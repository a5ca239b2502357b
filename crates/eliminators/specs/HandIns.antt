-- What becomes of a job that is handed in.
use Rattle.std.specs.Prelude.{◌≡◌, ℕ, ℤ, List, [], ◌∷◌, ◌++◌, length}
use Rattle.decider.specs.declared.decision.Decision.{Decision}
use Rattle.decider.specs.declared.decision.Decision.TheVariants.{Undecided, Implied}
use Rattle.pair_enumeration.specs.Listed.{Listed}
use Rattle.survey_core.specs.declared.broken.Broken.TheVariants.{Vectors}
use Rattle.survey_core.specs.declared.events.Event.{Event}
use Rattle.survey_core.specs.declared.events.Event.TheVariants.{Eliminate}
use Rattle.survey_core.specs.Histories.{committed}
use Rattle.survey_core.specs.Legal.{OpensClass, MayFollow, FailsFirst}
use Rattle.survey_replies.specs.Calls.{Seen, TakesTurn}
use Rattle.survey_state.specs.States.{Surveyed, IsAppended, with_pool, with_kept}
use Rattle.eliminators.specs.declared.job.Job.{Job}
use Rattle.eliminators.specs.declared.job.HandIn.{HandIn}
use Rattle.eliminators.specs.declared.job.HandIn.TheVariants.{Recorded, Kept, Stale}

-- what a turn makes of a decision on the job's class, by the journal that it found: an implied ranking is recorded where its
-- Eliminate may follow, vectors are kept where they open the class there. Else the job is stale: the first part that the Eliminate
-- lacks, or the vectors. Nothing but the Eliminate is appended
abbrev pub IsHandedIn : Listed → ℕ → Job → Decision → List Event → List Event → HandIn → Type 0
IsHandedIn listed worker job (Implied verdict combination) found after Recorded =
    MayFollow listed found (Eliminate worker job.place verdict combination)
    × (after ≡ found ++ Eliminate worker job.place verdict combination ∷ [])
IsHandedIn listed worker job (Implied verdict combination) found after Kept = ⊥
IsHandedIn listed worker job (Implied verdict combination) found after (Stale broken) =
    FailsFirst listed found (Eliminate worker job.place verdict combination) broken × (after ≡ found)
IsHandedIn listed worker job (Undecided plus minus) found after Recorded = ⊥
IsHandedIn listed worker job (Undecided plus minus) found after Kept = OpensClass listed found job.place plus minus × (after ≡ found)
IsHandedIn listed worker job (Undecided plus minus) found after (Stale broken) =
    (¬ OpensClass listed found job.place plus minus) × (broken ≡ Vectors) × (after ≡ found)

-- the same in one turn of a bench, on the journal that the turn found
pub record HandsIn (listed : Listed) (worker : ℕ) (job : Job) (decision : Decision) (before after : Seen) (answer : HandIn) : Type 0 where
  pub found : List Event
  pub turn : TakesTurn before after found
  pub handed_in : IsHandedIn listed worker job decision found after.journal answer

-- what a turn does to its state where the ranking is implied: the Eliminate is appended, or it is stale and nothing changes
abbrev pub IsEliminated : Surveyed → Surveyed → Event → HandIn → Type 0
IsEliminated old new event Recorded = IsAppended old new event
IsEliminated old new event Kept = ⊥
IsEliminated old new event (Stale broken) = FailsFirst old.listed old.journal event broken × (new ≡ old)

-- the same where two vectors were found: they are kept with all answers, or don't open the class and nothing changes
abbrev pub IsKeptOpen : Surveyed → Surveyed → Job → List ℤ → List ℤ → HandIn → Type 0
IsKeptOpen old new job plus minus Recorded = ⊥
IsKeptOpen old new job plus minus Kept =
    OpensClass old.listed old.journal job.place plus minus
    × (new ≡ with_pool old (with_kept old.pool job.place (record { plus = plus; minus = minus; met = length (committed old.listed.classes old.journal) })))
IsKeptOpen old new job plus minus (Stale broken) = (¬ OpensClass old.listed old.journal job.place plus minus) × (broken ≡ Vectors) × (new ≡ old)

-- the same of either decision
abbrev pub ChangesState : ℕ → Job → Decision → Surveyed → Surveyed → HandIn → Type 0
ChangesState worker job (Implied verdict combination) old new answer = IsEliminated old new (Eliminate worker job.place verdict combination) answer
ChangesState worker job (Undecided plus minus) old new answer = IsKeptOpen old new job plus minus answer
