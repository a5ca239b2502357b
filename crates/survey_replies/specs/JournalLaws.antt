-- A journal as a whole: desks' conversations and eliminators that made it, each event once.
use Rattle.std.specs.Prelude.{◌≡◌, ◌≢◌, ◌⊎◌, ℕ, ◌<◌, ◌≤◌, List, ◌++◌, length, slice_get, Some, All, AllPairs, Any}
use Rattle.std.specs.List.{flat_map}
use mathlib.Core.List.{IsPrefix}
use Rattle.criteria_model.specs.declared.pairs.Side.{Side}
use Rattle.farkas_check.specs.declared.combination.Combination.{Combination}
use Rattle.pair_enumeration.specs.Listed.{Listed}
use Rattle.survey_core.specs.declared.events.Event.{Event}
use Rattle.survey_core.specs.declared.events.Event.TheVariants.{Eliminate}
use Rattle.survey_replies.specs.Outcomes.{Exchange}
use Rattle.survey_replies.specs.Calls.{Seen, unseen, HasEliminateOf, Conversation, reply_places, occurrences}
use Rattle.survey_replies.specs.CallLaws.{IsNoEliminate}

-- what all sessions of a desk brought back, one after the other
pub record DeskRun : Type 0 where
  pub desk : ℕ
  pub exchanges : List Exchange
  pub seen : Seen

-- what an eliminator brought back
pub record WorkerRun : Type 0 where
  pub worker : ℕ
  pub own : List ℕ

-- one conversation of each desk, and eliminators, whose own places are once each place of the journal
pub record MakesJournal (listed : Listed) (journal : List Event) (desks : List DeskRun) (workers : List WorkerRun) : Type 0 where
  pub conversations : All (λ run. Conversation listed run.desk unseen run.seen run.exchanges × IsPrefix run.seen.journal journal) desks
  pub eliminations : All (λ run. All (HasEliminateOf run.worker journal) run.own) workers
  pub distinct : AllPairs (λ one other. one.desk ≢ other.desk) desks
  pub numbered : All (λ run. 1 ≤ run.worker) workers
  pub once : (place : ℕ) → place < length journal
      → occurrences place (flat_map (λ run. run.seen.own) desks ++ flat_map (λ run. run.own) workers) ≡ 1

-- each event that is no Eliminate stands in the last turn of exactly one reply
abbrev pub EachHasOneReply : Type 0
EachHasOneReply =
    (listed : Listed) (journal : List Event) (desks : List DeskRun) (workers : List WorkerRun) (place : ℕ) (event : Event)
    → MakesJournal listed journal desks workers → slice_get journal place ≡ Some event → IsNoEliminate event
    → occurrences place (flat_map (λ run. reply_places journal run.exchanges) desks) ≡ 1

-- each Eliminate is by a session or by one of the eliminators
abbrev pub EachEliminateHasItsWorker : Type 0
EachEliminateHasItsWorker =
    (listed : Listed) (journal : List Event) (desks : List DeskRun) (workers : List WorkerRun) (place : ℕ)
    (worker class : ℕ) (verdict : Side) (combination : Combination)
    → MakesJournal listed journal desks workers → slice_get journal place ≡ Some (Eliminate worker class verdict combination)
    → (worker ≡ 0) ⊎ Any (λ run. run.worker ≡ worker) workers
