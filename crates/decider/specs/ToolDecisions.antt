-- Decisions with tools.
use Rattle.std.specs.Prelude.{◌≡◌, ◌≤◌, length, All}
use Rattle.criteria_model.specs.declared.pairs.Pair.{Pair}
use Rattle.criteria_model.specs.Criteria.{Criteria}
use Rattle.criteria_model.specs.Counts.{class_count}
use Rattle.criteria_model.specs.Pairs.{IsFit}
use Rattle.criteria_model.specs.Answers.{MeetsAll}
use Rattle.decider.specs.declared.decision.Decision.{Decision}
use Rattle.decider.specs.declared.tools.Tools.{Tools}
use Rattle.decider.specs.Decisions.{IsDecision, IsExact, HasFewWeights}
use Rattle.decider.specs.Reserved.{IsReserved}
use Rattle.decider.specs.Standing.{KeepsRoom}

-- tools with which each pair of the model may be decided: reserved for the model, with at most one answer a class, all on pairs of the model, and a point that meets them
pub record AreReady (criteria : Criteria) (tools : Tools) : Type 0 where
  pub reserved : IsReserved criteria tools
  pub few : length tools.snapshot.answers.answers ≤ class_count criteria.levels criteria.degree
  pub answers_fit : All (λ answer. IsFit criteria.levels answer.pair) tools.snapshot.answers.answers
  pub meets : MeetsAll criteria.levels tools.snapshot.answers.answers tools.snapshot.point

-- the decision is what the answers say of the pair; the snapshot and the dictionary's rooms are as before
pub record Decides (criteria : Criteria) (old new : Tools) (pair : Pair) (made : Decision) : Type 0 where
  pub decision : IsDecision criteria.levels old.snapshot.answers.answers pair made
  pub exact : IsExact criteria.levels old.snapshot.answers.answers pair made
  pub few : HasFewWeights made
  pub snapshot : new.snapshot ≡ old.snapshot
  pub room : KeepsRoom old.work new.work
