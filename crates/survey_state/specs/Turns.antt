-- What one turn of a call does.
use Rattle.std.specs.Prelude.{◌≡◌, ◌⊎◌, ℕ, ◌<◌, ◌≤◌, List, [], ◌∷◌, ◌++◌, length, Option}
use Rattle.criteria_model.specs.declared.pairs.Side.{Side}
use Rattle.decider.specs.declared.tools.Snapshot.{Snapshot}
use Rattle.farkas_check.specs.declared.combination.Combination.{Combination}
use Rattle.pair_enumeration.specs.Listed.{Listed}
use Rattle.survey_core.specs.declared.events.Event.{Event}
use Rattle.survey_core.specs.declared.events.Event.TheVariants.{Eliminate}
use Rattle.survey_core.specs.declared.limits.TheConstants.{MAX_EVENTS}
use Rattle.survey_core.specs.Histories.{issued}
use Rattle.survey_replies.specs.Requests.{Request}
use Rattle.survey_replies.specs.Outcomes.{Outcome}
use Rattle.survey_replies.specs.Calls.{Seen, IsEliminateFor, Prepares, TakesTurn, RepliesInTurn}
use Rattle.survey_state.specs.declared.findings.Found.{Found}
use Rattle.survey_state.specs.declared.calls.Sought.{Sought}
use Rattle.survey_state.specs.declared.calls.Sought.TheVariants.{Now, Class}
use Rattle.survey_state.specs.declared.calls.Step.{Step}
use Rattle.survey_state.specs.declared.calls.Step.TheVariants.{Reply, Look, Again}
use Rattle.survey_state.specs.States.{Surveyed}
use Rattle.survey_state.specs.Sought.{IsSought}
use Rattle.survey_state.specs.Findings.{IsLook, LooksAt, IsEarlier}

-- what a state makes of a request at once: its reply, with nothing appended, or the class on which the reply rests
abbrev pub Seeks : {R : Type 0} → (R → Outcome) → ℕ → Request → Surveyed → Sought R → Type 0
Seeks outcome_of desk asked state (Now reply) = RepliesInTurn state.listed desk state.journal state.journal asked (outcome_of reply)
Seeks outcome_of desk asked state (Class place) = IsSought state.listed state.journal asked place

-- the Eliminate of a session is appended, of a class that may be eliminated for the request
abbrev pub AppendsEliminate : Request → List Event → List Event → ℕ → Side → Combination → Type 0
AppendsEliminate asked found after place verdict combination =
    IsEliminateFor (issued found) asked (Eliminate 0 place verdict combination) × (after ≡ found ++ Eliminate 0 place verdict combination ∷ [])

-- a turn before the one that replies: nothing is appended, or one such Eliminate
abbrev pub IsBefore : Request → List Event → List Event → Type 0
IsBefore asked found after =
    (after ≡ found) ⊎ ((event : Event) × IsEliminateFor (issued found) asked event × (after ≡ found ++ event ∷ []))

-- a turn: it replies, or names a class to look at, or leaves it to the next turn
abbrev pub IsStep : {R : Type 0} → (R → Outcome) → ℕ → Request → Surveyed → Surveyed → Snapshot → Step R → Type 0
IsStep outcome_of desk asked old new snapshot (Reply reply) = RepliesInTurn old.listed desk old.journal new.journal asked (outcome_of reply)
IsStep outcome_of desk asked old new snapshot (Look look) = IsBefore asked old.journal new.journal × LooksAt old.listed new.journal asked snapshot look
IsStep outcome_of desk asked old new snapshot Again = IsBefore asked old.journal new.journal

-- after an elimination: what to look at, or nothing
abbrev pub SeeksOn : {R : Type 0} → Listed → List Event → Request → Step R → Type 0
SeeksOn listed journal asked (Reply reply) = ⊥
SeeksOn listed journal asked (Look look) = IsSought listed journal asked look.place × IsLook listed journal look
SeeksOn listed journal asked Again = length journal ≤ MAX_EVENTS

-- a turn without a reply has a longer journal at its end
abbrev pub Grows : {R : Type 0} → List Event → List Event → Step R → Type 0
Grows old new (Reply reply) = Unit {0}
Grows old new (Look look) = (length old ≤ MAX_EVENTS) × (length old < length new)
Grows old new Again = (length old ≤ MAX_EVENTS) × (length old < length new)

-- a turn without a reply comes of a longer journal, or of nothing found before
abbrev pub Advances : {R : Type 0} → Option Found → List Event → List Event → Step R → Type 0
Advances found old new (Reply reply) = Unit {0}
Advances found old new (Look look) = (length old ≤ MAX_EVENTS) × IsEarlier found new
Advances found old new Again = (length old ≤ MAX_EVENTS) × (length old < length new)

-- a turn that replies, on the journal that it found
pub record RepliesByTurn (listed : Listed) (desk : ℕ) (before after : Seen) (asked : Request) (reply : Outcome) : Type 0 where
  pub found : List Event
  pub turn : TakesTurn before after found
  pub replied : RepliesInTurn listed desk found after.journal asked reply

-- the same of the journal that was seen
abbrev pub IsTurn : {R : Type 0} → (R → Outcome) → Listed → ℕ → Request → Seen → Seen → Snapshot → Step R → Type 0
IsTurn outcome_of listed desk asked before after snapshot (Reply reply) = RepliesByTurn listed desk before after asked (outcome_of reply)
IsTurn outcome_of listed desk asked before after snapshot (Look look) = Prepares asked before after × LooksAt listed after.journal asked snapshot look
IsTurn outcome_of listed desk asked before after snapshot Again = Prepares asked before after
