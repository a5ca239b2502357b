-- What is found out of a class beside the turns of a call, and what becomes of it as the journal grows.
use Rattle.std.specs.Prelude.{◌≡◌, ℕ, ◌<◌, ◌≤◌, List, [], ◌∷◌, ◌++◌, length, take, All, Option, Some, IfSome, IsSomeAnd, unsigned_abs, ℤ}
use Rattle.criteria_model.specs.declared.limits.TheConstants.{CERTIFICATE_BOUND}
use Rattle.criteria_model.specs.declared.pairs.Pair.{Pair}
use Rattle.criteria_model.specs.declared.pairs.Answer.{Answer}
use Rattle.criteria_model.specs.declared.pairs.Side.{Side}
use Rattle.criteria_model.specs.Counts.{class_count}
use Rattle.criteria_model.specs.Pairs.{IsFit}
use Rattle.criteria_model.specs.Answers.{MeetsAll, Opens}
use Rattle.answer_rows.specs.Room.{room_of}
use Rattle.farkas_check.specs.declared.combination.Combination.{Combination}
use Rattle.farkas_check.specs.Proof.{Proves}
use Rattle.decider.specs.declared.decision.Decision.{Decision}
use Rattle.decider.specs.declared.decision.Decision.TheVariants.{Undecided, Implied}
use Rattle.decider.specs.declared.tools.Snapshot.{Snapshot}
use Rattle.decider.specs.declared.tools.Tools.{Tools}
use Rattle.decider.specs.ToolDecisions.{AreReady}
use Rattle.decider.specs.Standing.{KeepsRoom}
use Rattle.pair_enumeration.specs.Listed.{Listed}
use Rattle.question_queue.specs.declared.marks.Kept.{Kept}
use Rattle.survey_core.specs.declared.events.Event.{Event}
use Rattle.survey_core.specs.declared.limits.TheConstants.{MAX_EVENTS}
use Rattle.survey_core.specs.Histories.{class_at, committed}
use Rattle.survey_core.specs.Legal.{IsLegal}
use Rattle.survey_replies.specs.Requests.{Request}
use Rattle.survey_state.specs.declared.findings.Look.{Look}
use Rattle.survey_state.specs.declared.findings.Finding.{Finding}
use Rattle.survey_state.specs.declared.findings.Finding.TheVariants.{Open, Ranked}
use Rattle.survey_state.specs.declared.findings.Found.{Found}
use Rattle.survey_state.specs.States.{HasAnswersOf}
use Rattle.survey_state.specs.Sought.{IsSought}

-- vectors that open a pair by the first answers, as many as is said
abbrev pub OpensByFirst : List ℕ → List Answer → Pair → Kept → Type 0
OpensByFirst levels answers pair kept = (kept.met ≤ length answers) × Opens levels (take kept.met answers) pair kept.plus kept.minus

-- a combination that proves the verdict, with a scale below the bound of certificates
abbrev pub IsCertified : List ℕ → List Answer → Pair → Side → Combination → Type 0
IsCertified levels answers pair verdict combination = Proves levels answers combination pair verdict × (unsigned_abs combination.scale < CERTIFICATE_BOUND)

-- a decision whose certificate is valid
abbrev pub IsShown : List ℕ → List Answer → Pair → Decision → Type 0
IsShown levels answers pair (Undecided plus minus) = Opens levels answers pair plus minus
IsShown levels answers pair (Implied verdict combination) = IsCertified levels answers pair verdict combination

-- the same of a finding; its point meets the answers with one more, which ranks the pair to this side
abbrev pub IsFinding : List ℕ → List Answer → Pair → Side → Finding → Type 0
IsFinding levels answers pair side (Open plus minus point) =
    Opens levels answers pair plus minus × MeetsAll levels (answers ++ record { pair = pair; side = side } ∷ []) point
IsFinding levels answers pair side (Ranked verdict combination) = IsCertified levels answers pair verdict combination

-- tools with which the class looked at may be decided, and vectors kept for it
pub record IsReadyFor (look : Look) (tools : Tools) : Type 0 where
  pub ready : AreReady look.model tools
  pub fits : IsFit look.model.levels look.pair
  pub kept : IfSome look.kept (OpensByFirst look.model.levels tools.snapshot.answers.answers look.pair)

-- a class to look at, with what the state has for it
pub record IsLook (listed : Listed) (journal : List Event) (look : Look) : Type 0 where
  pub at : look.at ≡ length journal
  pub short : length journal ≤ MAX_EVENTS
  pub model : look.model ≡ listed.criteria
  pub class : class_at listed.classes look.place ≡ Some look.pair
  pub fits : IsFit listed.criteria.levels look.pair
  pub kept : IfSome look.kept (OpensByFirst listed.criteria.levels (committed listed.classes journal) look.pair)
  pub few : length (committed listed.classes journal) ≤ class_count listed.criteria.levels listed.criteria.degree
  pub answers_fit : All (λ answer. IsFit listed.criteria.levels answer.pair) (committed listed.classes journal)

-- the one on which the reply to the request rests, with a copy of the journal's answers
pub record LooksAt (listed : Listed) (journal : List Event) (asked : Request) (snapshot : Snapshot) (look : Look) : Type 0 where
  pub look_at : IsLook listed journal look
  pub sought : IsSought listed journal asked look.place
  pub copy : HasAnswersOf listed journal snapshot

-- what was found of the class at a place, by the answers of the snapshot
abbrev pub IsFindingOf : Listed → Snapshot → Side → Found → Type 0
IsFindingOf listed snapshot side found =
    IsSomeAnd (class_at listed.classes found.place) (λ pair. IsFinding listed.criteria.levels snapshot.answers.answers pair side found.finding)

-- what was found of the class on which the reply rested, by the first events of the journal
pub record IsFoundIn (listed : Listed) (journal : List Event) (asked : Request) (side : Side) (snapshot : Snapshot) (found : Found) : Type 0 where
  pub within : found.at ≤ length journal
  pub sought : IsSought listed (take found.at journal) asked found.place
  pub copy : HasAnswersOf listed (take found.at journal) snapshot
  pub finding : IsFindingOf listed snapshot side found

-- the reply rests on the class at the place, and the snapshot has the journal's answers
pub record IsFresh (listed : Listed) (journal : List Event) (asked : Request) (snapshot : Snapshot) (place : ℕ) : Type 0 where
  pub legal : IsLegal listed journal
  pub sought : IsSought listed journal asked place
  pub copy : HasAnswersOf listed journal snapshot

-- what was found holds now
pub record HoldsNow (listed : Listed) (journal : List Event) (asked : Request) (side : Side) (snapshot : Snapshot) (found : Found) : Type 0 where
  pub fresh : IsFresh listed journal asked snapshot found.place
  pub finding : IsFindingOf listed snapshot side found
  pub within : found.at ≤ length journal

-- if something was found, the journal was shorter then
abbrev pub IsEarlier : Option Found → List Event → Type 0
IsEarlier found journal = IfSome found (λ earlier. earlier.at < length journal)

-- what was found by the journal as it is
abbrev pub IsFoundNow : Listed → List Event → Request → Side → Snapshot → Option Found → Type 0
IsFoundNow listed journal asked side snapshot found =
    IfSome found (λ one. (one.at ≡ length journal) × IsFoundIn listed journal asked side snapshot one)

-- the combination proves the verdict on the class at the place
abbrev pub IsCertifiedClass : Listed → List Event → ℕ → Side → Combination → Type 0
IsCertifiedClass listed journal place verdict combination =
    IsSomeAnd (class_at listed.classes place) (λ pair. IsCertified listed.criteria.levels (committed listed.classes journal) pair verdict combination)

-- the point meets the answers with one more, which ranks the class at the place to this side
abbrev pub MeetsWithClass : Listed → List Event → ℕ → Side → List ℤ → Type 0
MeetsWithClass listed journal place side point =
    IsSomeAnd (class_at listed.classes place)
    (λ pair. MeetsAll listed.criteria.levels (committed listed.classes journal ++ record { pair = pair; side = side } ∷ []) point)

-- the tools' rooms are as before
pub record KeepsTools (old new : Tools) : Type 0 where
  pub answers : room_of new.snapshot.answers ≡ room_of old.snapshot.answers
  pub work : KeepsRoom old.work new.work
