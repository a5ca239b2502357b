-- Which events may follow a history. Answers, ended questions and ranked classes are those of the standing events, issued
-- questions those of the whole history.
use Rattle.std.specs.Prelude.{◌≡◌, ◌⊎◌, ℕ, ◌+◌, ◌*◌, ◌<◌, ◌≤◌, IsTrue, IsFalse, List, [], ◌∷◌, ◌++◌, length, take, slice_get, Some, IsSomeAnd, unsigned_abs, ℤ}
use Rattle.criteria_model.specs.declared.pairs.Side.{Side}
use Rattle.criteria_model.specs.declared.limits.TheConstants.{CERTIFICATE_BOUND}
use Rattle.criteria_model.specs.Worth.{increments, IsValueVector}
use Rattle.criteria_model.specs.Answers.{MeetsAll, Opens}
use Rattle.farkas_check.specs.declared.combination.Combination.{Combination}
use Rattle.farkas_check.specs.Flaws.{IsFirstFlaw}
use Rattle.farkas_check.specs.Proof.{Proves}
use Rattle.pair_enumeration.specs.Listed.{Listed}
use Rattle.survey_core.specs.declared.events.Event.{Event}
use Rattle.survey_core.specs.declared.events.Event.TheVariants.{Eliminate, Issue, Commit, Close, Withdraw}
use Rattle.survey_core.specs.declared.broken.Broken.{Broken}
use Rattle.survey_core.specs.declared.broken.Broken.TheVariants as broken
use Rattle.survey_core.specs.declared.limits.TheConstants.{MAX_EVENTS, MAX_DESKS, MAX_WORKERS, MAX_OPEN_QUESTIONS}
use Rattle.survey_core.specs.Histories.{issued, is_issued, place_of, class_at, class_of, committed, open_questions, IsOpenQuestion, is_eliminated, is_ranked, withdrawals}
use Rattle.survey_core.specs.Parts.{Part, part, AllHold, FirstFails}

-- the number of a desk
abbrev pub IsDesk : ℕ → Type 0
IsDesk desk = (1 ≤ desk) × (desk ≤ MAX_DESKS)

-- an event of a model with these levels: its numbers are in their ranges, its vectors are value vectors
abbrev pub IsEvent : List ℕ → Event → Type 0
IsEvent levels (Eliminate worker place verdict combination) =
    (worker ≤ MAX_WORKERS) × (length combination.increments ≡ increments levels) × (unsigned_abs combination.scale < CERTIFICATE_BOUND)
IsEvent levels (Issue desk place plus minus) = IsDesk desk × IsValueVector levels plus × IsValueVector levels minus
IsEvent levels (Commit desk question side plus minus point) =
    IsDesk desk × IsValueVector levels plus × IsValueVector levels minus × IsValueVector levels point
IsEvent levels (Close desk question) = IsDesk desk
IsEvent levels (Withdraw desk answer) = IsDesk desk

-- the place is that of a class
abbrev pub IsPlace : Listed → ℕ → Type 0
IsPlace listed place = (1 ≤ place) × (place ≤ length listed.classes)

-- the class has neither an Eliminate nor a Commit
abbrev pub IsUnranked : List Event → ℕ → Type 0
IsUnranked history place = IsFalse (is_ranked history place)

-- the combination proves the verdict on the class by the answers committed so far
abbrev pub ProvesClass : Listed → List Event → ℕ → Side → Combination → Type 0
ProvesClass listed history place verdict combination =
    IsSomeAnd (class_at listed.classes place) (λ pair. Proves listed.criteria.levels (committed listed.classes history) combination pair verdict)

-- this is the first flaw of that combination
abbrev pub HasFirstFlaw : Listed → List Event → ℕ → Side → Combination → Broken → Type 0
HasFirstFlaw listed history place verdict combination (broken.Flaw flaw) =
    IsSomeAnd (class_at listed.classes place)
    (λ pair. IsFirstFlaw listed.criteria.levels (committed listed.classes history) combination pair verdict (Some flaw))
HasFirstFlaw listed history place verdict combination _ = ⊥

-- each class before the place is ranked by an event or was issued
abbrev pub AreEarlierAsked : List Event → ℕ → Type 0
AreEarlierAsked history place = (earlier : ℕ) → 1 ≤ earlier → earlier < place → IsTrue (is_ranked history earlier) ⊎ IsTrue (is_issued history earlier)

-- the two vectors open the class at the place
abbrev pub OpensClass : Listed → List Event → ℕ → List ℤ → List ℤ → Type 0
OpensClass listed history place plus minus =
    IsSomeAnd (class_at listed.classes place) (λ pair. Opens listed.criteria.levels (committed listed.classes history) pair plus minus)

-- the class of the question has no Eliminate
abbrev pub HasUneliminatedClass : List Event → ℕ → Type 0
HasUneliminatedClass history question = IsSomeAnd (place_of (issued history) question) (λ place. IsFalse (is_eliminated history place))

-- the class of the question has an Eliminate
abbrev pub HasEliminatedClass : List Event → ℕ → Type 0
HasEliminatedClass history question = IsSomeAnd (place_of (issued history) question) (λ place. IsTrue (is_eliminated history place))

-- the two vectors open the class of the question
abbrev pub OpensQuestion : Listed → List Event → ℕ → List ℤ → List ℤ → Type 0
OpensQuestion listed history question plus minus =
    IsSomeAnd (class_of listed.classes (issued history) question)
    (λ pair. Opens listed.criteria.levels (committed listed.classes history) pair plus minus)

-- the point meets the answers with this one more
abbrev pub MeetsWith : Listed → List Event → ℕ → Side → List ℤ → Type 0
MeetsWith listed history question side point =
    IsSomeAnd (class_of listed.classes (issued history) question)
    (λ pair. MeetsAll listed.criteria.levels (committed listed.classes history ++ record { pair = pair; side = side } ∷ []) point)

-- the number of the last answer
abbrev pub IsLastAnswer : Listed → List Event → ℕ → Type 0
IsLastAnswer listed history answer = (1 ≤ answer) × (answer ≡ length (committed listed.classes history))

-- the most events of a history of this number of classes with this number of withdrawals: 3 events a class before the first
-- withdrawal, and then 2 events a class and the Withdraw for each
abbrev pub most_events : ℕ → ℕ → ℕ
most_events classes withdrawn = 3 * classes + 2 * classes * withdrawn + withdrawn

-- with one more withdrawal that is above the limit
abbrev pub IsSpent : ℕ → ℕ → Type 0
IsSpent classes withdrawn = MAX_EVENTS < most_events classes (withdrawn + 1)

-- what each kind of event needs, in the order in which the parts are tested
abbrev pub eliminate_parts : Listed → List Event → ℕ → Side → Combination → List Part
eliminate_parts listed history place verdict combination =
    part broken.Class (IsPlace listed place)
    ∷ part broken.Ranked (IsUnranked history place)
    ∷ record { holds = ProvesClass listed history place verdict combination; fails = HasFirstFlaw listed history place verdict combination }
    ∷ []

abbrev pub issue_parts : Listed → List Event → ℕ → List ℤ → List ℤ → List Part
issue_parts listed history place plus minus =
    part broken.Class (IsPlace listed place)
    ∷ part broken.Ranked (IsUnranked history place)
    ∷ part broken.Asked (IsFalse (is_issued history place))
    ∷ part broken.Full (length (open_questions history) < MAX_OPEN_QUESTIONS)
    ∷ part broken.Earlier (AreEarlierAsked history place)
    ∷ part broken.Vectors (OpensClass listed history place plus minus)
    ∷ []

abbrev pub commit_parts : Listed → List Event → ℕ → Side → List ℤ → List ℤ → List ℤ → List Part
commit_parts listed history question side plus minus point =
    part broken.Question (IsOpenQuestion history question)
    ∷ part broken.Ranked (HasUneliminatedClass history question)
    ∷ part broken.Vectors (OpensQuestion listed history question plus minus)
    ∷ part broken.Point (MeetsWith listed history question side point)
    ∷ []

abbrev pub close_parts : List Event → ℕ → List Part
close_parts history question =
    part broken.Question (IsOpenQuestion history question)
    ∷ part broken.Unranked (HasEliminatedClass history question)
    ∷ []

abbrev pub withdraw_parts : Listed → List Event → ℕ → List Part
withdraw_parts listed history answer =
    part broken.Nothing (IsLastAnswer listed history answer)
    ∷ part broken.Spent (¬ IsSpent (length listed.classes) (withdrawals history))
    ∷ []

-- what an event needs, by what stands before it
abbrev pub parts : Listed → List Event → Event → List Part
parts listed history (Eliminate worker place verdict combination) = eliminate_parts listed history place verdict combination
parts listed history (Issue desk place plus minus) = issue_parts listed history place plus minus
parts listed history (Commit desk question side plus minus point) = commit_parts listed history question side plus minus point
parts listed history (Close desk question) = close_parts history question
parts listed history (Withdraw desk answer) = withdraw_parts listed history answer

-- the event has each part
abbrev pub MayFollow : Listed → List Event → Event → Type 0
MayFollow listed history event = AllHold (parts listed history event)

-- the event lacks this part, and has those before it
abbrev pub FailsFirst : Listed → List Event → Event → Broken → Type 0
FailsFirst listed history event name = FirstFails (parts listed history event) name

-- a legal history: each event is one of the model and may follow those before it
abbrev pub IsLegal : Listed → List Event → Type 0
IsLegal listed history =
    (k : ℕ) (event : Event) → slice_get history k ≡ Some event
    → IsEvent listed.criteria.levels event × MayFollow listed (take k history) event
