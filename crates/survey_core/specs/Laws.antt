-- What legal histories have in common.
use Rattle.std.specs.Prelude.{◌≡◌, ◌↔◌, ℕ, ◌≤◌, IsTrue, List, ◌∷◌, ◌++◌, length, replicate, fold, Any, Some, Option, None, ℤ, pos}
use Rattle.std.specs.List.{filter_map}
use Rattle.criteria_model.specs.declared.pairs.Pair.{Pair}
use Rattle.criteria_model.specs.declared.pairs.Answer.{Answer}
use Rattle.criteria_model.specs.declared.pairs.Side.{Side}
use Rattle.criteria_model.specs.Worth.{increments}
use Rattle.criteria_model.specs.Alternatives.{IsAlternative}
use Rattle.criteria_model.specs.Answers.{MeetsAll, IsSatisfiable, IsRanked, IsOpen, Opens, turned_side}
use Rattle.farkas_check.specs.declared.combination.Combination.{Combination}
use Rattle.pair_enumeration.specs.declared.flips.Flip.{Flip}
use Rattle.pair_enumeration.specs.declared.flips.Flip.TheVariants.{Kept, Turned}
use Rattle.pair_enumeration.specs.Listed.{Listed, IsListed}
use Rattle.pair_enumeration.specs.Places.{NeedsQuestion, IsPlaceOf}
use Rattle.survey_core.specs.declared.broken.Broken.{Broken}
use Rattle.survey_core.specs.declared.events.Event.{Event}
use Rattle.survey_core.specs.declared.events.Event.TheVariants.{Eliminate, Issue, Commit}
use Rattle.survey_core.specs.declared.limits.TheConstants.{MAX_EVENTS}
use Rattle.survey_core.specs.Histories.{standing, issued, place_of, committed, class_at, class_of, is_ranked, withdrawals}
use Rattle.survey_core.specs.Legal.{IsPlace, most_events, MayFollow, FailsFirst, IsLegal}

-- the point of a Commit
abbrev pub point_of : Event → Option (List ℤ)
point_of (Commit desk question side plus minus point) = Some point
point_of _ = None

-- the point of the last standing Commit, or all ones where none stands
abbrev pub last_point : List ℕ → List Event → List ℤ
last_point levels history = fold (λ earlier point. point) (replicate (increments levels) (pos 1)) (filter_map point_of (standing history))

-- the last standing point meets the answers of a legal history, so they are satisfiable
abbrev pub LastPointMeets : Type 0
LastPointMeets =
    (listed : Listed) (history : List Event) → IsListed listed → IsLegal listed history
    → MeetsAll listed.criteria.levels (committed listed.classes history) (last_point listed.criteria.levels history)

-- a legal history has at most this number of events, by its classes and its withdrawals
abbrev pub IsWithinMost : Type 0
IsWithinMost =
    (listed : Listed) (history : List Event) → IsListed listed → IsLegal listed history
    → length history ≤ most_events (length listed.classes) (withdrawals history)

-- a legal history is at most MAX_EVENTS events long
abbrev pub IsShort : Type 0
IsShort = (listed : Listed) (history : List Event) → IsListed listed → IsLegal listed history → length history ≤ MAX_EVENTS

-- the answers of a legal history are satisfiable
abbrev pub AnswersAreSatisfiable : Type 0
AnswersAreSatisfiable =
    (listed : Listed) (history : List Event) → IsListed listed → IsLegal listed history
    → IsSatisfiable listed.criteria.levels (committed listed.classes history)

-- a class that an event of a legal history eliminates is ranked so by the answers that stood before the event
abbrev pub EliminatedAreRanked : Type 0
EliminatedAreRanked =
    (listed : Listed) (history before after : List Event) (worker place : ℕ) (verdict : Side) (combination : Combination) (pair : Pair)
    → IsLegal listed history → history ≡ before ++ Eliminate worker place verdict combination ∷ after → class_at listed.classes place ≡ Some pair
    → IsRanked listed.criteria.levels (committed listed.classes before) pair verdict

-- a side of a class, seen from two alternatives that stand as the class does or the other way round
abbrev pub flipped_side : Flip → Side → Side
flipped_side Kept side = side
flipped_side Turned side = turned_side side

-- and so are any two alternatives that the class stands for, its replicas too, either way round
abbrev pub EliminatedPairsAreRanked : Type 0
EliminatedPairsAreRanked =
    (listed : Listed) (history before after : List Event) (worker place : ℕ) (verdict : Side) (combination : Combination) (a b : List ℕ) (flip : Flip)
    → IsLegal listed history → history ≡ before ++ Eliminate worker place verdict combination ∷ after → IsPlaceOf listed a b place flip
    → IsRanked listed.criteria.levels (committed listed.classes before) (record { left = a; right = b }) (flipped_side flip verdict)

-- a class that an event of a legal history issues is opened by the event's vectors, so left open by the answers that stood before it
abbrev pub IssuedAreOpen : Type 0
IssuedAreOpen =
    (listed : Listed) (history before after : List Event) (desk place : ℕ) (plus minus : List ℤ) (pair : Pair)
    → IsLegal listed history → history ≡ before ++ Issue desk place plus minus ∷ after → class_at listed.classes place ≡ Some pair
    → Opens listed.criteria.levels (committed listed.classes before) pair plus minus
    × IsOpen listed.criteria.levels (committed listed.classes before) pair

-- so is the class of a question that an event answers
abbrev pub AnsweredAreOpen : Type 0
AnsweredAreOpen =
    (listed : Listed) (history before after : List Event) (desk question : ℕ) (side : Side) (plus minus point : List ℤ) (pair : Pair)
    → IsLegal listed history → history ≡ before ++ Commit desk question side plus minus point ∷ after
    → class_of listed.classes (issued before) question ≡ Some pair
    → Opens listed.criteria.levels (committed listed.classes before) pair plus minus
    × IsOpen listed.criteria.levels (committed listed.classes before) pair

-- the side that an event gives the class at a place: the verdict of its Eliminate, or the side of a Commit of a question that asks it
abbrev pub GivesSide : List ℕ → ℕ → Event → Side → Type 0
GivesSide asked place (Eliminate worker eliminated verdict combination) side = (eliminated ≡ place) × (verdict ≡ side)
GivesSide asked place (Commit desk question chosen plus minus point) side = (place_of asked question ≡ Some place) × (chosen ≡ side)
GivesSide asked place _ side = ⊥

-- the ranking of the class at a place: the side that a standing Eliminate or Commit gives it
abbrev pub HasRanking : List Event → ℕ → Side → Type 0
HasRanking history place side = Any (λ event. GivesSide (issued history) place event side) (standing history)

-- a class has such a ranking exactly where it is ranked by an event
abbrev pub RankedHasRanking : Type 0
RankedHasRanking = (history : List Event) (place : ℕ) → IsTrue (is_ranked history place) ↔ ((side : Side) × HasRanking history place side)

-- in a legal history a class has one ranking at most
abbrev pub EachHasOneRanking : Type 0
EachHasOneRanking =
    (listed : Listed) (history : List Event) (place : ℕ) (one other : Side) → IsListed listed → IsLegal listed history
    → HasRanking history place one → HasRanking history place other → one ≡ other

-- in a legal history the ranking of a class is the one by the answers
abbrev pub RankingsAreByAnswers : Type 0
RankingsAreByAnswers =
    (listed : Listed) (history : List Event) (place : ℕ) (side : Side) (pair : Pair) → IsLegal listed history
    → HasRanking history place side → class_at listed.classes place ≡ Some pair
    → IsRanked listed.criteria.levels (committed listed.classes history) pair side

-- answers that rank a class rank every two alternatives whose class it is, its replicas too, either way round
abbrev pub ClassRanksPairs : Type 0
ClassRanksPairs =
    (listed : Listed) (answers : List Answer) (place : ℕ) (side : Side) (pair : Pair) (a b : List ℕ) (flip : Flip)
    → class_at listed.classes place ≡ Some pair → IsRanked listed.criteria.levels answers pair side → IsPlaceOf listed a b place flip
    → IsRanked listed.criteria.levels answers (record { left = a; right = b }) (flipped_side flip side)

-- two alternatives have the ranking of their class: a standing Eliminate or Commit gives their class a side, and the answers
-- rank the two so, turned where they stand the other way round
pub record HasClassRanking (listed : Listed) (history : List Event) (a b : List ℕ) : Type 0 where
  pub place : ℕ
  pub flip : Flip
  pub side : Side
  pub class : IsPlaceOf listed a b place flip
  pub ranking : HasRanking history place side
  pub ranked : IsRanked listed.criteria.levels (committed listed.classes history) (record { left = a; right = b }) (flipped_side flip side)

-- each class is ranked by an event
abbrev pub RanksEachClass : Listed → List Event → Type 0
RanksEachClass listed history = (place : ℕ) → IsPlace listed place → IsTrue (is_ranked history place)

-- every two undominated alternatives of a degree within the limit have the ranking of their class
abbrev pub RanksEveryPair : Listed → List Event → Type 0
RanksEveryPair listed history =
    (a b : List ℕ) → IsAlternative listed.criteria.levels a → IsAlternative listed.criteria.levels b → NeedsQuestion listed.criteria a b
    → HasClassRanking listed history a b

-- a legal history that ranks each class ranks every pair
abbrev pub CompleteRanksEveryPair : Type 0
CompleteRanksEveryPair =
    (listed : Listed) (history : List Event) → IsListed listed → IsLegal listed history → RanksEachClass listed history → RanksEveryPair listed history

-- an event lacks one first part at most
abbrev pub OneFirstPart : Type 0
OneFirstPart =
    (listed : Listed) (history : List Event) (event : Event) (one other : Broken)
    → FailsFirst listed history event one → FailsFirst listed history event other → one ≡ other

-- an event that may follow lacks none
abbrev pub AllowedLacksNone : Type 0
AllowedLacksNone =
    (listed : Listed) (history : List Event) (event : Event) (part : Broken)
    → MayFollow listed history event → ¬ FailsFirst listed history event part
