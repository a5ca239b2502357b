-- What a reply records.
use Rattle.std.specs.Prelude.{◌≡◌, ℕ, ◌+◌, ◌<◌, ◌≤◌, Bool, false, if◌then◌else◌, IsTrue, List, [], ◌∷◌, ◌++◌, length, IsSomeAnd, ℤ}
use Rattle.std.specs.Option.{option_map_or}
use Rattle.criteria_model.specs.declared.pairs.Side.{Side}
use Rattle.farkas_check.specs.declared.combination.Combination.{Combination}
use Rattle.pair_enumeration.specs.Listed.{Listed}
use Rattle.survey_core.specs.declared.events.Event.{Event}
use Rattle.survey_core.specs.declared.events.Event.TheVariants.{Eliminate, Issue, Commit, Close, Withdraw}
use Rattle.survey_core.specs.Histories.{issued, place_of, is_eliminated, is_ranked}
use Rattle.survey_core.specs.Legal.{AreEarlierAsked}
use Rattle.survey_core.specs.Laws.{RanksEachClass}
use Rattle.survey_replies.specs.Requests.{Request}
use Rattle.survey_replies.specs.Requests as request
use Rattle.survey_replies.specs.declared.replies.NextReply.TheVariants.{Question, Waiting, Complete}
use Rattle.survey_replies.specs.declared.replies.AnswerReply.TheVariants.{Accepted, Implied}
use Rattle.survey_replies.specs.declared.replies.ValuesReply.TheVariants.{Values, Incomplete}
use Rattle.survey_replies.specs.declared.replies.WithdrawReply.TheVariants.{Withdrawn}
use Rattle.survey_replies.specs.Outcomes.{Outcome}
use Rattle.survey_replies.specs.Outcomes as outcome

-- the Eliminate that goes before the Close of a question, where its class has none
abbrev pub missing_elimination : List Event → ℕ → Side → Combination → List Event
missing_elimination history place verdict combination =
    if is_eliminated history place then [] else Eliminate 0 place verdict combination ∷ []

-- the events that the reply's last turn appends to the history
abbrev pub Records : ℕ → List Event → Request → Outcome → List Event → Type 0
Records desk history request.next (outcome.next (Question at number place pair)) events =
    (plus : List ℤ) × (minus : List ℤ) × (events ≡ Issue desk place plus minus ∷ [])
Records desk history (request.answer question side) (outcome.answer (Accepted at replied)) events =
    (plus : List ℤ) × (minus : List ℤ) × (point : List ℤ) × (events ≡ Commit desk question side plus minus point ∷ [])
Records desk history (request.answer question side) (outcome.answer (Implied at replied verdict combination)) events =
    IsSomeAnd (place_of (issued history) question)
    (λ place. events ≡ missing_elimination history place verdict combination ++ Close desk question ∷ [])
Records desk history request.withdraw (outcome.withdraw (Withdrawn at answer question)) events = events ≡ Withdraw desk answer ∷ []
Records desk history _ _ events = events ≡ []

-- whether the class of a question is eliminated
abbrev pub is_question_eliminated : List Event → ℕ → Bool
is_question_eliminated history question = option_map_or (is_eliminated history) (place_of (issued history) question) false

-- how many events that are
abbrev pub recorded : List Event → Outcome → ℕ
recorded history (outcome.next (Question at number place pair)) = 1
recorded history (outcome.answer (Accepted at question)) = 1
recorded history (outcome.answer (Implied at question verdict combination)) = if is_question_eliminated history question then 1 else 2
recorded history (outcome.withdraw (Withdrawn at answer question)) = 1
recorded history _ = 0

-- the classes before the place are ranked by an event
abbrev pub AreEarlierRanked : List Event → ℕ → Type 0
AreEarlierRanked history place = (earlier : ℕ) → 1 ≤ earlier → earlier < place → IsTrue (is_ranked history earlier)

-- which classes are ranked by an event, or issued, where the reply is made
abbrev pub AreRankedByEvents : Listed → List Event → Outcome → Type 0
AreRankedByEvents listed history (outcome.next (Question at number place pair)) = AreEarlierAsked history place
AreRankedByEvents listed history (outcome.next (Waiting at place plus minus)) = AreEarlierAsked history (length listed.classes + 1)
AreRankedByEvents listed history (outcome.next (Complete at)) = RanksEachClass listed history
AreRankedByEvents listed history (outcome.values (Values at vector)) = RanksEachClass listed history
AreRankedByEvents listed history (outcome.values (Incomplete at place pair plus minus)) = AreEarlierRanked history place
AreRankedByEvents listed history _ = Unit {0}
