-- What a list of events comes to: the standing events, the committed answers, the issued and the open questions.
-- Questions are numbered by their Issues, from 1 on, and classes have their places in the class list, from 1 on.
use Rattle.std.specs.Prelude.{ℕ, Bool, false, not, ◌&&◌, ◌||◌, ◌==◌, if◌then◌else◌, List, [], ◌∷◌, ◌++◌, length, filter, count_by, fold, Contains, Option, None}
use Rattle.std.specs.Option.{option_map, option_map_or, option_and_then}
use Rattle.std.specs.List.{list_any, filter_map, range_with_len}
use Rattle.criteria_model.specs.declared.pairs.Pair.{Pair}
use Rattle.criteria_model.specs.declared.pairs.Answer.{Answer}
pub use Rattle.row_laws.specs.Items.{item_at}
pub use Rattle.pair_enumeration.specs.Places.{class_at}
use Rattle.survey_core.specs.declared.events.Event.{Event}
use Rattle.survey_core.specs.declared.events.Event.TheVariants.{Eliminate, Commit, Close, Withdraw}
use Rattle.survey_core.specs.Kinds.{eliminates, cites, issued_place, is_commit, commits, closes, is_withdraw}

-- what a withdrawal of the answer takes out of the standing events: each Eliminate that cites the answer, the last Commit, and
-- each Close after that Commit. A Close is after the last Commit where a Commit stands and none comes later
abbrev pub is_taken : ℕ → Bool → List Event → Event → Bool
is_taken answer has_commit later (Eliminate worker place verdict combination) = cites answer (Eliminate worker place verdict combination)
is_taken answer has_commit later (Commit desk question side plus minus point) = not (list_any is_commit later)
is_taken answer has_commit later (Close desk question) = has_commit && not (list_any is_commit later)
is_taken answer has_commit later _ = false

-- the events without those, where it is given whether a Commit stands among all events
abbrev pub without_taken : ℕ → Bool → List Event → List Event
without_taken answer has_commit [] = []
without_taken answer has_commit (event ∷ later) =
    if is_taken answer has_commit later event then without_taken answer has_commit later else event ∷ without_taken answer has_commit later

-- the standing events without what the withdrawal of the answer takes out
abbrev pub without_answer : ℕ → List Event → List Event
without_answer answer events = without_taken answer (list_any is_commit events) events

-- the standing events, after one more event: a Withdraw takes events out, any other event is put at the end
abbrev pub standing_after : List Event → Event → List Event
standing_after standing (Withdraw desk answer) = without_answer answer standing
standing_after standing event = standing ++ event ∷ []

-- the events of a history that no withdrawal has taken out
abbrev pub standing : List Event → List Event
standing history = fold standing_after [] history

-- the places of the Issues, in order
abbrev pub issued : List Event → List ℕ
issued history = filter_map issued_place history

-- whether the class was issued
abbrev pub is_issued : List Event → ℕ → Bool
is_issued history place = list_any (λ asked. asked == place) (issued history)

-- the place of the class that a question asks, by the places of all questions
abbrev pub place_of : List ℕ → ℕ → Option ℕ
place_of asked question = item_at asked question

-- the class of a question
abbrev pub class_of : List Pair → List ℕ → ℕ → Option Pair
class_of classes asked question = option_and_then (class_at classes) (place_of asked question)

-- the answer that a Commit gives: its question's class, and its side
abbrev pub answer_of : List Pair → List ℕ → Event → Option Answer
answer_of classes asked (Commit desk question side plus minus point) =
    option_map (λ pair. record { pair = pair; side = side }) (class_of classes asked question)
answer_of classes asked _ = None

-- the answers of the standing Commits, in order
abbrev pub committed : List Pair → List Event → List Answer
committed classes history = filter_map (answer_of classes (issued history)) (standing history)

-- a Commit or a Close of the question
abbrev pub ends : ℕ → Event → Bool
ends question event = commits question event || closes question event

-- whether the question has neither a Commit nor a Close that stands
abbrev pub is_unended : List Event → ℕ → Bool
is_unended history question = not (list_any (ends question) (standing history))

-- the numbers of the open questions: those that were issued and have neither
abbrev pub open_questions : List Event → List ℕ
open_questions history = filter (is_unended history) (range_with_len 1 (length (issued history)))

-- the question is open
abbrev pub IsOpenQuestion : List Event → ℕ → Type 0
IsOpenQuestion history question = Contains (open_questions history) question

-- whether the class has an Eliminate that stands
abbrev pub is_eliminated : List Event → ℕ → Bool
is_eliminated history place = list_any (eliminates place) (standing history)

-- a Commit of a question that asks the class
abbrev pub commits_class : List ℕ → ℕ → Event → Bool
commits_class asked place (Commit desk question side plus minus point) = option_map_or (λ other. other == place) (place_of asked question) false
commits_class asked place _ = false

-- whether the class has a Commit that stands
abbrev pub is_committed : List Event → ℕ → Bool
is_committed history place = list_any (commits_class (issued history) place) (standing history)

-- whether the class is ranked by an event: it has an Eliminate or a Commit that stands
abbrev pub is_ranked : List Event → ℕ → Bool
is_ranked history place = is_eliminated history place || is_committed history place

-- how often an answer was withdrawn
abbrev pub withdrawals : List Event → ℕ
withdrawals history = count_by is_withdraw history
