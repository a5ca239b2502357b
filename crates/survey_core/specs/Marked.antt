-- What the marks of classes and questions say of a history, for the private functions that keep them.
use Rattle.std.specs.Prelude.{◌≡◌, ℕ, ◌+◌, ◌*◌, ◌<◌, ◌≤◌, min, max, Bool, true, false, ◌||◌, ◌==◌, nat_lt, nat_le, if◌then◌else◌, IsTrue, IsFalse, List, [], ◌∷◌, length, map, count_by, slice_get, slice_set, Some}
use Rattle.std.specs.Option.{option_map_or}
use Rattle.std.specs.List.{flat_map}
use Rattle.criteria_model.specs.declared.limits.TheConstants.{MAX_CLASSES}
use Rattle.farkas_check.specs.declared.cites.Cite.{Cite}
use Rattle.pair_enumeration.specs.Listed.{Listed, IsListed}
use Rattle.answer_rows.specs.Room.{AnswersWithRoom, room_of}
use Rattle.survey_core.specs.declared.events.Event.{Event}
use Rattle.survey_core.specs.declared.events.Event.TheVariants.{Eliminate, Issue, Commit, Close, Withdraw}
use Rattle.survey_core.specs.declared.marks.Ranking.{Ranking}
use Rattle.survey_core.specs.declared.marks.Ranking.TheVariants.{Unranked, Eliminated, Committed as CommittedBy}
use Rattle.survey_core.specs.declared.marks.Ending.{Ending}
use Rattle.survey_core.specs.declared.marks.Ending.TheVariants.{Open, Committed, Closed}
use Rattle.survey_core.specs.declared.marks.Mark.{Mark}
use Rattle.survey_core.specs.declared.marks.Question.{Question}
use Rattle.survey_core.specs.Kinds.{is_commit}
use Rattle.survey_core.specs.Histories.{standing, issued, is_issued, committed, commits_class, withdrawals}
use Rattle.survey_core.specs.declared.limits.TheConstants.{MAX_EVENTS}
use Rattle.survey_core.specs.Legal.{most_events, IsLegal}

-- the greatest number of a cited answer; 0 where none is cited
abbrev pub greatest_cited : List Cite → ℕ
greatest_cited [] = 0
greatest_cited (cite ∷ cites) = max cite.answer (greatest_cited cites)

-- on how many answers a standing event rests, where that many Commits stand before it: it stays for as long as these stand
abbrev pub rests_on : ℕ → Event → ℕ
rests_on before (Eliminate worker place verdict combination) = greatest_cited combination.answers
rests_on before (Issue desk place plus minus) = 0
rests_on before (Commit desk question side plus minus point) = before + 1
rests_on before (Close desk question) = before
rests_on before (Withdraw desk answer) = 0

-- a standing event, and on how many answers it rests
pub record Resting : Type 0 where
  pub level : ℕ
  pub event : Event

-- the standing events, each with that number, where that many Commits stand before them
abbrev pub numbered : ℕ → List Event → List Resting
numbered before [] = []
numbered before (event ∷ later) =
    record { level = rests_on before event; event = event } ∷ numbered (before + (if is_commit event then 1 else 0)) later

-- the standing events of a history, each with that number
abbrev pub resting : List Event → List Resting
resting history = numbered 0 (standing history)

-- how the event ranks the class
abbrev pub ranking_by : List ℕ → ℕ → ℕ → Event → List Ranking
ranking_by asked place level (Eliminate worker eliminated verdict combination) = if eliminated == place then Eliminated level ∷ [] else []
ranking_by asked place level (Issue desk other plus minus) = []
ranking_by asked place level (Commit desk question side plus minus point) =
    if commits_class asked place (Commit desk question side plus minus point) then CommittedBy level ∷ [] else []
ranking_by asked place level (Close desk question) = []
ranking_by asked place level (Withdraw desk answer) = []

-- all rankings of the class
abbrev pub rankings : List ℕ → ℕ → List Resting → List Ranking
rankings asked place events = flat_map (λ e. ranking_by asked place e.level e.event) events

-- the rankings that a mark stands for
abbrev pub marked_rankings : Ranking → List Ranking
marked_rankings Unranked = []
marked_rankings (Eliminated level) = Eliminated level ∷ []
marked_rankings (CommittedBy level) = CommittedBy level ∷ []

-- how the event ends the question
abbrev pub ending_by : ℕ → ℕ → Event → List Ending
ending_by question level (Eliminate worker place verdict combination) = []
ending_by question level (Issue desk place plus minus) = []
ending_by question level (Commit desk committed side plus minus point) = if committed == question then Committed level ∷ [] else []
ending_by question level (Close desk closed) = if closed == question then Closed level ∷ [] else []
ending_by question level (Withdraw desk answer) = []

-- all endings of the question
abbrev pub endings : ℕ → List Resting → List Ending
endings question events = flat_map (λ e. ending_by question e.level e.event) events

-- the endings that a mark stands for
abbrev pub marked_endings : Ending → List Ending
marked_endings Open = []
marked_endings (Committed level) = Committed level ∷ []
marked_endings (Closed level) = Closed level ∷ []

-- what is kept of a history: a mark of each class, by its place, and of each question, by its number
pub record Table : Type 0 where
  pub classes : List Mark
  pub questions : List Question

-- the ranking is one
abbrev pub is_ranking : Ranking → Bool
is_ranking Unranked = false
is_ranking (Eliminated level) = true
is_ranking (CommittedBy level) = true

-- it is an elimination
abbrev pub is_elimination : Ranking → Bool
is_elimination Unranked = false
is_elimination (Eliminated level) = true
is_elimination (CommittedBy level) = false

-- the class is ranked
abbrev pub is_ranked_mark : Mark → Bool
is_ranked_mark mark = is_ranking mark.ranking

-- the class is ranked or issued
abbrev pub is_settled : Mark → Bool
is_settled mark = is_ranking mark.ranking || mark.issued

-- the ending is none
abbrev pub is_open : Ending → Bool
is_open Open = true
is_open (Committed level) = false
is_open (Closed level) = false

-- the question is open
abbrev pub is_open_mark : Question → Bool
is_open_mark question = is_open question.ending

-- the first classes, up to this number, are ranked or issued
abbrev pub AreSettled : List Mark → ℕ → Type 0
AreSettled classes count = (k : ℕ) (mark : Mark) → k < count → slice_get classes k ≡ Some mark → IsTrue (is_settled mark)

-- a table, and the counts that are kept beside it
pub record IsTable (table : Table) (room ranked open_count settled : ℕ) : Type 0 where
  pub few : length table.classes ≤ MAX_CLASSES
  pub room_for_all : length table.classes ≤ room
  pub asked_count : count_by (λ mark. mark.issued) table.classes ≡ length table.questions
  pub ranked_count : count_by is_ranked_mark table.classes ≡ ranked
  pub open_questions : count_by is_open_mark table.questions ≡ open_count
  pub front : AreSettled table.classes settled
  pub next : (mark : Mark) → slice_get table.classes settled ≡ Some mark → IsFalse (is_settled mark)
  pub within : settled ≤ length table.classes

-- a class that is neither ranked nor issued
abbrev pub unmarked : Mark
unmarked = record { ranking = Unranked; issued = false }

-- the classes, with this one ranked
abbrev pub with_ranking : List Mark → ℕ → Ranking → List Mark
with_ranking classes k ranking = slice_set classes k (record { ranking = ranking; issued = option_map_or (λ mark. mark.issued) (slice_get classes k) false })

-- the classes, with this one issued
abbrev pub with_issued : List Mark → ℕ → List Mark
with_issued classes k = slice_set classes k (record { ranking = option_map_or (λ mark. mark.ranking) (slice_get classes k) Unranked; issued = true })

-- the questions, with this one ended
abbrev pub with_ending : List Question → ℕ → Ending → List Question
with_ending questions k ending = slice_set questions k (record { place = option_map_or (λ question. question.place) (slice_get questions k) 0; ending = ending })

-- what is left of a ranking without this answer and later ones
abbrev pub left_ranking : ℕ → Ranking → Ranking
left_ranking answer Unranked = Unranked
left_ranking answer (Eliminated level) = if nat_lt level answer then Eliminated level else Unranked
left_ranking answer (CommittedBy level) = if nat_lt level answer then CommittedBy level else Unranked

abbrev pub left_mark : ℕ → Mark → Mark
left_mark answer mark = record { ranking = left_ranking answer mark.ranking; issued = mark.issued }

-- and of an ending
abbrev pub left_ending : ℕ → Ending → Ending
left_ending answer Open = Open
left_ending answer (Committed level) = if nat_lt level answer then Committed level else Open
left_ending answer (Closed level) = if nat_lt level answer then Closed level else Open

abbrev pub left_question : ℕ → Question → Question
left_question answer question = record { place = question.place; ending = left_ending answer question.ending }

-- a Commit that is one of the first answers, up to this number
abbrev pub is_number_up_to : ℕ → Ranking → Bool
is_number_up_to most Unranked = false
is_number_up_to most (Eliminated level) = false
is_number_up_to most (CommittedBy level) = nat_le level most

abbrev pub is_answer_up_to : ℕ → Mark → Bool
is_answer_up_to most mark = is_number_up_to most mark.ranking

-- what a class's mark says
pub record IsMark (history : List Event) (place : ℕ) (mark : Mark) : Type 0 where
  pub ranking : rankings (issued history) place (resting history) ≡ marked_rankings mark.ranking
  pub asked : is_issued history place ≡ mark.issued

-- what a question's mark says
pub record IsQuestionMark (history : List Event) (number : ℕ) (question : Question) : Type 0 where
  pub ending : endings number (resting history) ≡ marked_endings question.ending

-- the table of a history with this many answers
pub record IsTableOf (listed : Listed) (history : List Event) (answers : ℕ) (table : Table) : Type 0 where
  pub len : length table.classes ≡ length listed.classes
  pub each_class : (k : ℕ) (mark : Mark) → slice_get table.classes k ≡ Some mark → IsMark history (k + 1) mark
  pub places : map (λ question. question.place) table.questions ≡ issued history
  pub each_question : (k : ℕ) (question : Question) → slice_get table.questions k ≡ Some question → IsQuestionMark history (k + 1) question
  pub asked_count : count_by (λ mark. mark.issued) table.classes ≡ length table.questions
  pub answer_count : (most : ℕ) → count_by (is_answer_up_to most) table.classes ≡ min most answers

-- what a `Core` keeps of a history
pub record KeepsHistory (listed : Listed) (history : List Event) (answers : AnswersWithRoom) (table : Table) (withdrawn room : ℕ) : Type 0 where
  pub model : IsListed listed
  pub legal : IsLegal listed history
  pub answered : answers.answers ≡ committed listed.classes history
  pub room_for_answers : length listed.classes ≤ room_of answers
  pub table_of : IsTableOf listed history (length answers.answers) table
  pub withdrawals_made : withdrawn ≡ withdrawals history
  pub unspent : most_events (length listed.classes) withdrawn ≤ MAX_EVENTS
  pub short : length history + count_by is_open_mark table.questions + length answers.answers
      ≤ 2 * length table.questions + count_by is_ranked_mark table.classes + withdrawn * (2 * length listed.classes + 1)
  pub room_for_events : MAX_EVENTS ≤ room
