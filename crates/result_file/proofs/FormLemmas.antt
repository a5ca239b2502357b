-- The events of a legal history have the forms that lines of a result may have.
use Rattle.std.proofs.Common.{◌≡◌, ℕ, suc, ◌+◌, ◌<◌, ◌≤◌, Bool, true, false, if◌then◌else◌, List, [], ◌∷◌, length, take, drop, take-append-drop, get_or, Option, Some, None, ℤ, refl, sym, subst, inl, inr, arith, length-append, length-take}
use Rattle.std.specs.Prelude.{fold}
use Rattle.std.specs.List.{All, filter_map, cons_option, list_any}
use Rattle.std.proofs.lemmas.Option.{slice_get-get_or}
use Rattle.std.proofs.lemmas.Grind.{get_or_default_zero}
use Rattle.criteria_model.specs.declared.pairs.Pair.{Pair}
use Rattle.criteria_model.specs.Criteria.{Criteria, IsModel}
use Rattle.criteria_model.specs.Pairs.{FitsAt}
use Rattle.criteria_model.specs.Classes.{IsClass}
use Rattle.criteria_model.specs.Worth.{IsValueVector}
use Rattle.criteria_model.specs.Lists.{IsVector}
use Rattle.farkas_check.specs.Proof.{Proves}
use Rattle.pair_enumeration.specs.Listed.{Listed, IsListed}
use Rattle.survey_core.specs.declared.events.Event.{Event}
use Rattle.survey_core.specs.declared.events.Event.TheVariants as events
use Rattle.survey_core.specs.declared.limits.TheConstants.{MAX_EVENTS}
use Rattle.survey_core.specs.Kinds.{issued_place, is_commit}
use Rattle.survey_core.specs.Histories.{standing, standing_after, without_taken, is_taken, answer_of, issued, is_unended, class_at, committed, IsOpenQuestion}
use Rattle.survey_core.specs.Legal.{IsEvent, IsLegal}
use Rattle.survey_core.proofs.ListSteps.{some_and, filtered_range}
use Rattle.survey_core.proofs.NamedParts.{HasParts, named}
use Rattle.survey_core.proofs.FollowLemmas.{legal_front}
use Rattle.survey_core.proofs.ShortLemmas.{legal_is_short_lem}
use Rattle.result_file.specs.declared.entries.Format.TheVariants.{Two}
use Rattle.result_file.specs.Entries.{HasNumberForm, HasVectorForm, HasEntryForm}
use Rattle.result_file.specs.Events.{pair_at_place, as_entry}
use Rattle.result_file.specs.Files.{file_text, result_of, IsRightFile}
use Rattle.result_file.specs.Checked.{IsFileOf}
use Rattle.result_file.specs.Forms.{HasPairForm}
use Rattle.result_file.specs.Numbers.{HasNumbers}
use Rattle.result_file.specs.RightEvents.{AreEvents}
use Rattle.result_file.proofs.EventOnce.{is_class_there}
use Rattle.result_file.proofs.LengthLaws.{levels_within}

-- ---- how many answers and questions there are

length-filter_map-le : {X Y : Type 0} (f : X → Option Y) (xs : List X) → length (filter_map f xs) ≤ length xs
length-filter_map-le f [] = omega arith
length-filter_map-le f (x ∷ xs) = kept (f x) (filter_map f xs) (length xs) (length-filter_map-le f xs)
  where
    kept : {Y : Type 0} (found : Option Y) (rest : List Y) (n : ℕ) → length rest ≤ n → length (cons_option found rest) ≤ suc n
    kept None rest n h = omega (arith, h)
    kept (Some y) rest n h = omega (arith, h)

shorter : (taken : Bool) (event : Event) (rest : List Event) (n : ℕ) → length rest ≤ n → length (if taken then rest else event ∷ rest) ≤ suc n
shorter true event rest n h = omega (arith, h)
shorter false event rest n h = omega (arith, h)

without_shorter : (answer : ℕ) (has_commit : Bool) (events : List Event) → length (without_taken answer has_commit events) ≤ length events
without_shorter answer has_commit [] = omega arith
without_shorter answer has_commit (event ∷ later) =
    shorter (is_taken answer has_commit later event) event (without_taken answer has_commit later) (length later) (without_shorter answer has_commit later)

after_shorter : (before : List Event) (event : Event) → length (standing_after before event) ≤ length before + 1
after_shorter before (events.Withdraw desk answer) = omega (arith, without_shorter answer (list_any is_commit before) before)
after_shorter before (events.Eliminate worker place verdict combination) = omega (arith, length-append before (events.Eliminate worker place verdict combination ∷ []))
after_shorter before (events.Issue desk place plus minus) = omega (arith, length-append before (events.Issue desk place plus minus ∷ []))
after_shorter before (events.Commit desk question side plus minus point) = omega (arith, length-append before (events.Commit desk question side plus minus point ∷ []))
after_shorter before (events.Close desk question) = omega (arith, length-append before (events.Close desk question ∷ []))

standing_from : (before history : List Event) → length (fold standing_after before history) ≤ length before + length history
standing_from before [] = omega arith
standing_from before (event ∷ history) = omega (arith, standing_from (standing_after before event) history, after_shorter before event)

few_answers : (classes : List Pair) (history : List Event) → length (committed classes history) ≤ length history
few_answers classes history =
    omega (arith, length-filter_map-le (answer_of classes (issued history)) (standing history), standing_from [] history)

few_questions : (history : List Event) → length (issued history) ≤ length history
few_questions history = length-filter_map-le issued_place history

-- ---- the forms

question_form : (history : List Event) (question : ℕ) → length history ≤ MAX_EVENTS → IsOpenQuestion history question → HasNumberForm question
question_form history question short is_open =
    let found : (1 ≤ question) × (question < 1 + length (issued history)) × (is_unended history question ≡ true) =
    filtered_range (is_unended history) 1 (length (issued history)) question is_open in
    (found.0, omega (arith, found.1, few_questions history, short))

side_within : (n left right : ℕ) → FitsAt n left right → n ≤ 25 → (left ≤ 25) × (right ≤ 25)
side_within n left right fits small =
    elim fits [
      | inl none ↦ (omega (arith, none.0), omega (arith, none.1))
      | inr levels ↦ (omega (arith, levels.1, small), omega (arith, levels.3, small))
    ]

class_form : (criteria : Criteria) (pair : Pair) → IsModel criteria → IsClass criteria pair → HasPairForm criteria pair
class_form criteria pair m class =
    let small : All (λ n. n ≤ 24 + 1) criteria.levels = levels_within criteria.levels 24 m.few_increments in
    let both : (k : ℕ) → k < length criteria.levels → (get_or pair.left k 0 ≤ 25) × (get_or pair.right k 0 ≤ 25) =
    λ k within. side_within (get_or criteria.levels k 0) (get_or pair.left k 0) (get_or pair.right k 0) (class.fits.places k within) (small k 0 within) in
    record {
      left = record {
        len = class.fits.left_len;
        each = λ k d within. rw (get_or_default_zero pair.left k d within) (both k (omega (arith, within, class.fits.left_len))).0;
      };
      right = record {
        len = class.fits.right_len;
        each = λ k d within. rw (get_or_default_zero pair.right k d within) (both k (omega (arith, within, class.fits.right_len))).1;
      };
    }

vector_form : (criteria : Criteria) (vector : List ℤ) → IsValueVector criteria.levels vector → IsVector vector → HasVectorForm criteria vector
vector_form criteria vector values numbers = record { values = values; numbers = numbers.within }

event_form : (listed : Listed) (history : List Event) (event : Event) → IsListed listed → length history ≤ MAX_EVENTS → IsEvent listed.criteria.levels event
    → HasParts listed history event → HasNumbers event → HasEntryForm Two listed.criteria (as_entry listed.classes event)
event_form listed history (events.Eliminate worker place verdict combination) list short is may numbers =
    let proved = some_and (class_at listed.classes place) (λ (pair : Pair). Proves listed.criteria.levels (committed listed.classes history) combination pair verdict) may.proved in
    record {
      worker = is.0;
      pair = class_form listed.criteria (pair_at_place listed.classes place) list.model (is_class_there listed place list may.class);
      combination = record {
        scale = is.2;
        len = is.1;
        weights = numbers.0.within;
        cites = numbers.1;
        numbers = λ k d within. omega (arith, (proved.2.cited k d within).1, few_answers listed.classes history, short);
      };
    }
event_form listed history (events.Issue desk place plus minus) list short is may numbers = (
  is.0,
  class_form listed.criteria (pair_at_place listed.classes place) list.model (is_class_there listed place list may.class),
  vector_form listed.criteria plus is.1 numbers.0,
  vector_form listed.criteria minus is.2 numbers.1,
)
event_form listed history (events.Commit desk question side plus minus point) list short is may numbers = (
  is.0,
  question_form history question short may.open_question,
  vector_form listed.criteria plus is.1 numbers.0,
  vector_form listed.criteria minus is.2 numbers.1,
  vector_form listed.criteria point is.3 numbers.2,
)
event_form listed history (events.Close desk question) list short is may numbers = (is, question_form history question short may.open_question)
event_form listed history (events.Withdraw desk answer) list short is may numbers =
    (is, (may.last_answer.0, omega (arith, may.last_answer.1, few_answers listed.classes history, short)))

history_forms : (listed : Listed) (history : List Event) → IsListed listed → IsLegal listed history → All HasNumbers history
    → All (λ event. HasEntryForm Two listed.criteria (as_entry listed.classes event)) history
history_forms listed history list legal numbers =
    λ k d within.
    let event : Event = get_or history k d in
    let here = legal k event (slice_get-get_or history k d within) in
    let short : length (take k history) ≤ MAX_EVENTS =
    omega (arith, length-take k history, legal_is_short_lem listed history list legal) in
    event_form listed (take k history) event list short here.0 (named listed (take k history) event here.1) (numbers k d within)

-- the first events of a legal history
pub legal_first : (listed : Listed) (history : List Event) (count : ℕ) → IsLegal listed history → IsLegal listed (take count history)
legal_first listed history count legal =
    legal_front listed (take count history) (drop count history) (subst (λ (l : List Event). IsLegal listed l) (sym (take-append-drop count history)) legal)

-- a right history in the second format makes a right file
pub file_is_right : (listed : Listed) (history : List Event) → AreEvents Two (record { listed = listed; history = history }) → IsRightFile (result_of listed history)
file_is_right listed history right =
    let file : IsFileOf (result_of listed history) (file_text (result_of listed history)) = record { right = right; lines = inr refl } in
    record { file = file; complete = λ all. (result_of listed history, file, all); incomplete = λ not_all. (result_of listed history, file, not_all) }

pub right_file : (listed : Listed) (history : List Event) → IsListed listed → IsLegal listed history → All HasNumbers history → IsRightFile (result_of listed history)
right_file listed history list legal numbers =
    file_is_right listed history (record { listed = list; legal = legal; forms = history_forms listed history list legal numbers })
