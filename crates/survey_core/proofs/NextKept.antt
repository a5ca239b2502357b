-- What a `Core` keeps, after one more event.
use Rattle.std.proofs.Common.{◌≡◌, ℕ, ◌+◌, ◌-◌, ◌*◌, ◌<◌, ◌≤◌, ◌==◌, Bool, true, false, cond, not, ◌||◌, List, [], ◌∷◌, ◌++◌, length, take, map, Option, Some, slice_get, slice_set, ℤ, append-nil, length-append, length-take, refl, ap, sym, subst, ◌∙◌, inl, inr, arith}
use Rattle.std.specs.Option.{option_map_or, option_and_then, option_map}
use Rattle.std.specs.List.{list_any, count_by, cons_option}
use Rattle.std.proofs.lemmas.Bool.{eq-eqb, eqb-true}
use Rattle.std.proofs.Math.Nat.{add-mul, mul-add, mul_comm}
use Rattle.std.proofs.lemmas.List.{length-set, take-append-le, map-append}
use Rattle.std.proofs.lemmas.List.Sums.{sum_by_push, count_by-le-length}
use Rattle.std.proofs.lemmas.Option.{slice_get_within}
use Rattle.std.proofs.lemmas.List.{length-map}
use Rattle.criteria_model.specs.declared.pairs.Pair.{Pair}
use Rattle.criteria_model.specs.declared.pairs.Answer.{Answer}
use Rattle.criteria_model.specs.declared.pairs.Side.{Side}
use Rattle.farkas_check.specs.declared.combination.Combination.{Combination}
use Rattle.answer_rows.specs.Room.{AnswersWithRoom, room_of}
use Rattle.pair_enumeration.specs.Listed.{Listed}
use Rattle.survey_core.specs.declared.events.Event.{Event}
use Rattle.survey_core.specs.declared.events.Event.TheVariants.{Eliminate, Issue, Commit, Close, Withdraw}
use Rattle.std.specs.declared.snapshot.Snapshot.{Snapshot}
use Rattle.survey_core.specs.Recorded.{Recorded}
use Rattle.survey_core.specs.declared.marks.Ranking.{Ranking}
use Rattle.survey_core.specs.declared.marks.Ranking.TheVariants.{Unranked, Eliminated, Committed as CommittedBy}
use Rattle.survey_core.specs.declared.marks.Ending.{Ending}
use Rattle.survey_core.specs.declared.marks.Ending.TheVariants.{Open, Committed, Closed}
use Rattle.survey_core.specs.declared.marks.Mark.{Mark}
use Rattle.survey_core.specs.declared.marks.Question.{Question}
use Rattle.survey_core.specs.Kinds.{is_withdraw}
use Rattle.survey_core.specs.Histories.{item_at, standing, issued, is_issued, place_of, class_at, class_of, committed, commits_class, ends, is_unended, IsOpenQuestion, is_eliminated, is_committed, is_ranked, withdrawals}
use Rattle.survey_core.specs.Legal.{IsEvent, IsPlace, MayFollow, IsLegal, most_events}
use Rattle.survey_core.specs.declared.limits.TheConstants.{MAX_EVENTS}
use Rattle.survey_core.proofs.NamedParts.{MayEliminate, MayIssue, MayCommit, MayClose, MayWithdraw, HasParts, named, unnamed}
use Rattle.survey_core.specs.Marked.{greatest_cited, Table, numbered, is_ranking, is_open, is_ranked_mark, is_open_mark, is_number_up_to, is_answer_up_to, with_ranking, with_issued, with_ending, left_mark, left_question, IsTableOf, KeepsHistory}
use Rattle.survey_core.proofs.ListSteps.{Each, slice_get_inside, slice_get-push, take_whole, filtered_range, at_some}
use Rattle.survey_core.proofs.StandingLemmas.{standing-push}
use Rattle.survey_core.proofs.SoundLemmas.{IsSoundAt, IsSound, sound_history, committed-push, committed-issue, committed-withdraw}
use Rattle.survey_core.proofs.TableLemmas.{count_set, count_less, one_if, ranked_same, issued_same, ended_same}
use Rattle.survey_core.proofs.KeptLemmas.{ranked_at, found_at, unended_at, place_at, or_either, or_left, or_right}
use Rattle.survey_core.proofs.ReadLemmas.{map_some, mark_at, asks_at, issued_len}
use Rattle.row_laws.proofs.ItemLemmas.{item_of, item_found, item_positive}
use Rattle.survey_core.proofs.NextTables.{table_eliminate, table_issue, table_commit, table_close, table_withdraw}

-- ---- legal histories
pub legal_push : (listed : Listed) (history : List Event) (event : Event) → IsLegal listed history → IsEvent listed.criteria.levels event
    → MayFollow listed history event → IsLegal listed (history ++ event ∷ [])
legal_push listed history event legal is may k other at =
    let Fits : List Event → Event → Type 0 = λ before e. IsEvent listed.criteria.levels e × MayFollow listed before e in
    elim (slice_get-push history event k other at) [
      | inl found ↦
          (let within : k < length history = slice_get_within history k other found in
          let before : take k history ≡ take k (history ++ event ∷ []) = sym (take-append-le k history (event ∷ []) (omega arith)) in
          subst (λ (l : List Event). Fits l other) before (legal k other found))
      | inr last ↦
          (let before : history ≡ take k (history ++ event ∷ []) =
          sym (take-append-le k history (event ∷ []) (omega (arith, last.0)) ∙ take_whole k history (omega (arith, last.0))) in
          subst (λ (l : List Event). Fits l other) before (subst (λ (e : Event). Fits history e) last.1 (is, may)))
    ]

-- ---- the class of an open question has no Commit
commits_question : (listed : Listed) (history : List Event) → IsSound listed history → (question place : ℕ) → 1 ≤ question
    → place_of (issued history) question ≡ Some place → (before : ℕ) (events : List Event)
    → Each (λ e. IsSoundAt listed (issued history) (committed listed.classes history) e.level e.event) (numbered before events)
    → list_any (commits_class (issued history) place) events ≡ true → list_any (ends question) events ≡ true
commits_question listed history sound question place low asks before [] each some = absurd (let both : false ≡ true = some in cc)
commits_question listed history sound question place low asks before (Eliminate worker other verdict combination ∷ later) each some =
    commits_question listed history sound question place low asks (before + 0) later each.1 some
commits_question listed history sound question place low asks before (Issue desk other plus minus ∷ later) each some =
    commits_question listed history sound question place low asks (before + 0) later each.1 some
commits_question listed history sound question place low asks before (Commit desk other side plus minus point ∷ later) each some =
    elim (or_either (option_map_or (λ p. p == place) (place_of (issued history) other) false) (list_any (commits_class (issued history) place) later) some) [
      | inl here ↦
          (let test : (each.0.place == place) ≡ true = subst (λ (o : Option ℕ). option_map_or (λ p. p == place) o false ≡ true) each.0.asks here in
          let same_place : Some each.0.place ≡ Some place = ap Some (eqb-true each.0.place place test) in
          let same_index : other - 1 ≡ question - 1 =
          sound.once (other - 1) (question - 1) place (item_found (issued history) other place (each.0.asks ∙ same_place)) (item_found (issued history) question place asks) in
          let same : other ≡ question = omega (arith, same_index, each.0.question_from_one) in
          or_left (ends question (Commit desk other side plus minus point)) (list_any (ends question) later)
          (or_left (other == question) false (eq-eqb other question same)))
      | inr there ↦
          or_right (ends question (Commit desk other side plus minus point)) (list_any (ends question) later)
          (commits_question listed history sound question place low asks (before + 1) later each.1 there)
    ]
commits_question listed history sound question place low asks before (Close desk other ∷ later) each some =
    or_right (ends question (Close desk other)) (list_any (ends question) later)
    (commits_question listed history sound question place low asks (before + 0) later each.1 some)
commits_question listed history sound question place low asks before (Withdraw desk answer ∷ later) each some =
    commits_question listed history sound question place low asks (before + 0) later each.1 some

not_true : (b : Bool) → (b ≡ true → ⊥) → b ≡ false
not_true true h = absurd (h refl)
not_true false h = refl

not_and_is : (b : Bool) → not b ≡ true → b ≡ true → ⊥
not_and_is true h is = let both : false ≡ true = h in cc
not_and_is false h is = let both : false ≡ true = is in cc

pub open_uncommitted : (listed : Listed) (history : List Event) → IsSound listed history → (question place : ℕ) → IsOpenQuestion history question
    → place_of (issued history) question ≡ Some place → is_committed history place ≡ false
open_uncommitted listed history sound question place is asks =
    let found : (1 ≤ question) × (question < 1 + length (issued history)) × (is_unended history question ≡ true) =
    filtered_range (is_unended history) 1 (length (issued history)) question is in
    not_true (is_committed history place)
    (λ some.
    let ended : list_any (ends question) (standing history) ≡ true =
    commits_question listed history sound question place found.0 asks 0 (standing history) sound.each some in
    not_and_is (list_any (ends question) (standing history)) found.2 ended)

unranked_by : (ranking : Ranking) → is_ranking ranking ≡ false → ranking ≡ Unranked
unranked_by Unranked h = refl
unranked_by (Eliminated level) h = absurd (let both : true ≡ false = h in cc)
unranked_by (CommittedBy level) h = absurd (let both : true ≡ false = h in cc)

open_by : (ending : Ending) → is_open ending ≡ true → ending ≡ Open
open_by Open h = refl
open_by (Committed level) h = absurd (let both : false ≡ true = h in cc)
open_by (Closed level) h = absurd (let both : false ≡ true = h in cc)

module _ (listed : Listed) (history : List Event) (answers : AnswersWithRoom) (table : Table) (withdrawn room : ℕ)
    (kept : KeepsHistory listed history answers table withdrawn room) where
  sound : IsSound listed history
  sound = sound_history listed history kept.legal

  table_now : IsTableOf listed history (length (committed listed.classes history)) table
  table_now = subst (λ (l : List Answer). IsTableOf listed history (length l) table) kept.answered kept.table_of

  answers_len : length answers.answers ≡ length (committed listed.classes history)
  answers_len = ap (λ (l : List Answer). length l) kept.answered

  classes_len : length table.classes ≡ length listed.classes
  classes_len = kept.table_of.len

  -- each question is of a class of its own
  few_questions : length table.questions ≤ length table.classes
  few_questions = omega (arith, kept.table_of.asked_count, count_by-le-length (λ m. m.issued) table.classes)

  mark_found : (place : ℕ) → IsPlace listed place → (mark : Mark) × (slice_get table.classes (place - 1) ≡ Some mark)
  mark_found place is = found_at listed history answers table withdrawn room kept place is

  pub unranked_mark : (place : ℕ) (mark : Mark) → IsPlace listed place → is_ranked history place ≡ false → slice_get table.classes (place - 1) ≡ Some mark
      → mark.ranking ≡ Unranked
  unranked_mark place mark is no_ at =
      unranked_by mark.ranking (sym (ranked_at listed history answers table withdrawn room kept place mark is.0 at) ∙ no_)

  pub unissued_mark : (place : ℕ) (mark : Mark) → IsPlace listed place → is_issued history place ≡ false → slice_get table.classes (place - 1) ≡ Some mark
      → mark.issued ≡ false
  unissued_mark place mark is no_ at = sym (mark_at kept.table_of place mark is.0 at).asked ∙ no_

  -- ---- open questions
  pub asked_within : (number : ℕ) → IsOpenQuestion history number → (1 ≤ number) × (number ≤ length table.questions)
  asked_within number is =
      let found : (1 ≤ number) × (number < 1 + length (issued history)) × (is_unended history number ≡ true) =
      filtered_range (is_unended history) 1 (length (issued history)) number is in
      (found.0, omega (arith, found.1, issued_len kept.table_of))

  pub open_mark : (number : ℕ) (question : Question) → IsOpenQuestion history number → slice_get table.questions (number - 1) ≡ Some question
      → question.ending ≡ Open
  open_mark number question is at =
      let found : (1 ≤ number) × (number < 1 + length (issued history)) × (is_unended history number ≡ true) =
      filtered_range (is_unended history) 1 (length (issued history)) number is in
      open_by question.ending (sym (unended_at listed history answers table withdrawn room kept number question found.0 at) ∙ found.2)

  -- the class of a question that may be committed is not ranked
  pub commit_unranked : (number : ℕ) (side : Side) (plus minus point : List ℤ) (question : Question) → MayCommit listed history number side plus minus point
      → slice_get table.questions (number - 1) ≡ Some question → is_ranked history question.place ≡ false
  commit_unranked number side plus minus point question may at =
      let found : (1 ≤ number) × (number < 1 + length (issued history)) × (is_unended history number ≡ true) =
      filtered_range (is_unended history) 1 (length (issued history)) number may.open_question in
      let asks : place_of (issued history) number ≡ Some question.place = asks_at kept.table_of number question found.0 at in
      let eliminated : is_eliminated history question.place ≡ false =
      at_some (place_of (issued history) number) (λ place. is_eliminated history place ≡ false) question.place asks may.uneliminated in
      ap (λ b. b || is_committed history question.place) eliminated ∙ open_uncommitted listed history sound number question.place may.open_question asks

  -- ---- one more event
  abbrev KeepsWith : Event → AnswersWithRoom → Table → ℕ → Type 0
  KeepsWith event after new more = KeepsHistory listed (history ++ event ∷ []) after new more room

  kept_by : (event : Event) (after : AnswersWithRoom) (new : Table) → IsEvent listed.criteria.levels event → HasParts listed history event
      → is_withdraw event ≡ false → after.answers ≡ committed listed.classes (history ++ event ∷ []) → room_of after ≡ room_of answers
      → IsTableOf listed (history ++ event ∷ []) (length after.answers) new
      → 1 + count_by is_open_mark new.questions + length after.answers + 2 * length table.questions + count_by is_ranked_mark table.classes
      ≤ count_by is_open_mark table.questions + length answers.answers + 2 * length new.questions + count_by is_ranked_mark new.classes
      → KeepsWith event after new withdrawn
  kept_by event after new is may stays answered same_room table_of short =
      let made : withdrawals (history ++ event ∷ []) ≡ withdrawals history + cond (is_withdraw event) 1 0 =
      sum_by_push (λ e. cond (is_withdraw e) 1 0) history event in
      record {
        model = kept.model;
        legal = legal_push listed history event kept.legal is (unnamed listed history event may);
        answered = answered;
        room_for_answers = omega (arith, kept.room_for_answers, same_room);
        table_of = table_of;
        withdrawals_made = omega (arith, kept.withdrawals_made, made, ap one_if stays);
        unspent = kept.unspent;
        short = omega (arith, kept.short, short, length-append history (event ∷ []));
        room_for_events = kept.room_for_events;
      }

  -- the number of ranked classes after one more is ranked
  ranked_more : (place : ℕ) (mark : Mark) (ranking : Ranking) → slice_get table.classes (place - 1) ≡ Some mark → mark.ranking ≡ Unranked → is_ranking ranking ≡ true
      → count_by is_ranked_mark (slice_set table.classes (place - 1) (record { ranking = ranking; issued = mark.issued })) ≡ count_by is_ranked_mark table.classes + 1
  ranked_more place mark ranking at before busy =
      omega (
        arith,
        count_set is_ranked_mark table.classes (place - 1) mark (record { ranking = ranking; issued = mark.issued }) at,
        ap (λ (r : Ranking). one_if (is_ranking r)) before,
        ap one_if busy,
      )

  -- the number of open questions after one of them is ended
  open_less : (number : ℕ) (question : Question) (ending : Ending) → slice_get table.questions (number - 1) ≡ Some question → question.ending ≡ Open → is_open ending ≡ false
      → count_by is_open_mark (slice_set table.questions (number - 1) (record { place = question.place; ending = ending })) + 1 ≡ count_by is_open_mark table.questions
  open_less number question ending at before ended =
      omega (
        arith,
        count_set is_open_mark table.questions (number - 1) question (record { place = question.place; ending = ending }) at,
        ap (λ (e : Ending). one_if (is_open e)) before,
        ap one_if ended,
      )

  pub kept_eliminate : (worker place : ℕ) (verdict : Side) (combination : Combination) → IsEvent listed.criteria.levels (Eliminate worker place verdict combination)
      → MayEliminate listed history place verdict combination
      → KeepsWith (Eliminate worker place verdict combination) answers
      (record { classes = with_ranking table.classes (place - 1) (Eliminated (greatest_cited combination.answers)); questions = table.questions }) withdrawn
  kept_eliminate worker place verdict combination is may =
      let event : Event = Eliminate worker place verdict combination in
      let found : (mark : Mark) × (slice_get table.classes (place - 1) ≡ Some mark) = mark_found place may.class in
      let mark : Mark = found.0 in
      let ranking : Ranking = Eliminated (greatest_cited combination.answers) in
      let before : mark.ranking ≡ Unranked = unranked_mark place mark may.class may.unranked found.1 in
      let classes : List Mark = slice_set table.classes (place - 1) (record { ranking = ranking; issued = mark.issued }) in
      let same : committed listed.classes (history ++ event ∷ []) ≡ committed listed.classes history =
      committed-push listed history sound event refl (standing-push history event) ∙ append-nil (committed listed.classes history) in
      subst (λ (l : List Mark). KeepsWith event answers (record { classes = l; questions = table.questions }) withdrawn) (ranked_same table.classes (place - 1) ranking mark found.1)
      (kept_by event answers (record { classes = classes; questions = table.questions }) is may refl (kept.answered ∙ sym same) refl
      (subst (λ (n : ℕ). IsTableOf listed (history ++ event ∷ []) n (record { classes = classes; questions = table.questions })) (sym answers_len)
      (table_eliminate listed history sound table table_now worker place verdict combination mark may.class.0 found.1 before))
      (omega (arith, ranked_more place mark ranking found.1 before refl)))

  pub kept_issue : (desk place : ℕ) (plus minus : List ℤ) → IsEvent listed.criteria.levels (Issue desk place plus minus) → MayIssue listed history place plus minus
      → KeepsWith (Issue desk place plus minus) answers
      (record { classes = with_issued table.classes (place - 1); questions = table.questions ++ record { place = place; ending = Open } ∷ [] }) withdrawn
  kept_issue desk place plus minus is may =
      let event : Event = Issue desk place plus minus in
      let question : Question = record { place = place; ending = Open } in
      let questions : List Question = table.questions ++ question ∷ [] in
      let found : (mark : Mark) × (slice_get table.classes (place - 1) ≡ Some mark) = mark_found place may.class in
      let mark : Mark = found.0 in
      let to : Mark = record { ranking = mark.ranking; issued = true } in
      let before : mark.issued ≡ false = unissued_mark place mark may.class may.unasked found.1 in
      let classes : List Mark = slice_set table.classes (place - 1) to in
      let same : committed listed.classes (history ++ event ∷ []) ≡ committed listed.classes history = committed-issue listed history sound desk place plus minus in
      let opened : count_by is_open_mark questions ≡ count_by is_open_mark table.questions + 1 = sum_by_push (λ q. cond (is_open_mark q) 1 0) table.questions question in
      let ranked : count_by is_ranked_mark classes + cond (is_ranked_mark mark) 1 0 ≡ count_by is_ranked_mark table.classes + cond (is_ranked_mark mark) 1 0 =
      count_set is_ranked_mark table.classes (place - 1) mark to found.1 in
      subst (λ (l : List Mark). KeepsWith event answers (record { classes = l; questions = questions }) withdrawn) (issued_same table.classes (place - 1) mark found.1)
      (kept_by event answers (record { classes = classes; questions = questions }) is may refl (kept.answered ∙ sym same) refl
      (subst (λ (n : ℕ). IsTableOf listed (history ++ event ∷ []) n (record { classes = classes; questions = questions })) (sym answers_len)
      (table_issue listed history sound table table_now desk place plus minus mark may.class.0 found.1 before))
      (omega (arith, opened, ranked, length-append table.questions (question ∷ []))))

  pub kept_commit : (desk number : ℕ) (side : Side) (plus minus point : List ℤ) (question : Question) (pair : Pair) (after : AnswersWithRoom)
      → IsEvent listed.criteria.levels (Commit desk number side plus minus point) → MayCommit listed history number side plus minus point
      → slice_get table.questions (number - 1) ≡ Some question → class_at listed.classes question.place ≡ Some pair
      → after.answers ≡ answers.answers ++ record { pair = pair; side = side } ∷ [] → room_of after ≡ room_of answers
      → KeepsWith (Commit desk number side plus minus point) after
      (record {
        classes = with_ranking table.classes (question.place - 1) (CommittedBy (length answers.answers + 1));
        questions = with_ending table.questions (number - 1) (Committed (length answers.answers + 1));
      }) withdrawn
  kept_commit desk number side plus minus point question pair after is may asks class pushed same_room =
      let event : Event = Commit desk number side plus minus point in
      let place : ℕ = question.place in
      let given : Answer = record { pair = pair; side = side } in
      let level : ℕ = length answers.answers + 1 in
      let here : IsPlace listed place = place_at listed history answers table withdrawn room kept number question (asked_within number may.open_question).0 asks in
      let found : (mark : Mark) × (slice_get table.classes (place - 1) ≡ Some mark) = mark_found place here in
      let mark : Mark = found.0 in
      let before : mark.ranking ≡ Unranked = unranked_mark place mark here (commit_unranked number side plus minus point question may asks) found.1 in
      let open_before : question.ending ≡ Open = open_mark number question may.open_question asks in
      let within : (1 ≤ number) × (number ≤ length table.questions) = asked_within number may.open_question in
      let to : Mark = record { ranking = CommittedBy level; issued = mark.issued } in
      let gone : Question = record { place = place; ending = Committed level } in
      let classes : List Mark = slice_set table.classes (place - 1) to in
      let questions : List Question = slice_set table.questions (number - 1) gone in
      let asks_place : place_of (issued history) number ≡ Some place = asks_at kept.table_of number question within.0 asks in
      let asks_pair : class_of listed.classes (issued history) number ≡ Some pair =
      ap (λ (o : Option ℕ). option_and_then (class_at listed.classes) o) asks_place ∙ class in
      let same : committed listed.classes (history ++ event ∷ []) ≡ committed listed.classes history ++ given ∷ [] =
      committed-push listed history sound event refl (standing-push history event)
      ∙ ap (λ (o : Option Pair). committed listed.classes history ++ cons_option (option_map (λ p. record { pair = p; side = side }) o) []) asks_pair in
      let more : length after.answers ≡ length answers.answers + 1 = ap (λ (l : List Answer). length l) pushed ∙ length-append answers.answers (given ∷ []) in
      subst (λ (l : List Mark). KeepsWith event after (record { classes = l; questions = with_ending table.questions (number - 1) (Committed level) }) withdrawn)
      (ranked_same table.classes (place - 1) (CommittedBy level) mark found.1)
      (subst (λ (l : List Question). KeepsWith event after (record { classes = classes; questions = l }) withdrawn) (ended_same table.questions (number - 1) (Committed level) question asks)
      (kept_by event after (record { classes = classes; questions = questions }) is may refl
      (pushed ∙ ap (λ (l : List Answer). l ++ given ∷ []) kept.answered ∙ sym same) same_room
      (subst (λ (n : ℕ). IsTableOf listed (history ++ event ∷ []) n (record { classes = classes; questions = questions })) (sym more)
      (subst (λ (n : ℕ). IsTableOf listed (history ++ event ∷ []) (n + 1) (record {
        classes = slice_set table.classes (place - 1) (record { ranking = CommittedBy (n + 1); issued = mark.issued });
        questions = slice_set table.questions (number - 1) (record { place = place; ending = Committed (n + 1) });
      })) (sym answers_len)
      (table_commit listed history sound table table_now desk number side plus minus point mark question within.0 here.0 asks open_before found.1 before)))
      (omega (
        arith,
        ranked_more place mark (CommittedBy level) found.1 before refl,
        open_less number question (Committed level) asks open_before refl,
        more,
        length-set table.questions (number - 1) gone,
      ))))

  pub kept_close : (desk number : ℕ) → IsEvent listed.criteria.levels (Close desk number) → MayClose history number
      → KeepsWith (Close desk number) answers
      (record { classes = table.classes; questions = with_ending table.questions (number - 1) (Closed (length answers.answers)) }) withdrawn
  kept_close desk number is may =
      let event : Event = Close desk number in
      let level : ℕ = length answers.answers in
      let within : (1 ≤ number) × (number ≤ length table.questions) = asked_within number may.open_question in
      let found : (question : Question) × (slice_get table.questions (number - 1) ≡ Some question) = slice_get_inside table.questions (number - 1) (omega (arith, within.0, within.1)) in
      let question : Question = found.0 in
      let open_before : question.ending ≡ Open = open_mark number question may.open_question found.1 in
      let gone : Question = record { place = question.place; ending = Closed level } in
      let questions : List Question = slice_set table.questions (number - 1) gone in
      let same : committed listed.classes (history ++ event ∷ []) ≡ committed listed.classes history =
      committed-push listed history sound event refl (standing-push history event) ∙ append-nil (committed listed.classes history) in
      subst (λ (l : List Question). KeepsWith event answers (record { classes = table.classes; questions = l }) withdrawn)
      (ended_same table.questions (number - 1) (Closed level) question found.1)
      (kept_by event answers (record { classes = table.classes; questions = questions }) is may refl (kept.answered ∙ sym same) refl
      (subst (λ (n : ℕ). IsTableOf listed (history ++ event ∷ []) n
      (record { classes = table.classes; questions = slice_set table.questions (number - 1) (record { place = question.place; ending = Closed n }) })) (sym answers_len)
      (table_close listed history sound table table_now desk number question within.0 found.1 open_before))
      (omega (arith, open_less number question (Closed level) found.1 open_before refl, length-set table.questions (number - 1) gone)))

  pub kept_withdraw : (desk n : ℕ) (after : AnswersWithRoom) → IsEvent listed.criteria.levels (Withdraw desk n) → MayWithdraw listed history n
      → after.answers ≡ take (n - 1) answers.answers → room_of after ≡ room_of answers
      → KeepsWith (Withdraw desk n) after (record { classes = map (left_mark n) table.classes; questions = map (left_question n) table.questions }) (withdrawn + 1)
  kept_withdraw desk n after is may cut same_room =
      let event : Event = Withdraw desk n in
      let classes : List Mark = map (left_mark n) table.classes in
      let questions : List Question = map (left_question n) table.questions in
      let c : ℕ = length listed.classes in
      let last : n ≡ length answers.answers = omega (arith, may.last_answer.1, answers_len) in
      let same : committed listed.classes (history ++ event ∷ []) ≡ take (length (committed listed.classes history) - 1) (committed listed.classes history) =
      committed-withdraw listed history sound desk n may.last_answer.1 in
      let less : length after.answers ≡ length answers.answers - 1 =
      ap (λ (l : List Answer). length l) cut ∙ length-take (n - 1) answers.answers ∙ omega (arith, last) in
      let made : withdrawals (history ++ event ∷ []) ≡ withdrawals history + 1 = sum_by_push (λ e. cond (is_withdraw e) 1 0) history event in
      let spend : most_events c (withdrawn + 1) ≤ MAX_EVENTS =
      subst (λ (w : ℕ). most_events c (w + 1) ≤ MAX_EVENTS) (sym kept.withdrawals_made) may.unspent in
      let few_open : count_by is_open_mark questions ≤ length table.questions =
      omega (arith, count_by-le-length is_open_mark questions, length-map table.questions (left_question n)) in
      record {
        model = kept.model;
        legal = legal_push listed history event kept.legal is (unnamed listed history event may);
        answered =
            cut ∙ ap (λ (k : ℕ). take k answers.answers) (omega (arith, may.last_answer.1))
            ∙ ap (λ (l : List Answer). take (length (committed listed.classes history) - 1) l) kept.answered ∙ sym same;
        room_for_answers = omega (arith, kept.room_for_answers, same_room);
        table_of =
            subst (λ (k : ℕ). IsTableOf listed (history ++ event ∷ []) k (record { classes = classes; questions = questions })) (omega (arith, less, answers_len))
            (table_withdraw listed history sound table table_now desk n may.last_answer.0 may.last_answer.1);
        withdrawals_made = omega (arith, kept.withdrawals_made, made);
        unspent = spend;
        short =
            omega (
              arith,
              kept.short,
              less,
              last,
              may.last_answer.0,
              few_open,
              few_questions,
              classes_len,
              count_by-le-length is_ranked_mark table.classes,
              length-append history (event ∷ []),
              length-map table.questions (left_question n),
              add-mul withdrawn 1 (2 * c + 1),
            );
        room_for_events = kept.room_for_events;
      }

  -- ---- room
  -- an answer may be given to an unranked class
  pub room_for_answer : (place : ℕ) (mark : Mark) → slice_get table.classes (place - 1) ≡ Some mark → mark.ranking ≡ Unranked → 1 ≤ answers.spare
  room_for_answer place mark at before =
      let most : ℕ = length answers.answers in
      omega (
        arith,
        count_less (is_answer_up_to most) table.classes (place - 1) mark at (ap (is_number_up_to most) before),
        kept.table_of.answer_count most,
        classes_len,
        kept.room_for_answers,
      )

  -- an event has room where less than all is done
  length_less : 2 * length table.questions + count_by is_ranked_mark table.classes + 1
      ≤ 3 * length listed.classes + count_by is_open_mark table.questions + length answers.answers → length history < MAX_EVENTS
  length_less left =
      let c : ℕ = length listed.classes in
      omega (arith, kept.short, kept.unspent, left, mul-add withdrawn (2 * c) 1, mul_comm withdrawn (2 * c))

  open_some : (number : ℕ) (question : Question) → slice_get table.questions (number - 1) ≡ Some question → question.ending ≡ Open
      → 1 ≤ count_by is_open_mark table.questions
  open_some number question at before = omega (arith, open_less number question (Closed 0) at before refl)

  pub question_found : (number : ℕ) → IsOpenQuestion history number → (question : Question) × (slice_get table.questions (number - 1) ≡ Some question)
  question_found number is =
      let within : (1 ≤ number) × (number ≤ length table.questions) = asked_within number is in
      slice_get_inside table.questions (number - 1) (omega (arith, within.0, within.1))

  length_open : (number : ℕ) → IsOpenQuestion history number → length history < MAX_EVENTS
  length_open number is =
      let found : (question : Question) × (slice_get table.questions (number - 1) ≡ Some question) = question_found number is in
      length_less (omega (
        arith,
        open_some number found.0 found.1 (open_mark number found.0 is found.1),
        few_questions,
        classes_len,
        count_by-le-length is_ranked_mark table.classes,
      ))

  -- there is room for what may follow
  pub room_next : (event : Event) → HasParts listed history event → length history < MAX_EVENTS
  room_next (Eliminate worker place verdict combination) may =
      let found : (mark : Mark) × (slice_get table.classes (place - 1) ≡ Some mark) = mark_found place may.class in
      let before : found.0.ranking ≡ Unranked = unranked_mark place found.0 may.class may.unranked found.1 in
      length_less (omega (arith, count_less is_ranked_mark table.classes (place - 1) found.0 found.1 (ap is_ranking before), few_questions, classes_len))
  room_next (Issue desk place plus minus) may =
      let found : (mark : Mark) × (slice_get table.classes (place - 1) ≡ Some mark) = mark_found place may.class in
      let before : found.0.issued ≡ false = unissued_mark place found.0 may.class may.unasked found.1 in
      length_less (omega (
        arith,
        count_less (λ m. m.issued) table.classes (place - 1) found.0 found.1 before,
        kept.table_of.asked_count,
        classes_len,
        count_by-le-length is_ranked_mark table.classes,
      ))
  room_next (Commit desk question side plus minus point) may = length_open question may.open_question
  room_next (Close desk question) may = length_open question may.open_question
  room_next (Withdraw desk answer) may =
      length_less (omega (
        arith,
        may.last_answer.0,
        may.last_answer.1,
        answers_len,
        few_questions,
        classes_len,
        count_by-le-length is_ranked_mark table.classes,
      ))

  -- ---- the class of a question that may be committed, by its place
  abbrev pub AsksPlace : ℕ → ℕ → Type 0
  AsksPlace number place = option_map (λ (q : Question). q.place) (item_at table.questions number) ≡ Some place

  record Asking (number place : ℕ) : Type 0 where
    question : Question
    low : 1 ≤ number
    found : slice_get table.questions (number - 1) ≡ Some question
    asked : question.place ≡ place

  asking : (number place : ℕ) → AsksPlace number place → Asking number place
  asking number place asks =
      let found : (question : Question) × (item_at table.questions number ≡ Some question) × (question.place ≡ place) =
      map_some (λ (q : Question). q.place) (item_at table.questions number) place asks in
      record {
        question = found.0;
        low = item_positive table.questions number found.0 found.1;
        found = item_found table.questions number found.0 found.1;
        asked = found.2;
      }

  pub asks_question : (number : ℕ) (question : Question) → 1 ≤ number → slice_get table.questions (number - 1) ≡ Some question
      → AsksPlace number question.place
  asks_question number question low at =
      ap (λ (o : Option Question). option_map (λ (q : Question). q.place) o) (item_of table.questions number question low at)

  pub asked_class : (number place : ℕ) → AsksPlace number place → IsPlace listed place
  asked_class number place asks =
      let found : Asking number place = asking number place asks in
      subst (λ (n : ℕ). IsPlace listed n) found.asked
      (place_at listed history answers table withdrawn room kept number found.question found.low found.found)

  pub asked_within_marks : (number place : ℕ) → AsksPlace number place → place ≤ length table.classes
  asked_within_marks number place asks = omega (arith, (asked_class number place asks).1, classes_len)

  pub asked_unranked : (number : ℕ) (side : Side) (plus minus point : List ℤ) (place : ℕ) (mark : Mark) → MayCommit listed history number side plus minus point
      → AsksPlace number place → slice_get table.classes (place - 1) ≡ Some mark → mark.ranking ≡ Unranked
  asked_unranked number side plus minus point place mark may asks at =
      let found : Asking number place = asking number place asks in
      unranked_mark place mark (asked_class number place asks)
      (ap (λ n. is_ranked history n) (sym found.asked) ∙ commit_unranked number side plus minus point found.question may found.found) at

  pub commit_room : (number : ℕ) (side : Side) (plus minus point : List ℤ) (place : ℕ) → MayCommit listed history number side plus minus point
      → AsksPlace number place → 1 ≤ answers.spare
  commit_room number side plus minus point place may asks =
      let found : (mark : Mark) × (slice_get table.classes (place - 1) ≡ Some mark) = mark_found place (asked_class number place asks) in
      room_for_answer place found.0 found.1 (asked_unranked number side plus minus point place found.0 may asks found.1)

  pub kept_commit_at : (desk number : ℕ) (side : Side) (plus minus point : List ℤ) (place level : ℕ) (pair : Pair) (after : AnswersWithRoom)
      → IsEvent listed.criteria.levels (Commit desk number side plus minus point) → MayCommit listed history number side plus minus point
      → AsksPlace number place → level ≡ length answers.answers → class_at listed.classes place ≡ Some pair
      → after.answers ≡ answers.answers ++ record { pair = pair; side = side } ∷ [] → room_of after ≡ room_of answers
      → KeepsWith (Commit desk number side plus minus point) after (record {
        classes = with_ranking table.classes (place - 1) (CommittedBy (level + 1));
        questions = with_ending table.questions (number - 1) (Committed (level + 1));
      }) withdrawn
  kept_commit_at desk number side plus minus point place level pair after is may asks count class pushed same_room =
      let found : Asking number place = asking number place asks in
      let here : class_at listed.classes found.question.place ≡ Some pair = subst (λ (n : ℕ). class_at listed.classes n ≡ Some pair) (sym found.asked) class in
      subst (λ (k : ℕ). KeepsWith (Commit desk number side plus minus point) after (record {
        classes = with_ranking table.classes (place - 1) (CommittedBy (k + 1));
        questions = with_ending table.questions (number - 1) (Committed (k + 1));
      }) withdrawn) (sym count)
      (subst (λ (n : ℕ). KeepsWith (Commit desk number side plus minus point) after (record {
        classes = with_ranking table.classes (n - 1) (CommittedBy (length answers.answers + 1));
        questions = with_ending table.questions (number - 1) (Committed (length answers.answers + 1));
      }) withdrawn) found.asked (kept_commit desk number side plus minus point found.question pair after is may found.found here pushed same_room))

-- ---- as the code has it
pub may_in : {r now : Recorded} {event arm : Event} → r ≡ now → event ≡ arm → MayFollow now.listed now.history event → HasParts r.listed r.history arm
may_in {r} {now} {event} {arm} view is may =
    subst (λ (e : Event). HasParts r.listed r.history e) is
    (subst (λ (q : Recorded). HasParts q.listed q.history event) (sym view) (named now.listed now.history event may))

pub is_in : {r now : Recorded} {event arm : Event} → r ≡ now → event ≡ arm → IsEvent now.listed.criteria.levels event → IsEvent r.listed.criteria.levels arm
is_in {r} {now} {event} {arm} view is fits =
    subst (λ (e : Event). IsEvent r.listed.criteria.levels e) is (subst (λ (q : Recorded). IsEvent q.listed.criteria.levels event) (sym view) fits)

pub pushed_in : (items after : List (Snapshot Event)) (last : Snapshot Event) {event arm : Event} → after ≡ items ++ last ∷ [] → last.value ≡ event → event ≡ arm
    → map (λ e. e.value) after ≡ map (λ e. e.value) items ++ arm ∷ []
pushed_in items after last {event} {arm} pushed value is =
    ap (λ (l : List (Snapshot Event)). map (λ e. e.value) l) pushed ∙ map-append (λ (e : Snapshot Event). e.value) items (last ∷ [])
    ∙ ap (λ (e : Event). map (λ (s : Snapshot Event). s.value) items ++ e ∷ []) (value ∙ is)

pub kept_as : {listed : Listed} {history after : List Event} {answers : AnswersWithRoom} {table new : Table} {withdrawn room more : ℕ}
    → KeepsHistory listed history answers table withdrawn room → after ≡ history → new.classes ≡ table.classes → new.questions ≡ table.questions → more ≡ room
    → KeepsHistory listed after answers new withdrawn more
kept_as {listed} {history} {after} {answers} {table} {new} {withdrawn} {room} {more} kept events classes questions capacity =
    subst (λ (r : ℕ). KeepsHistory listed after answers new withdrawn r) (sym capacity)
    (subst (λ (l : List Event). KeepsHistory listed l answers new withdrawn room) (sym events)
    (subst (λ (l : List Mark). KeepsHistory listed history answers (record { classes = l; questions = new.questions }) withdrawn room) (sym classes)
    (subst (λ (l : List Question). KeepsHistory listed history answers (record { classes = table.classes; questions = l }) withdrawn room) (sym questions) kept)))
