-- What a `Core` could keep of each legal history, and how many events may follow it up to the next Withdraw.
use Rattle.std.proofs.Common.{◌≡◌, ℕ, zero, suc, ◌+◌, ◌-◌, ◌*◌, ◌≤◌, Bool, true, false, cond, List, [], ◌∷◌, ◌++◌, length, take, Option, Some, slice_get, ℤ, append_assoc, length-append, length-take, refl, ap, sym, subst, ◌∙◌, arith}
use Rattle.std.specs.List.{count_by}
use Rattle.std.specs.Option.{option_map_or}
use Rattle.std.proofs.lemmas.List.{length-set, take-append-le}
use Rattle.std.proofs.lemmas.Option.{slice_get_within}
use Rattle.std.proofs.lemmas.List.Sums.{sum_by_push, sum_by-cons, count_by-le-length}
use Rattle.criteria_model.specs.declared.pairs.Pair.{Pair}
use Rattle.criteria_model.specs.declared.pairs.Answer.{Answer}
use Rattle.criteria_model.specs.declared.pairs.Side.{Side}
use Rattle.answer_rows.specs.Room.{AnswersWithRoom}
use Rattle.pair_enumeration.specs.Listed.{Listed, IsListed}
use Rattle.survey_core.specs.declared.events.Event.{Event}
use Rattle.survey_core.specs.declared.events.Event.TheVariants.{Eliminate, Issue, Commit, Close, Withdraw}
use Rattle.survey_core.specs.declared.marks.Ranking.{Ranking}
use Rattle.survey_core.specs.declared.marks.Ranking.TheVariants.{Unranked, Eliminated, Committed as CommittedBy}
use Rattle.survey_core.specs.declared.marks.Ending.{Ending}
use Rattle.survey_core.specs.declared.marks.Ending.TheVariants.{Open, Committed, Closed}
use Rattle.survey_core.specs.declared.marks.Mark.{Mark}
use Rattle.survey_core.specs.declared.marks.Question.{Question}
use Rattle.survey_core.specs.declared.limits.TheConstants.{MAX_EVENTS}
use Rattle.survey_core.specs.Kinds.{is_withdraw}
use Rattle.survey_core.specs.Histories.{committed, withdrawals}
use Rattle.survey_core.specs.Legal.{IsEvent, IsPlace, MayFollow, IsLegal}
use Rattle.survey_core.specs.Marked.{greatest_cited, Table, is_ranking, is_open, is_ranked_mark, is_open_mark, is_number_up_to, is_answer_up_to, with_ranking, with_issued, with_ending, KeepsHistory}
use Rattle.survey_core.proofs.NamedParts.{MayEliminate, MayIssue, MayCommit, MayClose, MayWithdraw, HasParts, named}
use Rattle.survey_core.proofs.ListSteps.{slice_get_inside, take_next, take_whole}
use Rattle.survey_core.proofs.TableLemmas.{count_set, one_if}
use Rattle.survey_core.proofs.KeptLemmas.{few_answers}
use Rattle.survey_core.proofs.NewLemmas.{new_kept}
use Rattle.survey_core.proofs.NextKept.{unranked_mark, open_mark, asked_within, question_found, asks_question, asked_class, asked_unranked, commit_room, kept_eliminate, kept_issue, kept_commit_at, kept_close, kept_withdraw}
use Rattle.row_laws.proofs.ItemLemmas.{item_of, slice_get-append}

-- what a `Core` could keep of a history
pub record Keeps (listed : Listed) (history : List Event) : Type 0 where
  pub answers : AnswersWithRoom
  pub table : Table
  pub withdrawn : ℕ
  pub kept : KeepsHistory listed history answers table withdrawn MAX_EVENTS

-- what was done of all that could be: two for each question, one for each ranked class
abbrev pub done : {listed : Listed} {history : List Event} → Keeps listed history → ℕ
done keeps = 2 * length keeps.table.questions + count_by is_ranked_mark keeps.table.classes

-- what of it is taken back: one for each open question, one for each answer
abbrev pub undone : {listed : Listed} {history : List Event} → Keeps listed history → ℕ
undone keeps = count_by is_open_mark keeps.table.questions + length keeps.answers.answers

-- a history with one more event, which is no Withdraw: more is done
record Next (listed : Listed) (history : List Event) (now : Keeps listed history) (event : Event) : Type 0 where
  keeps : Keeps listed (history ++ event ∷ [])
  more : is_withdraw event ≡ false → 1 + done now + undone keeps ≤ done keeps + undone now

not_both : {X : Type 0} → true ≡ false → X
not_both h = absurd cc

module _ (listed : Listed) (history : List Event) (now : Keeps listed history) where
  mark_in : (place : ℕ) → IsPlace listed place → (mark : Mark) × (slice_get now.table.classes (place - 1) ≡ Some mark)
  mark_in place is = slice_get_inside now.table.classes (place - 1) (omega (arith, is.0, is.1, now.kept.table_of.len))

  ranked_more : (place : ℕ) (mark : Mark) (ranking : Ranking) → slice_get now.table.classes (place - 1) ≡ Some mark → mark.ranking ≡ Unranked
      → is_ranking ranking ≡ true → count_by is_ranked_mark (with_ranking now.table.classes (place - 1) ranking) ≡ count_by is_ranked_mark now.table.classes + 1
  ranked_more place mark ranking at before busy =
      omega (
        arith,
        count_set is_ranked_mark now.table.classes (place - 1) mark
            (record { ranking = ranking; issued = option_map_or (λ m. m.issued) (slice_get now.table.classes (place - 1)) false }) at,
        ap (λ (r : Ranking). one_if (is_ranking r)) before,
        ap one_if busy,
      )

  ranked_same : (place : ℕ) (mark : Mark) → slice_get now.table.classes (place - 1) ≡ Some mark
      → count_by is_ranked_mark (with_issued now.table.classes (place - 1)) ≡ count_by is_ranked_mark now.table.classes
  ranked_same place mark at =
      omega (
        arith,
        count_set is_ranked_mark now.table.classes (place - 1) mark
            (record { ranking = option_map_or (λ m. m.ranking) (slice_get now.table.classes (place - 1)) Unranked; issued = true }) at,
        ap (λ (o : Option Mark). one_if (is_ranking (option_map_or (λ m. m.ranking) o Unranked))) at,
      )

  open_less : (number : ℕ) (question : Question) (ending : Ending) → slice_get now.table.questions (number - 1) ≡ Some question → question.ending ≡ Open
      → is_open ending ≡ false → count_by is_open_mark (with_ending now.table.questions (number - 1) ending) + 1 ≡ count_by is_open_mark now.table.questions
  open_less number question ending at before ended =
      omega (
        arith,
        count_set is_open_mark now.table.questions (number - 1) question
            (record { place = option_map_or (λ q. q.place) (slice_get now.table.questions (number - 1)) 0; ending = ending }) at,
        ap (λ (e : Ending). one_if (is_open e)) before,
        ap one_if ended,
      )

  same_number : (number : ℕ) (ending : Ending) → length (with_ending now.table.questions (number - 1) ending) ≡ length now.table.questions
  same_number number ending =
      length-set now.table.questions (number - 1)
      (record { place = option_map_or (λ q. q.place) (slice_get now.table.questions (number - 1)) 0; ending = ending })

  next_eliminate : (worker place : ℕ) (verdict : Side) (combination : _) → IsEvent listed.criteria.levels (Eliminate worker place verdict combination)
      → MayEliminate listed history place verdict combination → Next listed history now (Eliminate worker place verdict combination)
  next_eliminate worker place verdict combination is may =
      let found : (mark : Mark) × (slice_get now.table.classes (place - 1) ≡ Some mark) = mark_in place may.class in
      let before : found.0.ranking ≡ Unranked = unranked_mark _ _ _ _ _ _ now.kept place found.0 may.class may.unranked found.1 in
      record {
        keeps = record { answers = now.answers; table = _; withdrawn = now.withdrawn; kept = kept_eliminate _ _ _ _ _ _ now.kept worker place verdict combination is may };
        more = λ stays. omega (arith, ranked_more place found.0 (Eliminated (greatest_cited combination.answers)) found.1 before refl);
      }

  next_issue : (desk place : ℕ) (plus minus : List ℤ) → IsEvent listed.criteria.levels (Issue desk place plus minus)
      → MayIssue listed history place plus minus → Next listed history now (Issue desk place plus minus)
  next_issue desk place plus minus is may =
      let found : (mark : Mark) × (slice_get now.table.classes (place - 1) ≡ Some mark) = mark_in place may.class in
      let question : Question = record { place = place; ending = Open } in
      record {
        keeps = record { answers = now.answers; table = _; withdrawn = now.withdrawn; kept = kept_issue _ _ _ _ _ _ now.kept desk place plus minus is may };
        more = λ stays. omega (
          arith,
          ranked_same place found.0 found.1,
          sum_by_push (λ q. cond (is_open_mark q) 1 0) now.table.questions question,
          length-append now.table.questions (question ∷ []),
        );
      }

  next_commit : (desk number : ℕ) (side : Side) (plus minus point : List ℤ) → IsEvent listed.criteria.levels (Commit desk number side plus minus point)
      → MayCommit listed history number side plus minus point → Next listed history now (Commit desk number side plus minus point)
  next_commit desk number side plus minus point is may =
      let found : (question : Question) × (slice_get now.table.questions (number - 1) ≡ Some question) =
      question_found _ _ _ _ _ _ now.kept number may.open_question in
      let place : ℕ = found.0.place in
      let low : 1 ≤ number = (asked_within _ _ _ _ _ _ now.kept number may.open_question).0 in
      let asks = asks_question _ _ _ _ _ _ now.kept number found.0 low found.1 in
      let here : IsPlace listed place = asked_class _ _ _ _ _ _ now.kept number place asks in
      let class : (pair : Pair) × (slice_get listed.classes (place - 1) ≡ Some pair) = slice_get_inside listed.classes (place - 1) (omega (arith, here.0, here.1)) in
      let marked : (mark : Mark) × (slice_get now.table.classes (place - 1) ≡ Some mark) = mark_in place here in
      let before : marked.0.ranking ≡ Unranked = asked_unranked _ _ _ _ _ _ now.kept number side plus minus point place marked.0 may asks marked.1 in
      let open_before : found.0.ending ≡ Open = open_mark _ _ _ _ _ _ now.kept number found.0 may.open_question found.1 in
      let given : Answer = record { pair = class.0; side = side } in
      let count : ℕ = length now.answers.answers in
      let after : AnswersWithRoom = record { answers = now.answers.answers ++ given ∷ []; spare = now.answers.spare - 1 } in
      let spare : 1 ≤ now.answers.spare = commit_room _ _ _ _ _ _ now.kept number side plus minus point place may asks in
      record {
        keeps = record {
          answers = after;
          table = _;
          withdrawn = now.withdrawn;
          kept =
              kept_commit_at _ _ _ _ _ _ now.kept desk number side plus minus point place count class.0 after
              is may asks refl (item_of listed.classes place class.0 here.0 class.1) refl (omega (arith, spare, length-append now.answers.answers (given ∷ [])));
        };
        more = λ stays. omega (
          arith,
          ranked_more place marked.0 (CommittedBy (count + 1)) marked.1 before refl,
          open_less number found.0 (Committed (count + 1)) found.1 open_before refl,
          same_number number (Committed (count + 1)),
          length-append now.answers.answers (given ∷ []),
        );
      }

  next_close : (desk number : ℕ) → IsEvent listed.criteria.levels (Close desk number) → MayClose history number → Next listed history now (Close desk number)
  next_close desk number is may =
      let found : (question : Question) × (slice_get now.table.questions (number - 1) ≡ Some question) =
      question_found _ _ _ _ _ _ now.kept number may.open_question in
      let open_before : found.0.ending ≡ Open = open_mark _ _ _ _ _ _ now.kept number found.0 may.open_question found.1 in
      let ending : Ending = Closed (length now.answers.answers) in
      record {
        keeps = record { answers = now.answers; table = _; withdrawn = now.withdrawn; kept = kept_close _ _ _ _ _ _ now.kept desk number is may };
        more = λ stays. omega (arith, open_less number found.0 ending found.1 open_before refl, same_number number ending);
      }

  next_withdraw : (desk n : ℕ) → IsEvent listed.criteria.levels (Withdraw desk n) → MayWithdraw listed history n → Next listed history now (Withdraw desk n)
  next_withdraw desk n is may =
      let after : AnswersWithRoom = record { answers = take (n - 1) now.answers.answers; spare = now.answers.spare + 1 } in
      let count : n ≡ length now.answers.answers = may.last_answer.1 ∙ ap (λ (l : List Answer). length l) (sym now.kept.answered) in
      record {
        keeps = record {
          answers = after;
          table = _;
          withdrawn = now.withdrawn + 1;
          kept =
              kept_withdraw _ _ _ _ _ _ now.kept desk n after is may refl
              (omega (arith, count, may.last_answer.0, length-take (n - 1) now.answers.answers));
        };
        more = λ stays. not_both stays;
      }

  next : (event : Event) → IsEvent listed.criteria.levels event → HasParts listed history event → Next listed history now event
  next (Eliminate worker place verdict combination) is may = next_eliminate worker place verdict combination is may
  next (Issue desk place plus minus) is may = next_issue desk place plus minus is may
  next (Commit desk question side plus minus point) is may = next_commit desk question side plus minus point is may
  next (Close desk question) is may = next_close desk question is may
  next (Withdraw desk answer) is may = next_withdraw desk answer is may

  -- no more is taken back than was done, and no more is done than could be
  done_within : done now ≤ 3 * length listed.classes + undone now
  done_within =
      omega (
        arith,
        now.kept.table_of.len,
        now.kept.table_of.asked_count,
        count_by-le-length (λ m. m.issued) now.table.classes,
        count_by-le-length is_ranked_mark now.table.classes,
      )

  pub undone_within : undone now ≤ done now
  undone_within =
      omega (
        arith,
        count_by-le-length is_open_mark now.table.questions,
        now.kept.table_of.answer_count (length now.answers.answers),
        fewer now.table.classes,
      )
    where
      number_ranks : (most : ℕ) (ranking : Ranking) → one_if (is_number_up_to most ranking) ≤ one_if (is_ranking ranking)
      number_ranks most Unranked = omega arith
      number_ranks most (Eliminated level) = omega arith
      number_ranks most (CommittedBy level) = elim (is_number_up_to most (CommittedBy level)) as (λ b. one_if b ≤ 1) [ true ↦ omega arith | false ↦ omega arith ]

      fewer : (marks : List Mark) → count_by (is_answer_up_to (length now.answers.answers)) marks ≤ count_by is_ranked_mark marks
      fewer [] = omega arith
      fewer (mark ∷ marks) =
          omega (
            arith,
            sum_by-cons (λ m. cond (is_answer_up_to (length now.answers.answers) m) 1 0) mark marks,
            sum_by-cons (λ m. cond (is_ranked_mark m) 1 0) mark marks,
            number_ranks (length now.answers.answers) mark.ranking,
            fewer marks,
          )

-- a legal history with more events: the next of them may follow
next_of : (listed : Listed) (history : List Event) (event : Event) (more : List Event) → IsLegal listed (history ++ event ∷ more)
    → IsEvent listed.criteria.levels event × MayFollow listed history event
next_of listed history event more legal =
    let at : slice_get (history ++ event ∷ more) (length history) ≡ Some event = item_after history event more in
    let front : take (length history) (history ++ event ∷ more) ≡ history =
    take-append-le (length history) history (event ∷ more) (omega arith) ∙ take_whole (length history) history (omega arith) in
    subst (λ (l : List Event). IsEvent listed.criteria.levels event × MayFollow listed l event) front (legal (length history) event at)
  where
    item_after : (items : List Event) (item : Event) (rest : List Event) → slice_get (items ++ item ∷ rest) (length items) ≡ Some item
    item_after [] item rest = refl
    item_after (x ∷ items) item rest = item_after items item rest

pub one_by_one : (history : List Event) (event : Event) (more : List Event) → history ++ event ∷ more ≡ (history ++ event ∷ []) ++ more
one_by_one history event more = sym (append_assoc history (event ∷ []) more)

-- at most this many events follow up to the next Withdraw
pub follow_within : (listed : Listed) (history more : List Event) (now : Keeps listed history) → IsLegal listed (history ++ more) → withdrawals more ≡ 0
    → length more + done now ≤ 3 * length listed.classes + undone now
follow_within listed history [] now legal none = omega (arith, done_within listed history now)
follow_within listed history (event ∷ more) now legal none =
    let may = next_of listed history event more legal in
    let after : Next listed history now event = next listed history now event may.0 (named listed history event may.1) in
    let counts : withdrawals (event ∷ more) ≡ cond (is_withdraw event) 1 0 + withdrawals more = sum_by-cons (λ e. cond (is_withdraw e) 1 0) event more in
    let stays : is_withdraw event ≡ false = none_first (is_withdraw event) (omega (arith, counts)) in
    let rest = follow_within listed (history ++ event ∷ []) more after.keeps
    (subst (λ (l : List Event). IsLegal listed l) (one_by_one history event more) legal) (omega (arith, counts)) in
    omega (arith, rest, after.more stays)
  where
    none_first : (b : Bool) → one_if b ≡ 0 → b ≡ false
    none_first true h = absurd (omega arith)
    none_first false h = refl

keeps_first : (listed : Listed) (history : List Event) → IsListed listed → IsLegal listed history → (k : ℕ) → k ≤ length history → Keeps listed (take k history)
keeps_first listed history model legal zero within =
    let answers : AnswersWithRoom = record { answers = []; spare = length listed.classes } in
    record {
      answers = answers;
      table = _;
      withdrawn = 0;
      kept = new_kept listed answers MAX_EVENTS model (omega (arith, model.len, model.model.few_classes)) refl (omega arith) (omega arith);
    }
keeps_first listed history model legal (suc k) within =
    let found : (event : Event) × (slice_get history k ≡ Some event) = slice_get_inside history k (omega arith) in
    let before : Keeps listed (take k history) = keeps_first listed history model legal k (omega arith) in
    subst (λ (events : List Event). Keeps listed events) (sym (take_next history k found.0 found.1))
    (next listed (take k history) before found.0 (legal k found.0 found.1).0 (named listed (take k history) found.0 (legal k found.0 found.1).1)).keeps

-- a `Core` could keep each legal history
pub keeps_whole : (listed : Listed) (history : List Event) → IsListed listed → IsLegal listed history → Keeps listed history
keeps_whole listed history model legal =
    subst (λ (events : List Event). Keeps listed events) (take_whole (length history) history (omega arith))
    (keeps_first listed history model legal (length history) (omega arith))

-- a legal history has at most as many answers as classes
pub few_committed : (listed : Listed) (history : List Event) → IsListed listed → IsLegal listed history → length (committed listed.classes history) ≤ length listed.classes
few_committed listed history model legal =
    let now : Keeps listed history = keeps_whole listed history model legal in
    omega (arith, few_answers _ _ _ _ _ _ now.kept, ap (λ (l : List Answer). length l) now.kept.answered)

pub legal_front : (listed : Listed) (history more : List Event) → IsLegal listed (history ++ more) → IsLegal listed history
legal_front listed history more legal k event at =
    subst (λ (before : List Event). IsEvent listed.criteria.levels event × MayFollow listed before event)
    (take-append-le k history more (omega (arith, slice_get_within history k event at))) (legal k event (slice_get-append history more k event at))
