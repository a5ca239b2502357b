-- The plain run that a history comes to, and how it changes with an event.
use Rattle.std.proofs.Common.{ℤ, ◌≡◌, ℕ, ◌+◌, ◌-◌, ◌≤◌, ◌==◌, nat_lt, Bool, true, false, cond, not, ◌||◌, List, [], ◌∷◌, ◌++◌, length, take, map, Option, Some, None, refl, ap, sym, ◌∙◌, arith, append-nil}
use Rattle.std.specs.List.{filter, filter_map, list_any, range_with_len, cons_option}
use Rattle.std.proofs.lemmas.List.Elements.{filter_map-append, filter_agree}
use Rattle.std.proofs.lemmas.List.Sums.{sum_by_push}
use Rattle.criteria_model.specs.declared.pairs.Pair.{Pair}
use Rattle.criteria_model.specs.declared.pairs.Side.{Side}
use Rattle.farkas_check.specs.declared.combination.Combination.{Combination}
use Rattle.pair_enumeration.specs.Listed.{Listed}
use Rattle.survey_core.specs.declared.events.Event.{Event}
use Rattle.survey_core.specs.declared.events.Event.TheVariants.{Eliminate, Issue, Commit, Close, Withdraw}
use Rattle.survey_core.specs.Kinds.{is_withdraw}
use Rattle.survey_core.specs.Histories.{standing, issued, answer_of, committed, ends, is_unended, open_questions, withdrawals}
use Rattle.survey_core.specs.Marked.{Resting, numbered, resting, rests_on}
use Rattle.survey_core.proofs.ListSteps.{Each}
use Rattle.survey_core.proofs.StandingLemmas.{standing-push, issued-push, commit_count, numbered-append, OfCommits, length-filter_map, filter_map-without}
use Rattle.survey_core.proofs.SoundLemmas.{IsSound, issued-same, answers_count, resting-withdraw}
use Rattle.survey_replies.specs.Interview.{interview, answered, answered_question}
use Rattle.survey_replies.specs.PlainRun.{Given, Ended, PlainSurvey, answer_given, is_open_in, plain_interview}
use Rattle.survey_replies.proofs.InterviewLemmas.{count_by-append}

abbrev pub given_by : Event → Option Given
given_by (Commit desk question side plus minus point) = Some (record { question = question; side = side })
given_by _ = None

abbrev pub ended_by : ℕ → Event → Option Ended
ended_by level (Close desk question) = Some (record { question = question; answers = level })
ended_by level _ = None

abbrev pub ended_at : Resting → Option Ended
ended_at e = ended_by e.level e.event

abbrev pub plain_of : List Event → PlainSurvey
plain_of history = record {
  asked = issued history;
  given = filter_map given_by (standing history);
  closed = filter_map ended_at (resting history);
  withdrawals = withdrawals history;
}

-- ---- replies rest on the same
same_answers : (classes : List Pair) (asked : List ℕ) (events : List Event)
    → filter_map (answer_given classes asked) (filter_map given_by events) ≡ filter_map (answer_of classes asked) events
same_answers classes asked [] = refl
same_answers classes asked (Eliminate worker place verdict combination ∷ later) = same_answers classes asked later
same_answers classes asked (Issue desk place plus minus ∷ later) = same_answers classes asked later
same_answers classes asked (Commit desk question side plus minus point ∷ later) =
    ap (λ rest. cons_option (answer_of classes asked (Commit desk question side plus minus point)) rest) (same_answers classes asked later)
same_answers classes asked (Close desk question ∷ later) = same_answers classes asked later
same_answers classes asked (Withdraw desk answer ∷ later) = same_answers classes asked later

same_answered : (events : List Event) → map (λ (given : Given). given.question) (filter_map given_by events) ≡ filter_map answered_question events
same_answered [] = refl
same_answered (Eliminate worker place verdict combination ∷ later) = same_answered later
same_answered (Issue desk place plus minus ∷ later) = same_answered later
same_answered (Commit desk question side plus minus point ∷ later) = ap (λ rest. question ∷ rest) (same_answered later)
same_answered (Close desk question ∷ later) = same_answered later
same_answered (Withdraw desk answer ∷ later) = same_answered later

commit_ends : (c g e x : Bool) → (g || e) ≡ x → ((c || g) || e) ≡ ((c || false) || x)
commit_ends true g e x h = refl
commit_ends false g e x h = h

close_ends : (c g e x : Bool) → (g || e) ≡ x → (g || (c || e)) ≡ ((false || c) || x)
close_ends true true e x h = refl
close_ends true false e x h = refl
close_ends false g e x h = h

same_ends : (question before : ℕ) (events : List Event)
    → (list_any (λ (given : Given). given.question == question) (filter_map given_by events)
    || list_any (λ (ended : Ended). ended.question == question) (filter_map ended_at (numbered before events))) ≡ list_any (ends question) events
same_ends question before [] = refl
same_ends question before (Eliminate worker place verdict combination ∷ later) = same_ends question (before + 0) later
same_ends question before (Issue desk place plus minus ∷ later) = same_ends question (before + 0) later
same_ends question before (Commit desk other side plus minus point ∷ later) =
    commit_ends (other == question) (list_any (λ (given : Given). given.question == question) (filter_map given_by later))
    (list_any (λ (ended : Ended). ended.question == question) (filter_map ended_at (numbered (before + 1) later))) (list_any (ends question) later)
    (same_ends question (before + 1) later)
same_ends question before (Close desk other ∷ later) =
    close_ends (other == question) (list_any (λ (given : Given). given.question == question) (filter_map given_by later))
    (list_any (λ (ended : Ended). ended.question == question) (filter_map ended_at (numbered (before + 0) later))) (list_any (ends question) later)
    (same_ends question (before + 0) later)
same_ends question before (Withdraw desk answer ∷ later) = same_ends question (before + 0) later

pub same_interview : (listed : Listed) (history : List Event) → plain_interview listed (plain_of history) ≡ interview listed history
same_interview listed history =
    let answers : filter_map (answer_given listed.classes (issued history)) (filter_map given_by (standing history)) ≡ committed listed.classes history =
    same_answers listed.classes (issued history) (standing history) in
    let questions : map (λ (given : Given). given.question) (filter_map given_by (standing history)) ≡ answered history = same_answered (standing history) in
    let same_open : filter (is_open_in (plain_of history)) (range_with_len 1 (length (issued history))) ≡ open_questions history =
    filter_agree (is_open_in (plain_of history)) (is_unended history) (λ question. ap not (same_ends question 0 (standing history)))
    (range_with_len 1 (length (issued history))) in
    λ i. record {
      asked = issued history;
      answers = answers i;
      answered = questions i;
      open_questions = same_open i;
      withdrawals = withdrawals history;
    }

-- ---- one more event
of_commits : (events : List Event) → Each (OfCommits given_by) events
of_commits [] = tt
of_commits (Eliminate worker place verdict combination ∷ later) = (refl, of_commits later)
of_commits (Issue desk place plus minus ∷ later) = (refl, of_commits later)
of_commits (Commit desk question side plus minus point ∷ later) = ((record { question = question; side = side }, refl), of_commits later)
of_commits (Close desk question ∷ later) = (refl, of_commits later)
of_commits (Withdraw desk answer ∷ later) = (refl, of_commits later)

pub given_count : (history : List Event) → length (filter_map given_by (standing history)) ≡ commit_count (standing history)
given_count history = length-filter_map given_by (standing history) (of_commits (standing history))

-- an event that is put at the end of the standing events
module _ (history : List Event) (event : Event) (put : standing (history ++ event ∷ []) ≡ standing history ++ event ∷ []) where
  given_push : filter_map given_by (standing (history ++ event ∷ [])) ≡ filter_map given_by (standing history) ++ cons_option (given_by event) []
  given_push = ap (λ (l : List Event). filter_map given_by l) put ∙ filter_map-append given_by (standing history) (event ∷ [])

  closed_push : filter_map ended_at (resting (history ++ event ∷ []))
      ≡ filter_map ended_at (resting history) ++ cons_option (ended_by (rests_on (0 + commit_count (standing history)) event) event) []
  closed_push =
      ap (λ (l : List Event). filter_map ended_at (numbered 0 l)) put
      ∙ ap (λ (l : List Resting). filter_map ended_at l) (numbered-append 0 (standing history) (event ∷ []))
      ∙ filter_map-append ended_at (resting history) (numbered (0 + commit_count (standing history)) (event ∷ []))

  given_same : given_by event ≡ None → filter_map given_by (standing (history ++ event ∷ [])) ≡ filter_map given_by (standing history)
  given_same none =
      given_push ∙ ap (λ (o : Option Given). filter_map given_by (standing history) ++ cons_option o []) none ∙ append-nil (filter_map given_by (standing history))

  closed_same : ((level : ℕ) → ended_by level event ≡ None) → filter_map ended_at (resting (history ++ event ∷ [])) ≡ filter_map ended_at (resting history)
  closed_same none =
      closed_push ∙ ap (λ (o : Option Ended). filter_map ended_at (resting history) ++ cons_option o []) (none (rests_on (0 + commit_count (standing history)) event))
      ∙ append-nil (filter_map ended_at (resting history))

withdrawals_same : (history : List Event) (event : Event) → is_withdraw event ≡ false → withdrawals (history ++ event ∷ []) ≡ withdrawals history
withdrawals_same history event none =
    sum_by_push (λ e. cond (is_withdraw e) 1 0) history event ∙ ap (λ (b : Bool). withdrawals history + cond b 1 0) none ∙ omega arith

module _ (history : List Event) where
  pub push_eliminate : (worker place : ℕ) (verdict : Side) (combination : Combination)
      → plain_of (history ++ Eliminate worker place verdict combination ∷ []) ≡ plain_of history
  push_eliminate worker place verdict combination =
      let event : Event = Eliminate worker place verdict combination in
      let put : standing (history ++ event ∷ []) ≡ standing history ++ event ∷ [] = standing-push history event in
      λ i. record {
        asked = issued-same history event refl i;
        given = given_same history event put refl i;
        closed = closed_same history event put (λ level. refl) i;
        withdrawals = withdrawals_same history event refl i;
      }

  pub push_issue : (desk place : ℕ) (plus minus : List ℤ)
      → plain_of (history ++ Issue desk place plus minus ∷ []) ≡ record (plain_of history) { asked = issued history ++ place ∷ [] }
  push_issue desk place plus minus =
      let event : Event = Issue desk place plus minus in
      let put : standing (history ++ event ∷ []) ≡ standing history ++ event ∷ [] = standing-push history event in
      λ i. record {
        asked = issued-push history event i;
        given = given_same history event put refl i;
        closed = closed_same history event put (λ level. refl) i;
        withdrawals = withdrawals_same history event refl i;
      }

  pub push_commit : (desk question : ℕ) (side : Side) (plus minus point : List ℤ)
      → plain_of (history ++ Commit desk question side plus minus point ∷ [])
      ≡ record (plain_of history) { given = filter_map given_by (standing history) ++ record { question = question; side = side } ∷ [] }
  push_commit desk question side plus minus point =
      let event : Event = Commit desk question side plus minus point in
      let put : standing (history ++ event ∷ []) ≡ standing history ++ event ∷ [] = standing-push history event in
      λ i. record {
        asked = issued-same history event refl i;
        given = given_push history event put i;
        closed = closed_same history event put (λ level. refl) i;
        withdrawals = withdrawals_same history event refl i;
      }

  pub push_close : (desk question : ℕ)
      → plain_of (history ++ Close desk question ∷ [])
      ≡ record (plain_of history) { closed = filter_map ended_at (resting history) ++ record { question = question; answers = length (filter_map given_by (standing history)) } ∷ [] }
  push_close desk question =
      let event : Event = Close desk question in
      let put : standing (history ++ event ∷ []) ≡ standing history ++ event ∷ [] = standing-push history event in
      let level : 0 + commit_count (standing history) ≡ length (filter_map given_by (standing history)) = omega (arith, given_count history) in
      let closed : filter_map ended_at (resting (history ++ event ∷ []))
      ≡ filter_map ended_at (resting history) ++ record { question = question; answers = length (filter_map given_by (standing history)) } ∷ [] =
      closed_push history event put ∙ ap (λ (n : ℕ). filter_map ended_at (resting history) ++ record { question = question; answers = n } ∷ []) level in
      λ i. record {
        asked = issued-same history event refl i;
        given = given_same history event put refl i;
        closed = closed i;
        withdrawals = withdrawals_same history event refl i;
      }

either_way : (e : Resting) (rest : List Resting) (b : Bool) → ended_at e ≡ None → filter_map ended_at (cond b (e ∷ rest) rest) ≡ filter_map ended_at rest
either_way e rest true none = rw none refl
either_way e rest false none = refl

-- what rests on fewer answers
filter_ended : (n before : ℕ) (events : List Event)
    → filter_map ended_at (filter (λ e. nat_lt e.level n) (numbered before events)) ≡ filter (λ (c : Ended). nat_lt c.answers n) (filter_map ended_at (numbered before events))
filter_ended n before [] = refl
filter_ended n before (Eliminate worker place verdict combination ∷ later) =
    let event : Event = Eliminate worker place verdict combination in
    let e : Resting = record { level = rests_on before event; event = event } in
    either_way e (filter (λ e. nat_lt e.level n) (numbered (before + 0) later)) (nat_lt e.level n) refl ∙ filter_ended n (before + 0) later
filter_ended n before (Issue desk place plus minus ∷ later) =
    let e : Resting = record { level = 0; event = Issue desk place plus minus } in
    either_way e (filter (λ e. nat_lt e.level n) (numbered (before + 0) later)) (nat_lt e.level n) refl ∙ filter_ended n (before + 0) later
filter_ended n before (Commit desk question side plus minus point ∷ later) =
    let e : Resting = record { level = before + 1; event = Commit desk question side plus minus point } in
    either_way e (filter (λ e. nat_lt e.level n) (numbered (before + 1) later)) (nat_lt e.level n) refl ∙ filter_ended n (before + 1) later
filter_ended n before (Close desk question ∷ later) =
    let e : Resting = record { level = before; event = Close desk question } in
    let c : Ended = record { question = question; answers = before } in
    let rest : List Resting = filter (λ e. nat_lt e.level n) (numbered (before + 0) later) in
    let ends : List Ended = filter (λ (c : Ended). nat_lt c.answers n) (filter_map ended_at (numbered (before + 0) later)) in
    let ih : filter_map ended_at rest ≡ ends = filter_ended n (before + 0) later in
    let go : (b : Bool) → filter_map ended_at (cond b (e ∷ rest) rest) ≡ cond b (c ∷ ends) ends =
    λ b. elim b as (λ b. filter_map ended_at (cond b (e ∷ rest) rest) ≡ cond b (c ∷ ends) ends) [
      | true ↦ ap (λ l. c ∷ l) ih
      | false ↦ ih
    ]
    in go (nat_lt before n)
filter_ended n before (Withdraw desk answer ∷ later) =
    let e : Resting = record { level = 0; event = Withdraw desk answer } in
    either_way e (filter (λ e. nat_lt e.level n) (numbered (before + 0) later)) (nat_lt e.level n) refl ∙ filter_ended n (before + 0) later

-- the last answer is withdrawn
pub push_withdraw : (listed : Listed) (history : List Event) (desk n : ℕ) → IsSound listed history → 1 ≤ n → n ≡ length (committed listed.classes history)
    → plain_of (history ++ Withdraw desk n ∷ [])
    ≡ record (plain_of history) {
      given = take (length (filter_map given_by (standing history)) - 1) (filter_map given_by (standing history));
      closed = filter (λ ended. nat_lt ended.answers (length (filter_map given_by (standing history)))) (filter_map ended_at (resting history));
      withdrawals = withdrawals history + 1;
    }
push_withdraw listed history desk n sound some last =
    let event : Event = Withdraw desk n in
    let whole : List Given = filter_map given_by (standing history) in
    let count : n ≡ length whole = last ∙ answers_count listed history sound ∙ sym (given_count history) in
    let given : filter_map given_by (standing (history ++ event ∷ [])) ≡ take (length whole - 1) whole =
    ap (λ (l : List Event). filter_map given_by l) (standing-push history event)
    ∙ filter_map-without given_by n (standing history) (of_commits (standing history))
    ∙ ap (λ k. take (k - 1) whole) (sym (given_count history)) in
    let closed : filter_map ended_at (resting (history ++ event ∷ [])) ≡ filter (λ (ended : Ended). nat_lt ended.answers (length whole)) (filter_map ended_at (resting history)) =
    ap (λ (l : List Resting). filter_map ended_at l) (resting-withdraw listed history sound desk n some last)
    ∙ filter_ended n 0 (standing history)
    ∙ ap (λ (k : ℕ). filter (λ (ended : Ended). nat_lt ended.answers k) (filter_map ended_at (resting history))) count in
    let fewer : withdrawals (history ++ event ∷ []) ≡ withdrawals history + 1 = count_by-append is_withdraw history (event ∷ []) in
    λ i. record { asked = issued-same history event refl i; given = given i; closed = closed i; withdrawals = fewer i }
