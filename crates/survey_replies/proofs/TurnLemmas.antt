-- A call, made of its turns.
use Rattle.std.proofs.Common.{◌≡◌, ℕ, suc, ◌+◌, ◌-◌, ◌<◌, ◌≤◌, Bool, true, false, cond, List, [], ◌∷◌, ◌++◌, length, take, drop, Option, Some, refl, ap, sym, subst, ◌∙◌, arith, get_or, append_assoc, length-append, slice_get}
use Rattle.std.specs.Prelude.{slice_range, All, AllPairs}
use Rattle.std.specs.List.{range_with_len}
use mathlib.Core.List.{IsPrefix}
use Rattle.criteria_model.specs.declared.pairs.Side.{Side}
use Rattle.farkas_check.specs.declared.combination.Combination.{Combination}
use Rattle.pair_enumeration.specs.Listed.{Listed}
use Rattle.survey_core.specs.declared.events.Event.{Event}
use Rattle.survey_core.specs.declared.events.Event.TheVariants.{Eliminate, Close}
use Rattle.survey_core.specs.Kinds.{issued_place}
use Rattle.std.proofs.lemmas.List.Elements.{filter_map-append}
use Rattle.survey_core.specs.Histories.{issued, place_of, is_eliminated}
use Rattle.survey_core.proofs.ListSteps.{Each, Each-map, All-Each, some_and, some_at, take_whole, Each-All, slice_get-last}
use Rattle.survey_replies.specs.Requests.{Request}
use Rattle.survey_replies.specs.Requests as request
use Rattle.survey_replies.specs.declared.replies.NextReply.TheVariants.{Question}
use Rattle.survey_replies.specs.declared.replies.AnswerReply.TheVariants.{Accepted, Implied}
use Rattle.survey_replies.specs.declared.replies.WithdrawReply.TheVariants.{Withdrawn}
use Rattle.survey_replies.specs.Outcomes.{Outcome}
use Rattle.survey_replies.specs.Outcomes as outcome
use Rattle.std.specs.Option.{option_map_or}
use Rattle.std.proofs.Math.Seq.{take-append_seam, drop-append_seam}
use Rattle.std.proofs.lemmas.List.Elements.{All-append}
use Rattle.survey_replies.specs.declared.replies.NextReply.{NextReply}
use Rattle.survey_replies.specs.declared.replies.AnswerReply.{AnswerReply}
use Rattle.survey_replies.specs.declared.replies.WithdrawReply.{WithdrawReply}
use Rattle.survey_replies.specs.Interview.{interview}
use Rattle.survey_replies.specs.ReplyLaw.{IsReplyTo}
use Rattle.survey_replies.specs.Certificates.{Carries}
use Rattle.survey_replies.specs.Records.{Records, AreRankedByEvents, is_question_eliminated, missing_elimination, recorded}
use Rattle.survey_replies.specs.Calls.{read_by, end_of, places_of, IsEliminateFor, HasEliminateFor}
use Rattle.survey_replies.specs.Outcomes.{at_of}
use Rattle.survey_replies.specs.CallLaws.{CallIsMade, EliminationPrepares, NothingPrepares, PreparationsJoin}
use Rattle.survey_replies.proofs.CallLemmas.{pairs_cons, prefix_length, prefix_trans, is_eliminate_more, eliminate_longer}

-- ---- how many events a reply appends
next_count : (desk : ℕ) (history : List Event) (reply : NextReply) (events : List Event) → Records desk history request.next (outcome.next reply) events
    → length events ≡ recorded history (outcome.next reply)
next_count desk history (Question at number place pair) events (plus, minus, same) = ap (λ (l : List Event). length l) same
next_count desk history _ events none = ap (λ (l : List Event). length l) none

missing_count : (desk question place : ℕ) (eliminated : Bool) (verdict : Side) (combination : Combination)
    → length (cond eliminated [] (Eliminate 0 place verdict combination ∷ []) ++ Close desk question ∷ []) ≡ cond eliminated 1 2
missing_count desk question place true verdict combination = refl
missing_count desk question place false verdict combination = refl

answer_count : (desk : ℕ) (history : List Event) (question : ℕ) (side : Side) (reply : AnswerReply) (events : List Event)
    → Records desk history (request.answer question side) (outcome.answer reply) events
    → ((replied : ℕ) (at : ℕ) (verdict : Side) (combination : Combination) → reply ≡ Implied at replied verdict combination → replied ≡ question)
    → length events ≡ recorded history (outcome.answer reply)
answer_count desk history question side (Accepted at replied) events (plus, minus, point, same) names = ap (λ (l : List Event). length l) same
answer_count desk history question side (Implied at replied verdict combination) events appends names =
    let found : (place : ℕ) × (place_of (issued history) question ≡ Some place) × (events ≡ missing_elimination history place verdict combination ++ Close desk question ∷ []) =
    some_and (place_of (issued history) question) (λ place. events ≡ missing_elimination history place verdict combination ++ Close desk question ∷ []) appends in
    let same : replied ≡ question = names replied at verdict combination refl in
    let gone : is_question_eliminated history replied ≡ is_eliminated history found.0 =
    ap (λ (q : ℕ). option_map_or (is_eliminated history) (place_of (issued history) q) false) same
    ∙ ap (λ (o : Option ℕ). option_map_or (is_eliminated history) o false) found.1 in
    ap (λ (l : List Event). length l) found.2 ∙ missing_count desk question found.0 (is_eliminated history found.0) verdict combination
    ∙ ap (λ (b : Bool). cond b 1 2) (sym gone)
answer_count desk history question side _ events none names = ap (λ (l : List Event). length l) none

answer_names : (listed : Listed) (history : List Event) (question : ℕ) (side : Side) (reply : AnswerReply)
    → IsReplyTo listed (interview listed history) (request.answer question side) (outcome.answer reply)
    → (replied : ℕ) (at : ℕ) (verdict : Side) (combination : Combination) → reply ≡ Implied at replied verdict combination → replied ≡ question
answer_names listed history question side reply by_law replied at verdict combination is =
    (subst (λ (r : AnswerReply). IsReplyTo listed (interview listed history) (request.answer question side) (outcome.answer r)) is by_law).0

withdraw_count : (desk : ℕ) (history : List Event) (reply : WithdrawReply) (events : List Event) → Records desk history request.withdraw (outcome.withdraw reply) events
    → length events ≡ recorded history (outcome.withdraw reply)
withdraw_count desk history (Withdrawn at answer question) events same = ap (λ (l : List Event). length l) same
withdraw_count desk history _ events none = ap (λ (l : List Event). length l) none

recorded_count : (listed : Listed) (desk : ℕ) (history : List Event) (asked : Request) (reply : Outcome) (events : List Event)
    → IsReplyTo listed (interview listed history) asked reply → Records desk history asked reply events → length events ≡ recorded history reply
recorded_count listed desk history request.next (outcome.next reply) events by_law appends = next_count desk history reply events appends
recorded_count listed desk history (request.answer question side) (outcome.answer reply) events by_law appends =
    answer_count desk history question side reply events appends (answer_names listed history question side reply by_law)
recorded_count listed desk history request.values (outcome.values reply) events by_law none = ap (λ (l : List Event). length l) none
recorded_count listed desk history request.withdraw (outcome.withdraw reply) events by_law appends = withdraw_count desk history reply events appends
recorded_count listed desk history request.look (outcome.look at) events by_law none = ap (λ (l : List Event). length l) none
recorded_count listed desk history _ _ events by_law appends = absurd by_law

-- ---- the turn that replies
pub call_is_made_lem : CallIsMade
call_is_made_lem listed desk before middle after found asked reply prepares turn replied =
    let journal : List Event = after.journal in
    let count : length replied.events ≡ recorded found reply = recorded_count listed desk found asked reply replied.events replied.by_law replied.appended in
    let read : read_by journal reply ≡ found =
    ap (λ (n : ℕ). take n journal) replied.at ∙ ap (λ (l : List Event). take (length found) l) replied.journal ∙ take-append_seam found replied.events in
    let len : length journal ≡ length found + length replied.events = ap (λ (l : List Event). length l) replied.journal ∙ length-append found replied.events in
    let same_count : recorded (read_by journal reply) reply ≡ recorded found reply = ap (λ (l : List Event). recorded l reply) read in
    let ends : end_of journal reply ≡ length journal = omega (arith, replied.at) in
    let behind : drop (at_of reply) journal ≡ replied.events =
    ap (λ (n : ℕ). drop n journal) replied.at ∙ ap (λ (l : List Event). drop (length found) l) replied.journal ∙ drop-append_seam found replied.events in
    let events : slice_range journal (at_of reply) (end_of journal reply) ≡ replied.events =
    ap (λ (l : List Event). take (end_of journal reply - at_of reply) l) behind
    ∙ take_whole (end_of journal reply - at_of reply) replied.events (omega (arith, replied.at)) in
    let longer : IsPrefix middle.journal journal = prefix_trans middle.journal found journal turn.later (replied.events, sym replied.journal) in
    let places : range_with_len (length found) (length journal - length found) ≡ places_of journal reply =
    ap (λ (n : ℕ). range_with_len n (length journal - length found)) (sym replied.at)
    ∙ ap (λ (n : ℕ). range_with_len (at_of reply) n) (omega arith) in
    record {
      replied = record {
        within = omega (arith, ends);
        by_law = subst (λ (l : List Event). IsReplyTo listed (interview listed l) asked reply) (sym read) replied.by_law;
        carried = subst (λ (l : List Event). Carries listed (interview listed l) reply) (sym read) replied.carried;
        ranked = subst (λ (l : List Event). AreRankedByEvents listed l reply) (sym read) replied.ranked;
        appended =
            subst (λ (l : List Event). Records desk l asked reply (slice_range journal (at_of reply) (end_of journal reply))) (sym read)
            (subst (λ (l : List Event). Records desk found asked reply l) (sym events) replied.appended);
      };
      longer = prefix_trans before.journal middle.journal journal prepares.longer longer;
      later = omega (arith, replied.at, prefix_length before.journal middle.journal prepares.longer, prefix_length middle.journal found turn.later);
      ends = sym ends;
      eliminated = prepares.eliminated;
      once = prepares.once;
      eliminations =
          λ k d within.
          (let h = prepares.eliminations k d within in
          (h.0, omega (arith, h.1, replied.at, prefix_length middle.journal found turn.later), eliminate_longer middle.journal journal asked (get_or prepares.eliminated k d) longer h.2));
      own = turn.own ∙ ap (λ (l : List ℕ). l ++ range_with_len (length found) (length journal - length found)) prepares.own
          ∙ ap (λ (l : List ℕ). before.own ++ prepares.eliminated ++ l) places;
    }

-- ---- rising lists
rising_tail : (x : ℕ) (xs : List ℕ) → AllPairs (λ one other. one < other) (x ∷ xs) → AllPairs (λ one other. one < other) xs
rising_tail x xs rising i j d less within = rising (suc i) (suc j) d (omega arith) (omega arith)

rising_head : (x : ℕ) (xs : List ℕ) → AllPairs (λ one other. one < other) (x ∷ xs) → All (λ y. x < y) xs
rising_head x xs rising k d within = rising 0 (suc k) d (omega arith) (omega arith)

rising_append : (xs ys : List ℕ) (middle : ℕ) → AllPairs (λ one other. one < other) xs → AllPairs (λ one other. one < other) ys
    → Each (λ x. x < middle) xs → Each (λ y. middle ≤ y) ys → AllPairs (λ one other. one < other) (xs ++ ys)
rising_append [] ys middle one other low high = other
rising_append (x ∷ xs) ys middle one other low high =
    pairs_cons (λ one other. one < other) x (xs ++ ys)
    (All-append (λ y. x < y) xs ys (rising_head x xs one)
    (Each-All (λ y. x < y) ys (Each-map (λ y. middle ≤ y) (λ y. x < y) (λ y h. omega (arith, h, low.0)) ys high)))
    (rising_append xs ys middle (rising_tail x xs one) other low.1 high)

pub preparations_join_lem : PreparationsJoin
preparations_join_lem asked before middle after one other = record {
  longer = prefix_trans before.journal middle.journal after.journal one.longer other.longer;
  eliminated = one.eliminated ++ other.eliminated;
  once =
      rising_append one.eliminated other.eliminated (length middle.journal) one.once other.once
      (All-Each (λ place. place < length middle.journal) one.eliminated (λ k d within. (one.eliminations k d within).1))
      (All-Each (λ place. length middle.journal ≤ place) other.eliminated (λ k d within. (other.eliminations k d within).0));
  eliminations =
      All-append (λ place. (length before.journal ≤ place) × (place < length after.journal) × HasEliminateFor after.journal asked place) one.eliminated other.eliminated
      (λ k d within.
      let h = one.eliminations k d within in
      (h.0, omega (arith, h.1, prefix_length middle.journal after.journal other.longer), eliminate_longer middle.journal after.journal asked (get_or one.eliminated k d) other.longer h.2))
      (λ k d within.
      let h = other.eliminations k d within in
      (omega (arith, h.0, prefix_length before.journal middle.journal one.longer), h.1, h.2));
  own = other.own ∙ ap (λ (l : List ℕ). l ++ other.eliminated) one.own ∙ append_assoc before.own one.eliminated other.eliminated;
}

elimination_there : (asks : Request) (found journal : List Event) (event : Event) → IsEliminateFor (issued found) asks event
    → journal ≡ found ++ event ∷ [] → HasEliminateFor journal asks (length found)
elimination_there asks found journal event is same =
    let asked : issued journal ≡ issued found ++ issued (event ∷ []) = ap issued same ∙ filter_map-append issued_place found (event ∷ []) in
    some_at (slice_get journal (length found)) (IsEliminateFor (issued journal) asks) event
    (ap (λ (l : List Event). slice_get l (length found)) same ∙ slice_get-last found event)
    (subst (λ (l : List ℕ). IsEliminateFor l asks event) (sym asked) (is_eliminate_more (issued found) (issued (event ∷ [])) asks event is))

pub elimination_prepares_lem : EliminationPrepares
elimination_prepares_lem asked before after found event turn is same =
    let len : length after.journal ≡ length found + 1 = ap (λ (l : List Event). length l) same ∙ length-append found (event ∷ []) in
    let one : length after.journal - length found ≡ 1 = omega arith in
    record {
      longer = prefix_trans before.journal found after.journal turn.later turn.longer;
      eliminated = length found ∷ [];
      once = λ i j d less within. absurd (omega arith);
      eliminations =
          Each-All (λ place. (length before.journal ≤ place) × (place < length after.journal) × HasEliminateFor after.journal asked place) (length found ∷ [])
          ((prefix_length before.journal found turn.later, omega arith, elimination_there asked found after.journal event is same), tt);
      own = turn.own ∙ ap (λ (n : ℕ). before.own ++ range_with_len (length found) n) one;
    }

pub nothing_prepares_lem : NothingPrepares
nothing_prepares_lem asked before after found turn same =
    let none : length after.journal - length found ≡ 0 = omega (arith, ap (λ (l : List Event). length l) same) in
    record {
      longer = prefix_trans before.journal found after.journal turn.later turn.longer;
      eliminated = [];
      once = λ i j d less within. absurd (omega arith);
      eliminations = λ k d within. absurd (omega arith);
      own = turn.own ∙ ap (λ (n : ℕ). before.own ++ range_with_len (length found) n) none;
    }
