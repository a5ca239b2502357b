-- Where one desk is alone, its replies are those of the plain run.
use Rattle.std.proofs.Common.{◌≡◌, ◌⊎◌, ℕ, zero, suc, ◌+◌, ◌-◌, ◌<◌, ◌≤◌, Bool, true, false, cond, List, [], ◌∷◌, ◌++◌, length, take, drop, map, Some, slice_get, refl, ap, sym, subst, ◌∙◌, inl, inr, arith, append-nil, append_assoc, length-drop, length-take}
use Rattle.std.specs.Prelude.{slice_range}
use mathlib.Core.List.{IsPrefix}
use Rattle.std.proofs.Math.Seq.{take-append-add}
use Rattle.std.proofs.lemmas.List.{take-append-le, take-append-drop}
use Rattle.criteria_model.specs.declared.pairs.Side.{Side}
use Rattle.criteria_model.specs.Answers.{IsSatisfiable}
use Rattle.farkas_check.specs.declared.combination.Combination.{Combination}
use Rattle.pair_enumeration.specs.Listed.{Listed, IsListed}
use Rattle.survey_core.specs.declared.events.Event.{Event}
use Rattle.survey_core.specs.declared.events.Event.TheVariants.{Eliminate, Issue, Commit, Close, Withdraw}
use Rattle.survey_core.specs.Histories.{issued, place_of, is_eliminated}
use Rattle.survey_core.specs.Legal.{MayFollow, IsLegal}
use Rattle.survey_core.proofs.ListSteps.{Each, Each-range, Each-append, Each-map, slice_get-take, some_and, take_whole}
use Rattle.survey_core.proofs.SoundLemmas.{IsSound, sound_history}
use Rattle.survey_core.proofs.FollowLemmas.{legal_front}
use Rattle.survey_core.proofs.RankingLemmas.{answers_are_satisfiable_lem}
use Rattle.survey_replies.specs.Requests.{Request}
use Rattle.survey_replies.specs.Requests as request
use Rattle.survey_replies.specs.declared.replies.NextReply.{NextReply}
use Rattle.survey_replies.specs.declared.replies.NextReply.TheVariants.{Question}
use Rattle.survey_replies.specs.declared.replies.AnswerReply.{AnswerReply}
use Rattle.survey_replies.specs.declared.replies.AnswerReply.TheVariants.{Accepted, Implied}
use Rattle.survey_replies.specs.declared.replies.WithdrawReply.{WithdrawReply}
use Rattle.survey_replies.specs.declared.replies.WithdrawReply.TheVariants.{Withdrawn}
use Rattle.survey_replies.specs.Outcomes.{Outcome}
use Rattle.survey_replies.specs.Outcomes as outcome
use Rattle.survey_replies.specs.Interview.{Interview, interview}
use Rattle.survey_replies.specs.ReplyLaw.{IsWithdrawReply, IsReplyTo}
use Rattle.survey_replies.specs.Records.{Records, missing_elimination, recorded}
use Rattle.survey_replies.specs.Gists.{Gist, gist_of}
use Rattle.survey_replies.specs.Outcomes.{Exchange}
use Rattle.survey_replies.specs.Calls.{read_by, end_of, places_of, Seen, unseen, IsEliminateOf, IsCall, Conversation, reply_places, occurrences}
use Rattle.survey_replies.specs.Outcomes.{at_of}
use Rattle.survey_replies.specs.CallLaws.{IsNoEliminate}
use Rattle.survey_replies.specs.PlainRun.{PlainSurvey, plain_start, plain_interview, plain_after, IsPlainRun}
use Rattle.survey_replies.specs.PlainLaws.{IsAlone, AloneIsPlain, AloneIsThePlain}
use Rattle.survey_replies.proofs.ReplyLemmas.{one_reply_lem}
use Rattle.survey_replies.proofs.CallLemmas.{prefix_length, prefix_get, conversation_longer, each_later, places_same, none_there, own_are_of_replies_lem}
use Rattle.survey_replies.proofs.JournalLemmas.{some_there, times_both, place_within}
use Rattle.survey_replies.proofs.PlainSteps.{plain_of, same_interview, push_eliminate, push_issue, push_commit, push_close, push_withdraw}

-- ---- one reply
with_nothing : (history events : List Event) → events ≡ [] → plain_of (history ++ events) ≡ plain_of history
with_nothing history events none = ap (λ (l : List Event). plain_of (history ++ l)) none ∙ ap plain_of (append-nil history)

next_turn : (desk : ℕ) (history : List Event) (reply : NextReply) (events : List Event) → Records desk history request.next (outcome.next reply) events
    → plain_of (history ++ events) ≡ plain_after (plain_of history) request.next (gist_of (outcome.next reply))
next_turn desk history (Question at number place pair) events (plus, minus, same) =
    ap (λ (l : List Event). plain_of (history ++ l)) same ∙ push_issue history desk place plus minus
next_turn desk history _ events none = with_nothing history events none

closed_turn : (desk question place : ℕ) (history : List Event) (eliminated : Bool) (verdict : Side) (combination : Combination)
    → plain_of (history ++ (cond eliminated [] (Eliminate 0 place verdict combination ∷ []) ++ Close desk question ∷ []))
    ≡ (record (plain_of history) { closed = (plain_of history).closed ++ record { question = question; answers = length (plain_of history).given } ∷ [] })
closed_turn desk question place history true verdict combination = push_close history desk question
closed_turn desk question place history false verdict combination =
    let event : Event = Eliminate 0 place verdict combination in
    let close : PlainSurvey → PlainSurvey = λ run. record run { closed = run.closed ++ record { question = question; answers = length run.given } ∷ [] } in
    ap plain_of (sym (append_assoc history (event ∷ []) (Close desk question ∷ [])))
    ∙ push_close (history ++ event ∷ []) desk question
    ∙ ap close (push_eliminate history 0 place verdict combination)

answer_turn : (desk : ℕ) (history : List Event) (question : ℕ) (side : Side) (reply : AnswerReply) (events : List Event)
    → Records desk history (request.answer question side) (outcome.answer reply) events
    → plain_of (history ++ events) ≡ plain_after (plain_of history) (request.answer question side) (gist_of (outcome.answer reply))
answer_turn desk history question side (Accepted at replied) events (plus, minus, point, same) =
    ap (λ (l : List Event). plain_of (history ++ l)) same ∙ push_commit history desk question side plus minus point
answer_turn desk history question side (Implied at replied verdict combination) events appends =
    let found : (place : ℕ) × (place_of (issued history) question ≡ Some place) × (events ≡ missing_elimination history place verdict combination ++ Close desk question ∷ []) =
    some_and (place_of (issued history) question) (λ place. events ≡ missing_elimination history place verdict combination ++ Close desk question ∷ []) appends in
    ap (λ (l : List Event). plain_of (history ++ l)) found.2
    ∙ closed_turn desk question found.0 history (is_eliminated history found.0) verdict combination
answer_turn desk history question side _ events none = with_nothing history events none

withdraw_turn : (listed : Listed) (desk : ℕ) (history : List Event) (reply : WithdrawReply) (events : List Event) → IsSound listed history
    → IsWithdrawReply listed (interview listed history) reply → Records desk history request.withdraw (outcome.withdraw reply) events
    → plain_of (history ++ events) ≡ plain_after (plain_of history) request.withdraw (gist_of (outcome.withdraw reply))
withdraw_turn listed desk history (Withdrawn at answer question) events sound by_law same =
    ap (λ (l : List Event). plain_of (history ++ l)) same ∙ push_withdraw listed history desk answer sound (omega (arith, by_law.0, by_law.2)) by_law.2
withdraw_turn listed desk history _ events sound by_law none = with_nothing history events none

turn_plain : (listed : Listed) (desk : ℕ) (history : List Event) (asked : Request) (reply : Outcome) (events : List Event) → IsSound listed history
    → IsReplyTo listed (interview listed history) asked reply → Records desk history asked reply events
    → plain_of (history ++ events) ≡ plain_after (plain_of history) asked (gist_of reply)
turn_plain listed desk history request.next (outcome.next reply) events sound by_law appends = next_turn desk history reply events appends
turn_plain listed desk history (request.answer question side) (outcome.answer reply) events sound by_law appends =
    answer_turn desk history question side reply events appends
turn_plain listed desk history request.values (outcome.values reply) events sound by_law none = with_nothing history events none
turn_plain listed desk history request.withdraw (outcome.withdraw reply) events sound by_law appends =
    withdraw_turn listed desk history reply events sound by_law appends
turn_plain listed desk history request.look (outcome.look at) events sound by_law none = with_nothing history events none
turn_plain listed desk history _ _ events sound by_law appends = absurd by_law

-- ---- what stands between the replies
pub legal_prefix : (listed : Listed) (front journal : List Event) → IsPrefix front journal → IsLegal listed journal → IsLegal listed front
legal_prefix listed front journal (more, same) legal = legal_front listed front more (subst (λ (l : List Event). IsLegal listed l) (sym same) legal)

abbrev IsEliminate : Event → Type 0
IsEliminate event = (worker : ℕ) × IsEliminateOf worker event

either : (event : Event) → IsEliminate event ⊎ IsNoEliminate event
either (Eliminate worker place verdict combination) = inl (worker, refl)
either (Issue desk place plus minus) = inr (λ worker none. none)
either (Commit desk question side plus minus point) = inr (λ worker none. none)
either (Close desk question) = inr (λ worker none. none)
either (Withdraw desk answer) = inr (λ worker none. none)

only_eliminates : (history more : List Event) → Each (λ event. (worker : ℕ) × IsEliminateOf worker event) more → plain_of (history ++ more) ≡ plain_of history
only_eliminates history [] each = ap plain_of (append-nil history)
only_eliminates history (Eliminate worker place verdict combination ∷ more) each =
    let event : Event = Eliminate worker place verdict combination in
    ap plain_of (sym (append_assoc history (event ∷ []) more)) ∙ only_eliminates (history ++ event ∷ []) more each.1
    ∙ push_eliminate history worker place verdict combination
only_eliminates history (Issue desk place plus minus ∷ more) each = absurd each.0.1
only_eliminates history (Commit desk question side plus minus point ∷ more) each = absurd each.0.1
only_eliminates history (Close desk question ∷ more) each = absurd each.0.1
only_eliminates history (Withdraw desk answer ∷ more) each = absurd each.0.1

each_from_get : {X : Type 0} (P : X → Type 0) (xs : List X) → ((k : ℕ) (x : X) → slice_get xs k ≡ Some x → P x) → Each P xs
each_from_get P [] h = tt
each_from_get P (x ∷ xs) h = (h 0 x refl, each_from_get P xs (λ k y at. h (suc k) y at))

get_behind : {X : Type 0} (xs ys : List X) (k j : ℕ) → j ≡ length xs + k → slice_get (xs ++ ys) j ≡ slice_get ys k
get_behind [] ys k j same = ap (λ i. slice_get ys i) (omega arith)
get_behind (x ∷ xs) ys k zero same = absurd (omega arith)
get_behind (x ∷ xs) ys k (suc j) same = get_behind xs ys k j (omega arith)

places_later : (journal : List Event) (least : ℕ) (exchanges : List Exchange) → Each (λ exchange. least ≤ at_of exchange.reply) exchanges
    → Each (λ place. least ≤ place) (reply_places journal exchanges)
places_later journal least [] each = tt
places_later journal least (exchange ∷ exchanges) each =
    let reply : Outcome = exchange.reply in
    let count : ℕ = recorded (read_by journal reply) reply in
    Each-append (λ place. least ≤ place) (places_of journal reply) (reply_places journal exchanges)
    (Each-map (λ q. (at_of reply ≤ q) × (q < at_of reply + count)) (λ q. least ≤ q) (λ q h. omega (arith, h.0, each.0)) (places_of journal reply) (Each-range (at_of reply) count))
    (places_later journal least exchanges each.1)

-- each event from the end of a journal on, that is no Eliminate, stands in a reply's last turn
abbrev IsCovered : ℕ → List Event → List Exchange → Type 0
IsCovered from journal exchanges =
    (place : ℕ) (event : Event) → from ≤ place → slice_get journal place ≡ Some event → IsNoEliminate event
    → 0 < occurrences place (reply_places journal exchanges)

-- up to the reply's last turn only eliminations came
quiet : (listed : Listed) (desk : ℕ) (before middle after : Seen) (exchange : Exchange) (exchanges : List Exchange)
    → IsCall listed desk before middle exchange.request exchange.reply → Conversation listed desk middle after exchanges
    → IsCovered (length before.journal) after.journal (exchange ∷ exchanges)
    → plain_of (read_by middle.journal exchange.reply) ≡ plain_of before.journal
quiet listed desk before middle after exchange exchanges turns rest covered =
    let at : ℕ = at_of exchange.reply in
    let start : List Event = before.journal in
    let longer : IsPrefix middle.journal after.journal = conversation_longer listed desk middle after exchanges rest in
    let more : List Event = take (at - length start) turns.longer.0 in
    let front : read_by middle.journal exchange.reply ≡ start ++ more =
    ap (λ n. take n middle.journal) (omega (arith, turns.later))
    ∙ ap (λ (l : List Event). take (length start + (at - length start)) l) (sym turns.longer.1)
    ∙ take-append-add start turns.longer.0 (at - length start) in
    let later : Each (λ place. at ≤ place) (reply_places after.journal (exchange ∷ exchanges)) =
    places_later after.journal at (exchange ∷ exchanges)
    (omega arith, each_later listed desk middle after exchanges at (omega (arith, turns.ends)) rest) in
    let each : Each (λ event. (worker : ℕ) × IsEliminateOf worker event) more =
    each_from_get (λ event. (worker : ℕ) × IsEliminateOf worker event) more
    (λ k event found.
    let within : k < length more = place_within more k event found in
    let place : ℕ = length start + k in
    let low : place < at = omega (arith, length-take (at - length start) turns.longer.0) in
    let read : slice_get (read_by middle.journal exchange.reply) place ≡ Some event =
    ap (λ (l : List Event). slice_get l place) front ∙ get_behind start more k place refl ∙ found in
    let here : slice_get middle.journal place ≡ Some event = sym (slice_get-take at middle.journal place low) ∙ read in
    elim (either event) [
      | inl is ↦ is
      | inr none ↦
          (let some : 0 < occurrences place (reply_places after.journal (exchange ∷ exchanges)) =
          covered place event (omega arith) (prefix_get middle.journal after.journal place event longer here) none in
          let high : at ≤ place = some_there (λ q. at ≤ q) place (reply_places after.journal (exchange ∷ exchanges)) later some in
          absurd (omega arith))
    ]) in
    ap plain_of front ∙ only_eliminates start more each

-- ---- the plain run, with answers that stay satisfiable
abbrev SatisfiableRun : Listed → PlainSurvey → List Exchange → Type 0
SatisfiableRun listed run [] = Unit {0}
SatisfiableRun listed run (exchange ∷ exchanges) =
    IsSatisfiable listed.criteria.levels (plain_interview listed run).answers
    × IsReplyTo listed (plain_interview listed run) exchange.request exchange.reply
    × SatisfiableRun listed (plain_after run exchange.request (gist_of exchange.reply)) exchanges

runs_plain : (listed : Listed) (desk : ℕ) (before after : Seen) (exchanges : List Exchange) → IsListed listed → IsLegal listed after.journal
    → Conversation listed desk before after exchanges → IsCovered (length before.journal) after.journal exchanges
    → SatisfiableRun listed (plain_of before.journal) exchanges
runs_plain listed desk before after [] model legal watches covered = tt
runs_plain listed desk before after (exchange ∷ exchanges) model legal (middle, turns, rest) covered =
    let reply : Outcome = exchange.reply in
    let read : List Event = read_by middle.journal reply in
    let last : List Event = slice_range middle.journal (at_of reply) (end_of middle.journal reply) in
    let longer : IsPrefix middle.journal after.journal = conversation_longer listed desk middle after exchanges rest in
    let legal_middle : IsLegal listed middle.journal = legal_prefix listed middle.journal after.journal longer legal in
    let legal_read : IsLegal listed read =
    legal_prefix listed read middle.journal (drop (at_of reply) middle.journal, take-append-drop (at_of reply) middle.journal) legal_middle in
    let same : plain_of read ≡ plain_of before.journal = quiet listed desk before middle after exchange exchanges turns rest covered in
    let rests : interview listed read ≡ plain_interview listed (plain_of before.journal) = sym (same_interview listed read) ∙ ap (plain_interview listed) same in
    let behind : last ≡ drop (at_of reply) middle.journal =
    take_whole (end_of middle.journal reply - at_of reply) (drop (at_of reply) middle.journal) (omega (arith, turns.ends, length-drop (at_of reply) middle.journal)) in
    let whole : read ++ last ≡ middle.journal = ap (λ (l : List Event). read ++ l) behind ∙ take-append-drop (at_of reply) middle.journal in
    let next : plain_of middle.journal ≡ plain_after (plain_of before.journal) exchange.request (gist_of reply) =
    ap plain_of (sym whole)
    ∙ turn_plain listed desk read exchange.request reply last (sound_history listed read legal_read) turns.replied.by_law turns.replied.appended
    ∙ ap (λ (run : PlainSurvey). plain_after run exchange.request (gist_of reply)) same in
    let count : ℕ = recorded (read_by middle.journal reply) reply in
    let covers : IsCovered (length middle.journal) after.journal exchanges =
    λ place event high at none.
    (let some : 0 < occurrences place (reply_places after.journal (exchange ∷ exchanges)) =
    covered place event (omega (arith, prefix_length before.journal middle.journal turns.longer)) at none in
    let sum : occurrences place (reply_places after.journal (exchange ∷ exchanges)) ≡ occurrences place (places_of after.journal reply) + occurrences place (reply_places after.journal exchanges) =
    times_both place (places_of after.journal reply) (reply_places after.journal exchanges) in
    let apart : Each (λ q. q ≡ place → ⊥) (places_of middle.journal reply) =
    Each-map (λ q. (at_of reply ≤ q) × (q < at_of reply + count)) (λ q. q ≡ place → ⊥) (λ q h same. omega (arith, h.1, turns.ends))
    (places_of middle.journal reply) (Each-range (at_of reply) count) in
    let gone : occurrences place (places_of after.journal reply) ≡ 0 =
    ap (occurrences place) (places_same middle.journal after.journal reply longer turns.replied.within) ∙ none_there place (places_of middle.journal reply) apart in
    omega arith) in (
      subst (λ (now : Interview). IsSatisfiable listed.criteria.levels now.answers) rests (answers_are_satisfiable_lem listed read model legal_read),
      subst (λ (now : Interview). IsReplyTo listed now exchange.request reply) rests turns.replied.by_law,
      subst (λ (run : PlainSurvey). SatisfiableRun listed run exchanges) next (runs_plain listed desk middle after exchanges model legal rest covers),
    )

plain_only : (listed : Listed) (run : PlainSurvey) (exchanges : List Exchange) → SatisfiableRun listed run exchanges → IsPlainRun listed run exchanges
plain_only listed run [] runs = tt
plain_only listed run (exchange ∷ exchanges) runs =
    (runs.1, plain_only listed (plain_after run exchange.request (gist_of exchange.reply)) exchanges runs.2)

one_run : (listed : Listed) (run : PlainSurvey) (exchanges others : List Exchange) → SatisfiableRun listed run exchanges
    → map (λ (exchange : Exchange). exchange.request) others ≡ map (λ (exchange : Exchange). exchange.request) exchanges → IsPlainRun listed run others
    → map (λ (exchange : Exchange). gist_of exchange.reply) others ≡ map (λ (exchange : Exchange). gist_of exchange.reply) exchanges
one_run listed run [] [] runs same plain = refl
one_run listed run [] (other ∷ others) runs same plain = absurd cc
one_run listed run (exchange ∷ exchanges) [] runs same plain = absurd cc
one_run listed run (exchange ∷ exchanges) (other ∷ others) runs same plain =
    let first : other.request ≡ exchange.request = cc in
    let later : map (λ (exchange : Exchange). exchange.request) others ≡ map (λ (exchange : Exchange). exchange.request) exchanges = cc in
    let by_law : IsReplyTo listed (plain_interview listed run) exchange.request other.reply =
    subst (λ (asked : Request). IsReplyTo listed (plain_interview listed run) asked other.reply) first plain.0 in
    let reply : gist_of other.reply ≡ gist_of exchange.reply =
    one_reply_lem listed (plain_interview listed run) exchange.request other.reply exchange.reply runs.0 by_law runs.1 in
    let rest : IsPlainRun listed (plain_after run exchange.request (gist_of exchange.reply)) others =
    subst (λ (s : Gist). IsPlainRun listed (plain_after run exchange.request s) others) reply
    (subst (λ (asked : Request). IsPlainRun listed (plain_after run asked (gist_of other.reply)) others) first plain.1) in
    let ih = one_run listed (plain_after run exchange.request (gist_of exchange.reply)) exchanges others runs.2 later rest in
    λ i. reply i ∷ ih i

alone_runs : (listed : Listed) (desk : ℕ) (after : Seen) (exchanges : List Exchange) → IsListed listed → IsLegal listed after.journal
    → Conversation listed desk unseen after exchanges → IsAlone after → SatisfiableRun listed plain_start exchanges
alone_runs listed desk after exchanges model legal conversation alone =
    runs_plain listed desk unseen after exchanges model legal conversation
    (λ place event low at none.
    omega (arith, alone place event at none, own_are_of_replies_lem listed desk unseen after exchanges after.journal place event conversation ([], append-nil after.journal) at none))

pub alone_is_plain_lem : AloneIsPlain
alone_is_plain_lem listed desk after exchanges model legal conversation alone =
    plain_only listed plain_start exchanges (alone_runs listed desk after exchanges model legal conversation alone)

pub alone_is_the_plain_lem : AloneIsThePlain
alone_is_the_plain_lem listed desk after exchanges others model legal conversation alone same plain =
    one_run listed plain_start exchanges others (alone_runs listed desk after exchanges model legal conversation alone) same plain
