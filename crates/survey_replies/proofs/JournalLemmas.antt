-- All conversations and eliminators of a journal.
use Rattle.std.proofs.Common.{◌≡◌, ℕ, zero, suc, ◌+◌, ◌-◌, ◌<◌, ◌≤◌, ◌==◌, Bool, true, false, cond, List, [], ◌∷◌, ◌++◌, length, drop, All, Option, Some, None, slice_get, IsSomeAnd, refl, ap, sym, subst, ◌∙◌, inl, inr, arith}
use Rattle.std.specs.Prelude.{slice_range, Any}
use Rattle.std.specs.List.{flat_map}
use mathlib.Core.List.{IsPrefix}
use Rattle.std.proofs.lemmas.Bool.{cases_lt, eqb-true}
use Rattle.std.proofs.lemmas.List.Sums.{sum_by-cons}
use Rattle.std.proofs.lemmas.Option.{none-some}
use Rattle.criteria_model.specs.declared.pairs.Side.{Side}
use Rattle.farkas_check.specs.declared.combination.Combination.{Combination}
use Rattle.pair_enumeration.specs.Listed.{Listed}
use Rattle.survey_core.specs.declared.events.Event.{Event}
use Rattle.survey_core.specs.declared.events.Event.TheVariants.{Eliminate, Issue, Commit, Close, Withdraw}
use Rattle.survey_core.specs.Histories.{issued, place_of, is_eliminated}
use Rattle.survey_core.proofs.ListSteps.{Each, Each-at, Each-range, Each-append, Each-map, Each-All, All-Each, slice_get_inside, slice_get-take, some_and}
use Rattle.survey_replies.specs.Requests.{Request}
use Rattle.survey_replies.specs.Requests as request
use Rattle.survey_replies.specs.declared.replies.NextReply.TheVariants.{Question}
use Rattle.survey_replies.specs.declared.replies.AnswerReply.TheVariants.{Accepted, Implied}
use Rattle.survey_replies.specs.declared.replies.WithdrawReply.TheVariants.{Withdrawn}
use Rattle.survey_replies.specs.Outcomes.{Outcome, Exchange}
use Rattle.survey_replies.specs.Outcomes as outcome
use Rattle.survey_replies.specs.Records.{Records, missing_elimination, recorded}
use Rattle.survey_replies.specs.Calls.{read_by, end_of, places_of, Seen, unseen, IsEliminateOf, HasEliminateOf, HasEliminateFor, IsCall, Conversation, reply_places, occurrences}
use Rattle.survey_replies.specs.Outcomes.{at_of}
use Rattle.survey_replies.specs.CallLaws.{IsNoEliminate, PlacesFromStart, OwnEliminatesAreDesks}
use Rattle.survey_replies.specs.JournalLaws.{DeskRun, WorkerRun, EachHasOneReply, EachEliminateHasItsWorker}
use Rattle.survey_replies.proofs.InterviewLemmas.{count_by-append}
use Rattle.survey_replies.proofs.CallLemmas.{prefix_length, prefix_trans, prefix_get, conversation_longer, each_later, none_there, not_eliminate, has_longer, eliminate_of, own_are_of_replies_lem}

-- if it is an Eliminate, it names worker 0
IsDesks : Event → Type 0
IsDesks event = (worker : ℕ) → IsEliminateOf worker event → worker ≡ 0

missing_desks : (eliminated : Bool) (place : ℕ) (verdict : Side) (combination : Combination)
    → Each IsDesks (cond eliminated [] (Eliminate 0 place verdict combination ∷ []))
unfolding IsDesks
missing_desks true place verdict combination = tt
missing_desks false place verdict combination = ((λ worker same. sym same), tt)

each_desks : (desk : ℕ) (history : List Event) (asked : Request) (reply : Outcome) (events : List Event) → Records desk history asked reply events → Each IsDesks events
unfolding IsDesks
each_desks desk history request.next (outcome.next (Question at number place pair)) events (plus, minus, same) =
    subst (Each IsDesks) (sym same) ((λ worker none. absurd none), tt)
each_desks desk history (request.answer question side) (outcome.answer (Accepted at replied)) events (plus, minus, point, same) =
    subst (Each IsDesks) (sym same) ((λ worker none. absurd none), tt)
each_desks desk history (request.answer question side) (outcome.answer (Implied at replied verdict combination)) events appends =
    let found : (place : ℕ) × (place_of (issued history) question ≡ Some place) × (events ≡ missing_elimination history place verdict combination ++ Close desk question ∷ []) =
    some_and (place_of (issued history) question) (λ place. events ≡ missing_elimination history place verdict combination ++ Close desk question ∷ []) appends in
    subst (Each IsDesks) (sym found.2)
    (Each-append IsDesks (missing_elimination history found.0 verdict combination) (Close desk question ∷ [])
    (missing_desks (is_eliminated history found.0) found.0 verdict combination) ((λ worker none. absurd none), tt))
each_desks desk history request.withdraw (outcome.withdraw (Withdrawn at answer question)) events same =
    subst (Each IsDesks) (sym same) ((λ worker none. absurd none), tt)
each_desks desk history _ _ events same = subst (Each IsDesks) (sym same) tt

-- ---- lists
slice_get-drop : (n k j : ℕ) (events : List Event) → j ≡ n + k → slice_get (drop n events) k ≡ slice_get events j
slice_get-drop zero k j events same = ap (λ i. slice_get events i) (omega arith)
slice_get-drop (suc n) k j [] same = refl
slice_get-drop (suc n) k zero (event ∷ events) same = absurd (omega arith)
slice_get-drop (suc n) k (suc j) (event ∷ events) same = slice_get-drop n k j events (omega arith)

-- what each place of a list has, a place has that stands in it
pub some_there : (P : ℕ → Type 0) (place : ℕ) (places : List ℕ) → Each P places → 0 < occurrences place places → P place
some_there P place [] each some = absurd (omega arith)
some_there P place (other ∷ places) each some =
    let sum : occurrences place (other ∷ places) ≡ cond (other == place) 1 0 + occurrences place places = sum_by-cons (λ x. cond (x == place) 1 0) other places in
    let go : (b : Bool) → (other == place) ≡ b → 0 < cond b 1 0 + occurrences place places → P place =
    λ b. elim b as (λ b. (other == place) ≡ b → 0 < cond b 1 0 + occurrences place places → P place) [
      | true ↦ λ yes more. subst P (eqb-true other place yes) each.0
      | false ↦ λ no more. some_there P place places each.1 (omega arith)
    ]
    in go (other == place) refl (omega arith)

pub times_both : (place : ℕ) (xs ys : List ℕ) → occurrences place (xs ++ ys) ≡ occurrences place xs + occurrences place ys
times_both place xs ys = count_by-append (λ other. other == place) xs ys

-- ---- Eliminates by sessions
same_eliminator : (event : Event) (one other : ℕ) → IsEliminateOf one event → IsEliminateOf other event → one ≡ other
same_eliminator (Eliminate worker class verdict combination) one other h g = sym h ∙ g
same_eliminator (Issue desk class plus minus) one other h g = absurd h
same_eliminator (Commit desk question side plus minus point) one other h g = absurd h
same_eliminator (Close desk question) one other h g = absurd h
same_eliminator (Withdraw desk answer) one other h g = absurd h

same_worker : (journal : List Event) (place one other : ℕ) → HasEliminateOf one journal place → HasEliminateOf other journal place → one ≡ other
same_worker journal place one other has too =
    let go : (o : Option Event) → IsSomeAnd o (IsEliminateOf one) → IsSomeAnd o (IsEliminateOf other) → one ≡ other =
    λ o. elim o as (λ o. IsSomeAnd o (IsEliminateOf one) → IsSomeAnd o (IsEliminateOf other) → one ≡ other) [
      | None ↦ λ h g. absurd h
      | Some event ↦ λ h g. same_eliminator event one other h g
    ]
    in go (slice_get journal place) has too

has_shorter : (journal longer : List Event) (worker place : ℕ) → IsPrefix journal longer → place < length journal
    → HasEliminateOf worker longer place → HasEliminateOf worker journal place
has_shorter journal longer worker place prefix within has =
    let found : (event : Event) × (slice_get journal place ≡ Some event) = slice_get_inside journal place within in
    let there : slice_get longer place ≡ slice_get journal place = prefix_get journal longer place found.0 prefix found.1 ∙ sym found.1 in
    subst (λ (o : Option Event). IsSomeAnd o (IsEliminateOf worker)) there has

turn_desks : (listed : Listed) (desk : ℕ) (before after : Seen) (asked : Request) (reply : Outcome) (journal : List Event) (place worker : ℕ)
    → IsCall listed desk before after asked reply → IsPrefix after.journal journal → HasEliminateOf worker journal place → occurrences place before.own < occurrences place after.own → worker ≡ 0
unfolding IsDesks
turn_desks listed desk before after asked reply journal place worker turns prefix has more =
    let last : List ℕ = places_of after.journal reply in
    let sum : occurrences place after.own ≡ occurrences place before.own + occurrences place turns.eliminated + occurrences place last =
    ap (occurrences place) turns.own ∙ times_both place (before.own ++ turns.eliminated) last ∙ ap (λ n. n + occurrences place last) (times_both place before.own turns.eliminated) in
    elim (cases_lt 0 (occurrences place turns.eliminated)) [
      | inl early ↦
          same_worker journal place worker 0 has
          (has_longer after.journal journal 0 place prefix (eliminate_of after.journal asked place
          (some_there (λ other. (length before.journal ≤ other) × (other < at_of reply) × HasEliminateFor after.journal asked other) place turns.eliminated
          (All-Each (λ other. (length before.journal ≤ other) × (other < at_of reply) × HasEliminateFor after.journal asked other) turns.eliminated turns.eliminations) early).2))
      | inr none ↦
          (let count : ℕ = recorded (read_by after.journal reply) reply in
          let within : (at_of reply ≤ place) × (place < at_of reply + count) =
          some_there (λ q. (at_of reply ≤ q) × (q < at_of reply + count)) place last (Each-range (at_of reply) count) (omega arith) in
          let found : (event : Event) × (slice_get after.journal place ≡ Some event) × IsEliminateOf worker event =
          some_and (slice_get after.journal place) (IsEliminateOf worker)
          (has_shorter after.journal journal worker place prefix (omega (arith, within.1, turns.replied.within)) has) in
          let from : ℕ = at_of reply in
          let to : ℕ = end_of after.journal reply in
          let at : slice_get (slice_range after.journal from to) (place - from) ≡ Some found.0 =
          slice_get-take (to - from) (drop from after.journal) (place - from) (omega (arith, within.0, within.1))
          ∙ slice_get-drop from (place - from) place after.journal (omega (arith, within.0)) ∙ found.1 in
          let desks : IsDesks found.0 =
          Each-at IsDesks (slice_range after.journal from to) (place - from) found.0
          (each_desks desk (read_by after.journal reply) asked reply (slice_range after.journal from to) turns.replied.appended) at in
          desks worker found.2)
    ]

pub own_eliminates_are_desks_lem : OwnEliminatesAreDesks
own_eliminates_are_desks_lem listed desk before after [] journal place worker watches prefix has more =
    absurd (omega (arith, ap (occurrences place) watches.own))
own_eliminates_are_desks_lem listed desk before after (exchange ∷ exchanges) journal place worker (middle, turns, rest) prefix has more =
    elim (cases_lt (occurrences place middle.own) (occurrences place after.own)) [
      | inl later ↦ own_eliminates_are_desks_lem listed desk middle after exchanges journal place worker rest prefix has later
      | inr none ↦
          turn_desks listed desk before middle exchange.request exchange.reply journal place worker turns
          (prefix_trans middle.journal after.journal journal (conversation_longer listed desk middle after exchanges rest) prefix) has (omega arith)
    ]

-- ---- where own places lie
call_places : (listed : Listed) (desk : ℕ) (before after : Seen) (asked : Request) (reply : Outcome) → IsCall listed desk before after asked reply
    → (place : ℕ) → occurrences place before.own < occurrences place after.own → (length before.journal ≤ place) × (place < length after.journal)
call_places listed desk before after asked reply call place more =
    let last : List ℕ = places_of after.journal reply in
    let count : ℕ = recorded (read_by after.journal reply) reply in
    let sum : occurrences place after.own ≡ occurrences place before.own + occurrences place call.eliminated + occurrences place last =
    ap (occurrences place) call.own ∙ times_both place (before.own ++ call.eliminated) last
    ∙ ap (λ n. n + occurrences place last) (times_both place before.own call.eliminated) in
    let Early : ℕ → Type 0 = λ other. (length before.journal ≤ other) × (other < at_of reply) × HasEliminateFor after.journal asked other in
    elim (cases_lt 0 (occurrences place call.eliminated)) [
      | inl early ↦
          (let here : Early place = some_there Early place call.eliminated (All-Each Early call.eliminated call.eliminations) early in
          (here.0, omega (arith, here.1, call.ends)))
      | inr none ↦
          (let here : (at_of reply ≤ place) × (place < at_of reply + count) =
          some_there (λ q. (at_of reply ≤ q) × (q < at_of reply + count)) place last (Each-range (at_of reply) count) (omega arith) in
          (omega (arith, here.0, call.later), omega (arith, here.1, call.ends)))
    ]

own_places : (listed : Listed) (desk : ℕ) (before after : Seen) (exchanges : List Exchange) → Conversation listed desk before after exchanges
    → (place : ℕ) → occurrences place before.own < occurrences place after.own → (length before.journal ≤ place) × (place < length after.journal)
own_places listed desk before after [] watches place more = absurd (omega (arith, ap (occurrences place) watches.own))
own_places listed desk before after (exchange ∷ exchanges) (middle, call, rest) place more =
    let earlier : length before.journal ≤ length middle.journal = prefix_length before.journal middle.journal call.longer in
    let later : length middle.journal ≤ length after.journal =
    prefix_length middle.journal after.journal (conversation_longer listed desk middle after exchanges rest) in
    elim (cases_lt (occurrences place middle.own) (occurrences place after.own)) [
      | inl more_later ↦
          (let here : (length middle.journal ≤ place) × (place < length after.journal) =
          own_places listed desk middle after exchanges rest place more_later in
          (omega (arith, here.0), here.1))
      | inr none_later ↦
          (let here : (length before.journal ≤ place) × (place < length middle.journal) =
          call_places listed desk before middle exchange.request exchange.reply call place (omega arith) in
          (here.0, omega (arith, here.1)))
    ]

pub places_from_start_lem : PlacesFromStart
places_from_start_lem listed desk before after exchanges conversation = (
  Each-All (λ exchange. length before.journal ≤ at_of exchange.reply) exchanges
      (each_later listed desk before after exchanges (length before.journal) (omega arith) conversation),
  own_places listed desk before after exchanges conversation,
)

-- ---- all together
desks_reply : (listed : Listed) (journal : List Event) (place : ℕ) (event : Event) (desks : List DeskRun)
    → Each (λ run. Conversation listed run.desk unseen run.seen run.exchanges × IsPrefix run.seen.journal journal) desks
    → slice_get journal place ≡ Some event → IsNoEliminate event
    → occurrences place (flat_map (λ run. run.seen.own) desks) ≡ occurrences place (flat_map (λ run. reply_places journal run.exchanges) desks)
desks_reply listed journal place event [] each at none = refl
desks_reply listed journal place event (run ∷ desks) each at none =
    let first : occurrences place run.seen.own ≡ occurrences place (unseen.own) + occurrences place (reply_places journal run.exchanges) =
    own_are_of_replies_lem listed run.desk unseen run.seen run.exchanges journal place event each.0.0 each.0.1 at none in
    let later : occurrences place (flat_map (λ run. run.seen.own) desks) ≡ occurrences place (flat_map (λ run. reply_places journal run.exchanges) desks) =
    desks_reply listed journal place event desks each.1 at none in
    times_both place run.seen.own (flat_map (λ run. run.seen.own) desks)
    ∙ omega arith
    ∙ sym (times_both place (reply_places journal run.exchanges) (flat_map (λ run. reply_places journal run.exchanges) desks))

pub workers_none : (journal : List Event) (place : ℕ) (event : Event) (workers : List WorkerRun)
    → Each (λ run. All (HasEliminateOf run.worker journal) run.own) workers → slice_get journal place ≡ Some event → IsNoEliminate event
    → occurrences place (flat_map (λ run. run.own) workers) ≡ 0
workers_none journal place event [] each at none = refl
workers_none journal place event (run ∷ workers) each at none =
    let first : occurrences place run.own ≡ 0 =
    none_there place run.own
    (Each-map (HasEliminateOf run.worker journal) (λ other. other ≡ place → ⊥)
    (λ other h same. not_eliminate journal run.worker place event at none (subst (HasEliminateOf run.worker journal) same h)) run.own
    (All-Each (HasEliminateOf run.worker journal) run.own each.0)) in
    let later : occurrences place (flat_map (λ run. run.own) workers) ≡ 0 = workers_none journal place event workers each.1 at none in
    times_both place run.own (flat_map (λ run. run.own) workers) ∙ omega arith

pub place_within : (journal : List Event) (place : ℕ) (event : Event) → slice_get journal place ≡ Some event → place < length journal
place_within [] place event at = absurd (none-some event at)
place_within (first ∷ journal) zero event at = omega arith
place_within (first ∷ journal) (suc place) event at = omega (arith, place_within journal place event at)

pub each_has_one_reply_lem : EachHasOneReply
each_has_one_reply_lem listed journal desks workers place event makes at none =
    let own : List ℕ = flat_map (λ run. run.seen.own) desks in
    let others : List ℕ = flat_map (λ run. run.own) workers in
    let sum : occurrences place (own ++ others) ≡ occurrences place own + occurrences place others = times_both place own others in
    let once : occurrences place (own ++ others) ≡ 1 = makes.once place (place_within journal place event at) in
    let gone : occurrences place others ≡ 0 =
    workers_none journal place event workers (All-Each (λ run. All (HasEliminateOf run.worker journal) run.own) workers makes.eliminations) at none in
    let replies : occurrences place own ≡ occurrences place (flat_map (λ run. reply_places journal run.exchanges) desks) =
    desks_reply listed journal place event desks
    (All-Each (λ run. Conversation listed run.desk unseen run.seen run.exchanges × IsPrefix run.seen.journal journal) desks makes.conversations) at none in
    omega arith

desk_made : (listed : Listed) (journal : List Event) (place worker : ℕ) (desks : List DeskRun)
    → Each (λ run. Conversation listed run.desk unseen run.seen run.exchanges × IsPrefix run.seen.journal journal) desks
    → HasEliminateOf worker journal place → 0 < occurrences place (flat_map (λ run. run.seen.own) desks) → worker ≡ 0
desk_made listed journal place worker [] each has some = absurd (omega arith)
desk_made listed journal place worker (run ∷ desks) each has some =
    let sum : occurrences place (run.seen.own ++ flat_map (λ run. run.seen.own) desks) ≡ occurrences place run.seen.own + occurrences place (flat_map (λ run. run.seen.own) desks) =
    times_both place run.seen.own (flat_map (λ run. run.seen.own) desks) in
    elim (cases_lt 0 (occurrences place run.seen.own)) [
      | inl here ↦ own_eliminates_are_desks_lem listed run.desk unseen run.seen run.exchanges journal place worker each.0.0 each.0.1 has here
      | inr none ↦ desk_made listed journal place worker desks each.1 has (omega arith)
    ]

worker_made : (journal : List Event) (place worker : ℕ) (workers : List WorkerRun)
    → Each (λ run. All (HasEliminateOf run.worker journal) run.own) workers
    → HasEliminateOf worker journal place → 0 < occurrences place (flat_map (λ run. run.own) workers) → Any (λ run. run.worker ≡ worker) workers
worker_made journal place worker [] each has some = absurd (omega arith)
worker_made journal place worker (run ∷ workers) each has some =
    let sum : occurrences place (run.own ++ flat_map (λ run. run.own) workers) ≡ occurrences place run.own + occurrences place (flat_map (λ run. run.own) workers) =
    times_both place run.own (flat_map (λ run. run.own) workers) in
    elim (cases_lt 0 (occurrences place run.own)) [
      | inl here ↦
          (let mine : HasEliminateOf run.worker journal place =
          some_there (HasEliminateOf run.worker journal) place run.own (All-Each (HasEliminateOf run.worker journal) run.own each.0) here in
          (0, run, omega arith, refl, same_worker journal place run.worker worker mine has))
      | inr none ↦
          (let (k, other, within, at, same) = worker_made journal place worker workers each.1 has (omega arith) in
          (suc k, other, omega arith, at, same))
    ]

pub each_eliminate_has_its_worker_lem : EachEliminateHasItsWorker
each_eliminate_has_its_worker_lem listed journal desks workers place worker class verdict combination makes at =
    let own : List ℕ = flat_map (λ run. run.seen.own) desks in
    let others : List ℕ = flat_map (λ run. run.own) workers in
    let sum : occurrences place (own ++ others) ≡ occurrences place own + occurrences place others = times_both place own others in
    let once : occurrences place (own ++ others) ≡ 1 = makes.once place (place_within journal place (Eliminate worker class verdict combination) at) in
    let has : HasEliminateOf worker journal place = subst (λ (o : Option Event). IsSomeAnd o (IsEliminateOf worker)) (sym at) refl in
    elim (cases_lt 0 (occurrences place own)) [
      | inl desk ↦
          inl (desk_made listed journal place worker desks
          (All-Each (λ run. Conversation listed run.desk unseen run.seen run.exchanges × IsPrefix run.seen.journal journal) desks makes.conversations) has desk)
      | inr none ↦
          inr (worker_made journal place worker workers (All-Each (λ run. All (HasEliminateOf run.worker journal) run.own) workers makes.eliminations) has (omega arith))
    ]
