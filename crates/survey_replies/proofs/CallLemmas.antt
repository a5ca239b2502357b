-- What conversations come to.
use Rattle.std.proofs.Common.{◌≡◌, ℕ, zero, suc, ◌+◌, ◌-◌, ◌<◌, ◌≤◌, ◌==◌, Bool, true, false, cond, List, [], ◌∷◌, ◌++◌, length, take, drop, All, Option, Some, None, slice_get, IsSomeAnd, refl, ap, sym, subst, ◌∙◌, arith, append_assoc, append-nil, length-append, length-drop}
use Rattle.std.specs.Prelude.{slice_range, AllPairs}
use Rattle.std.specs.List.{range_with_len}
use mathlib.Core.List.{IsPrefix}
use Rattle.std.proofs.lemmas.Bool.{eqb-true}
use Rattle.std.proofs.lemmas.List.{take-append-le, drop-append-le}
use Rattle.std.proofs.lemmas.List.Sums.{sum_by-cons}
use Rattle.pair_enumeration.specs.Listed.{Listed}
use Rattle.survey_core.specs.declared.events.Event.{Event}
use Rattle.survey_core.specs.declared.events.Event.TheVariants.{Eliminate, Issue, Commit, Close, Withdraw}
use Rattle.survey_core.specs.Kinds.{issued_place}
use Rattle.survey_core.specs.Histories.{issued}
use Rattle.row_laws.proofs.ItemLemmas.{item_at-append}
use Rattle.std.proofs.lemmas.List.Elements.{filter_map-append}
use Rattle.survey_replies.specs.Requests as request
use Rattle.survey_core.proofs.ListSteps.{some_and, some_at, Each, Each-map, Each-All, All-Each, slice_get-append}
use Rattle.survey_replies.specs.Requests.{Request}
use Rattle.survey_replies.specs.Outcomes.{Outcome}
use Rattle.survey_replies.specs.Interview.{interview}
use Rattle.survey_replies.specs.ReplyLaw.{IsReplyTo}
use Rattle.survey_replies.specs.Certificates.{Carries}
use Rattle.survey_replies.specs.Records.{Records, AreRankedByEvents, recorded}
use Rattle.survey_replies.specs.Outcomes.{Exchange}
use Rattle.survey_replies.specs.Calls.{read_by, end_of, places_of, IsReplyIn, Seen, IsEliminateOf, HasEliminateOf, MayEliminateFor, IsEliminateFor, HasEliminateFor, IsCall, Watches, Conversation, reply_places, occurrences}
use Rattle.survey_replies.specs.Outcomes.{at_of}
use Rattle.survey_replies.specs.CallLaws.{ReplyStays, ConversationsJoin, RepliesStand, NoPlaceFalls, IsNoEliminate, OwnAreOfReplies}
use Rattle.survey_replies.proofs.InterviewLemmas.{count_by-append}

-- ---- prefixes
pub prefix_trans : (a b c : List Event) → IsPrefix a b → IsPrefix b c → IsPrefix a c
prefix_trans a b c (t, one) (u, other) = (t ++ u, sym (append_assoc a t u) ∙ ap (λ l. l ++ u) one ∙ other)

pub prefix_length : (a b : List Event) → IsPrefix a b → length a ≤ length b
prefix_length a b (t, same) = omega (arith, ap (λ (l : List Event). length l) same, length-append a t)

pub prefix_get : (a b : List Event) (k : ℕ) (event : Event) → IsPrefix a b → slice_get a k ≡ Some event → slice_get b k ≡ Some event
prefix_get a b k event (t, same) at = sym (ap (λ (l : List Event). slice_get l k) same) ∙ slice_get-append a t k event at

pub read_same : (journal longer : List Event) (reply : Outcome) → IsPrefix journal longer → at_of reply ≤ length journal → read_by longer reply ≡ read_by journal reply
read_same journal longer reply (t, same) within = ap (λ (l : List Event). take (at_of reply) l) (sym same) ∙ take-append-le (at_of reply) journal t within

range_same : (journal longer : List Event) (from to : ℕ) → IsPrefix journal longer → from ≤ to → to ≤ length journal
    → slice_range longer from to ≡ slice_range journal from to
range_same journal longer from to (t, same) order within =
    ap (λ (l : List Event). take (to - from) (drop from l)) (sym same)
    ∙ ap (λ (l : List Event). take (to - from) l) (drop-append-le from journal t (omega arith))
    ∙ take-append-le (to - from) (drop from journal) t (omega (arith, length-drop from journal))

ends_same : (journal longer : List Event) (reply : Outcome) → IsPrefix journal longer → end_of journal reply ≤ length journal → end_of longer reply ≡ end_of journal reply
ends_same journal longer reply prefix within =
    ap (λ (l : List Event). at_of reply + recorded l reply) (read_same journal longer reply prefix (omega arith))

pub places_same : (journal longer : List Event) (reply : Outcome) → IsPrefix journal longer → end_of journal reply ≤ length journal → places_of longer reply ≡ places_of journal reply
places_same journal longer reply prefix within =
    ap (λ (l : List Event). range_with_len (at_of reply) (recorded l reply)) (read_same journal longer reply prefix (omega arith))

pub reply_stays_lem : ReplyStays
reply_stays_lem listed desk journal longer request reply prefix replied =
    let read : read_by journal reply ≡ read_by longer reply = sym (read_same journal longer reply prefix (omega (arith, replied.within))) in
    let ends : end_of longer reply ≡ end_of journal reply = ends_same journal longer reply prefix replied.within in
    let events : slice_range journal (at_of reply) (end_of journal reply) ≡ slice_range longer (at_of reply) (end_of longer reply) =
    sym (ap (λ k. slice_range longer (at_of reply) k) ends ∙ range_same journal longer (at_of reply) (end_of journal reply) prefix (omega arith) replied.within) in
    record {
      within = omega (arith, replied.within, prefix_length journal longer prefix);
      by_law = subst (λ (l : List Event). IsReplyTo listed (interview listed l) request reply) read replied.by_law;
      carried = subst (λ (l : List Event). Carries listed (interview listed l) reply) read replied.carried;
      ranked = subst (λ (l : List Event). AreRankedByEvents listed l reply) read replied.ranked;
      appended =
          subst (λ (l : List Event). Records desk l request reply (slice_range longer (at_of reply) (end_of longer reply))) read
          (subst (λ (l : List Event). Records desk (read_by journal reply) request reply l) events replied.appended);
    }

-- ---- joining
watches_both : (a b c : Seen) → Watches a b → Watches b c → Watches a c
watches_both a b c one other = record { longer = prefix_trans a.journal b.journal c.journal one.longer other.longer; own = other.own ∙ one.own }

turns_later : (listed : Listed) (desk : ℕ) (earlier before after : Seen) (request : Request) (reply : Outcome) → Watches earlier before
    → IsCall listed desk before after request reply → IsCall listed desk earlier after request reply
turns_later listed desk earlier before after request reply watches turns =
    let shorter : length earlier.journal ≤ length before.journal = prefix_length earlier.journal before.journal watches.longer in
    record {
      replied = turns.replied;
      longer = prefix_trans earlier.journal before.journal after.journal watches.longer turns.longer;
      later = omega (arith, turns.later);
      ends = turns.ends;
      eliminated = turns.eliminated;
      once = turns.once;
      eliminations = λ k d within. (let h = turns.eliminations k d within in (omega (arith, h.0), h.1, h.2));
      own = turns.own ∙ ap (λ (l : List ℕ). l ++ turns.eliminated ++ places_of after.journal reply) watches.own;
    }

pub conversations_join_lem : ConversationsJoin
conversations_join_lem listed desk before middle after [] [] one other = watches_both before middle after one other
conversations_join_lem listed desk before middle after [] (exchange ∷ more) one (next, turns, rest) =
    (next, turns_later listed desk before middle next exchange.request exchange.reply one turns, rest)
conversations_join_lem listed desk before middle after (exchange ∷ exchanges) more (next, turns, rest) other =
    (next, turns, conversations_join_lem listed desk next middle after exchanges more rest other)

pub conversation_longer : (listed : Listed) (desk : ℕ) (before after : Seen) (exchanges : List Exchange) → Conversation listed desk before after exchanges
    → IsPrefix before.journal after.journal
conversation_longer listed desk before after [] watches = watches.longer
conversation_longer listed desk before after (exchange ∷ exchanges) (middle, turns, rest) =
    prefix_trans before.journal middle.journal after.journal turns.longer (conversation_longer listed desk middle after exchanges rest)

-- ---- each reply
each_stands : (listed : Listed) (desk : ℕ) (before after : Seen) (exchanges : List Exchange) (journal : List Event)
    → Conversation listed desk before after exchanges → IsPrefix after.journal journal
    → Each (λ exchange. IsReplyIn listed desk journal exchange.request exchange.reply) exchanges
each_stands listed desk before after [] journal watches prefix = tt
each_stands listed desk before after (exchange ∷ exchanges) journal (middle, turns, rest) prefix = (
  reply_stays_lem listed desk middle.journal journal exchange.request exchange.reply
      (prefix_trans middle.journal after.journal journal (conversation_longer listed desk middle after exchanges rest) prefix) turns.replied,
  each_stands listed desk middle after exchanges journal rest prefix,
)

pub replies_stand_lem : RepliesStand
replies_stand_lem listed desk before after exchanges journal conversation prefix =
    Each-All (λ exchange. IsReplyIn listed desk journal exchange.request exchange.reply) exchanges
    (each_stands listed desk before after exchanges journal conversation prefix)

pub each_later : (listed : Listed) (desk : ℕ) (before after : Seen) (exchanges : List Exchange) (least : ℕ) → least ≤ length before.journal
    → Conversation listed desk before after exchanges → Each (λ exchange. least ≤ at_of exchange.reply) exchanges
each_later listed desk before after [] least low watches = tt
each_later listed desk before after (exchange ∷ exchanges) least low (middle, turns, rest) = (
  omega (arith, turns.later),
  each_later listed desk middle after exchanges least (omega (arith, prefix_length before.journal middle.journal turns.longer)) rest,
)

pub pairs_cons : {X : Type 0} (R : X → X → Type 0) (x : X) (xs : List X) → All (R x) xs → AllPairs R xs → AllPairs R (x ∷ xs)
pairs_cons R x xs first others i zero d less within = absurd (omega arith)
pairs_cons R x xs first others zero (suc j) d less within = first j d (omega arith)
pairs_cons R x xs first others (suc i) (suc j) d less within = others i j d (omega arith) (omega arith)

pub no_place_falls_lem : NoPlaceFalls
no_place_falls_lem listed desk before after [] watches = λ i j d less within. absurd (omega arith)
no_place_falls_lem listed desk before after (exchange ∷ exchanges) (middle, turns, rest) =
    let longer : IsPrefix middle.journal after.journal = conversation_longer listed desk middle after exchanges rest in
    let ends : end_of after.journal exchange.reply ≡ end_of middle.journal exchange.reply =
    ends_same middle.journal after.journal exchange.reply longer turns.replied.within in
    pairs_cons (λ one other. end_of after.journal one.reply ≤ at_of other.reply) exchange exchanges
    (Each-All (λ other. end_of after.journal exchange.reply ≤ at_of other.reply) exchanges
    (each_later listed desk middle after exchanges (end_of after.journal exchange.reply) (omega (arith, turns.ends)) rest))
    (no_place_falls_lem listed desk middle after exchanges rest)

-- ---- own places
pub none_there : (place : ℕ) (places : List ℕ) → Each (λ other. other ≡ place → ⊥) places → occurrences place places ≡ 0
none_there place [] each = refl
none_there place (other ∷ places) each =
    let ih : occurrences place places ≡ 0 = none_there place places each.1 in
    let go : (b : Bool) → (other == place) ≡ b → cond b 1 0 + occurrences place places ≡ 0 =
    λ b. elim b as (λ b. (other == place) ≡ b → cond b 1 0 + occurrences place places ≡ 0) [
      | true ↦ λ yes. absurd (each.0 (eqb-true other place yes))
      | false ↦ λ no. omega arith
    ]
    in sum_by-cons (λ x. cond (x == place) 1 0) other places ∙ go (other == place) refl

-- an event can't be both
pub not_eliminate : (journal : List Event) (worker place : ℕ) (event : Event) → slice_get journal place ≡ Some event → IsNoEliminate event
    → HasEliminateOf worker journal place → ⊥
not_eliminate journal worker place event at none has = none worker (subst (λ (o : Option Event). IsSomeAnd o (IsEliminateOf worker)) at has)

pub has_longer : (journal longer : List Event) (worker place : ℕ) → IsPrefix journal longer → HasEliminateOf worker journal place → HasEliminateOf worker longer place
has_longer journal longer worker place prefix has =
    let go : (o : Option Event) → slice_get journal place ≡ o → IsSomeAnd o (IsEliminateOf worker) → HasEliminateOf worker longer place =
    λ o. elim o as (λ o. slice_get journal place ≡ o → IsSomeAnd o (IsEliminateOf worker) → HasEliminateOf worker longer place) [
      | None ↦ λ at h. absurd h
      | Some event ↦ λ at h. subst (λ (o : Option Event). IsSomeAnd o (IsEliminateOf worker)) (sym (prefix_get journal longer place event prefix at)) h
    ]
    in go (slice_get journal place) refl has

-- ---- eliminations for a request
is_eliminate : (asked : List ℕ) (request : Request) (event : Event) → IsEliminateFor asked request event → IsEliminateOf 0 event
is_eliminate asked request (Eliminate worker place verdict combination) is = is.0
is_eliminate asked request (Issue desk place plus minus) is = absurd is
is_eliminate asked request (Commit desk question side plus minus point) is = absurd is
is_eliminate asked request (Close desk question) is = absurd is
is_eliminate asked request (Withdraw desk answer) is = absurd is

pub eliminate_of : (journal : List Event) (request : Request) (place : ℕ) → HasEliminateFor journal request place → HasEliminateOf 0 journal place
eliminate_of journal request place has =
    let found : (event : Event) × (slice_get journal place ≡ Some event) × IsEliminateFor (issued journal) request event =
    some_and (slice_get journal place) (IsEliminateFor (issued journal) request) has in
    some_at (slice_get journal place) (IsEliminateOf 0) found.0 found.1 (is_eliminate (issued journal) request found.0 found.2)

may_eliminate_more : (asked more : List ℕ) (asks : Request) (place : ℕ) → MayEliminateFor asked asks place → MayEliminateFor (asked ++ more) asks place
may_eliminate_more asked more request.next place may = tt
may_eliminate_more asked more (request.answer question side) place may = item_at-append asked more question place may
may_eliminate_more asked more request.values place may = tt
may_eliminate_more asked more request.withdraw place may = absurd may
may_eliminate_more asked more request.look place may = absurd may

pub is_eliminate_more : (asked more : List ℕ) (asks : Request) (event : Event) → IsEliminateFor asked asks event → IsEliminateFor (asked ++ more) asks event
is_eliminate_more asked more asks (Eliminate worker place verdict combination) is = (is.0, may_eliminate_more asked more asks place is.1)
is_eliminate_more asked more asks (Issue desk place plus minus) is = absurd is
is_eliminate_more asked more asks (Commit desk question side plus minus point) is = absurd is
is_eliminate_more asked more asks (Close desk question) is = absurd is
is_eliminate_more asked more asks (Withdraw desk answer) is = absurd is

pub eliminate_longer : (journal longer : List Event) (asks : Request) (place : ℕ) → IsPrefix journal longer → HasEliminateFor journal asks place
    → HasEliminateFor longer asks place
eliminate_longer journal longer asks place (more, same) has =
    let found : (event : Event) × (slice_get journal place ≡ Some event) × IsEliminateFor (issued journal) asks event =
    some_and (slice_get journal place) (IsEliminateFor (issued journal) asks) has in
    let asked : issued longer ≡ issued journal ++ issued more = ap issued (sym same) ∙ filter_map-append issued_place journal more in
    some_at (slice_get longer place) (IsEliminateFor (issued longer) asks) found.0 (prefix_get journal longer place found.0 (more, same) found.1)
    (subst (λ (l : List ℕ). IsEliminateFor l asks found.0) (sym asked)
    (is_eliminate_more (issued journal) (issued more) asks found.0 found.2))

pub own_are_of_replies_lem : OwnAreOfReplies
own_are_of_replies_lem listed desk before after [] journal place event watches prefix at none = omega (arith, ap (occurrences place) watches.own)
own_are_of_replies_lem listed desk before after (exchange ∷ exchanges) journal place event (middle, turns, rest) prefix at none =
    let longer : IsPrefix middle.journal journal =
    prefix_trans middle.journal after.journal journal (conversation_longer listed desk middle after exchanges rest) prefix in
    let ih : occurrences place after.own ≡ occurrences place middle.own + occurrences place (reply_places journal exchanges) =
    own_are_of_replies_lem listed desk middle after exchanges journal place event rest prefix at none in
    let mine : List ℕ = places_of middle.journal exchange.reply in
    let places : places_of journal exchange.reply ≡ mine = places_same middle.journal journal exchange.reply longer turns.replied.within in
    let apart : Each (λ other. other ≡ place → ⊥) turns.eliminated =
    Each-map (λ other. (length before.journal ≤ other) × (other < at_of exchange.reply) × HasEliminateFor middle.journal exchange.request other) (λ other. other ≡ place → ⊥)
    (λ other h same. not_eliminate journal 0 place event at none
    (subst (λ k. HasEliminateOf 0 journal k) same (has_longer middle.journal journal 0 other longer (eliminate_of middle.journal exchange.request other h.2)))) turns.eliminated
    (All-Each (λ other. (length before.journal ≤ other) × (other < at_of exchange.reply) × HasEliminateFor middle.journal exchange.request other) turns.eliminated turns.eliminations) in
    let gone : occurrences place turns.eliminated ≡ 0 = none_there place turns.eliminated apart in
    let own : occurrences place middle.own ≡ occurrences place (before.own ++ turns.eliminated ++ mine) = ap (occurrences place) turns.own in
    let parts : occurrences place (before.own ++ turns.eliminated ++ mine) ≡ occurrences place (before.own ++ turns.eliminated) + occurrences place mine =
    count_by-append (λ other. other == place) (before.own ++ turns.eliminated) mine in
    let parts' : occurrences place (before.own ++ turns.eliminated) ≡ occurrences place before.own + occurrences place turns.eliminated =
    count_by-append (λ other. other == place) before.own turns.eliminated in
    let whole : occurrences place (reply_places journal (exchange ∷ exchanges)) ≡ occurrences place (places_of journal exchange.reply) + occurrences place (reply_places journal exchanges) =
    count_by-append (λ other. other == place) (places_of journal exchange.reply) (reply_places journal exchanges) in
    let same : occurrences place (places_of journal exchange.reply) ≡ occurrences place mine = ap (occurrences place) places in
    omega arith

-- ---- in a loop
pub not_begun : (listed : Listed) (desk : ℕ) (seen : Seen) → Conversation listed desk seen seen []
not_begun listed desk seen = record { longer = ([], append-nil seen.journal); own = refl }

pub conversation_more : (listed : Listed) (desk : ℕ) (before middle after : Seen) (exchanges : List Exchange) (exchange : Exchange)
    → Conversation listed desk before middle exchanges → IsCall listed desk middle after exchange.request exchange.reply
    → Conversation listed desk before after (exchanges ++ exchange ∷ [])
conversation_more listed desk before middle after exchanges exchange conversation turns =
    conversations_join_lem listed desk before middle after exchanges (exchange ∷ []) conversation (after, turns, not_begun listed desk after)

pub conversation_watched : (listed : Listed) (desk : ℕ) (before middle after : Seen) (exchanges : List Exchange)
    → Conversation listed desk before middle exchanges → Watches middle after → Conversation listed desk before after exchanges
conversation_watched listed desk before middle after exchanges conversation watches =
    subst (λ (l : List Exchange). Conversation listed desk before after l) (append-nil exchanges)
    (conversations_join_lem listed desk before middle after exchanges [] conversation watches)
