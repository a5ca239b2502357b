-- Laws of what a run leaves, from the laws of conversations and journals.
use Rattle.std.proofs.Common.{◌≡◌, ◌≢◌, ◌⊎◌, inl, inr, ℕ, suc, ◌+◌, ◌<◌, ◌≤◌, ◌==◌, Bool, true, false, cond, List, [], ◌∷◌, ◌++◌, length, map, get_or, take, drop, take-append-drop, append-nil, All, Some, slice_get, refl, ap, sym, ◌∙◌, subst, arith}
use Rattle.std.specs.Prelude.{Any, AllPairs}
use Rattle.std.specs.List.{flat_map}
use Rattle.std.proofs.lemmas.Bool.{eq-eqb, eqb-true, true≢false}
use Rattle.std.proofs.lemmas.List.Concat.{flat_map-append}
use mathlib.Core.List.{IsPrefix}
use Rattle.criteria_model.specs.Criteria.{Criteria}
use Rattle.criteria_model.specs.Answers.{IsSatisfiable, IsRanked, IsOpen, Opens}
use Rattle.pair_enumeration.specs.Listed.{Listed, IsListed}
use Rattle.row_laws.proofs.ListLemmas.{Any-cases, Any-here, Any-there}
use Rattle.survey_core.specs.declared.events.Event.{Event}
use Rattle.survey_core.specs.Histories.{committed}
use Rattle.survey_core.specs.Legal.{IsLegal}
use Rattle.survey_core.proofs.ListSteps.{Each, Each-All, All-Each}
use Rattle.survey_core.proofs.NextTables.{flat_map-same}
use Rattle.survey_core.proofs.RankingLemmas.{answers_are_satisfiable_lem, eliminated_are_ranked_lem, issued_are_open_lem}
use Rattle.survey_replies.specs.Gists.{gist_of}
use Rattle.survey_replies.specs.PlainLaws.{IsAlone}
use Rattle.survey_replies.specs.Outcomes.{Exchange, at_of}
use Rattle.survey_replies.specs.Calls.{Seen, unseen, Conversation, IsReplyIn, end_of, occurrences, places_of, reply_places}
use Rattle.survey_replies.specs.JournalLaws.{DeskRun, WorkerRun, MakesJournal}
use Rattle.survey_replies.specs.PlainRun.{IsPlainRun, plain_start}
use Rattle.survey_replies.specs.Records.{recorded}
use Rattle.survey_replies.proofs.CallLemmas.{no_place_falls_lem, own_are_of_replies_lem, prefix_get, read_same, replies_stand_lem}
use Rattle.survey_replies.proofs.JournalLemmas.{each_eliminate_has_its_worker_lem, each_has_one_reply_lem, times_both}
use Rattle.survey_replies.proofs.PlainLemmas.{alone_is_plain_lem, alone_is_the_plain_lem, legal_prefix}
use Rattle.survey_state.specs.States.{Surveyed}
use Rattle.survey_run.specs.Laws.{AnswersStaySatisfiable, DeskReadsWhatItWrote, EachEliminateHasItsMaker, EachEventHasItsReply, EachReplyStands, EliminatedWereRanked, IssuedWereOpen, OneDeskRunsPlain}
use Rattle.survey_run.specs.Runs.{IsSurveyRun}
use Rattle.survey_run.specs.Sessions.{MessageRun, SessionRun, all_exchanges, message_exchange, message_exchanges, of_desk}

-- ---- the journal
pub answers_stay_satisfiable_lem : AnswersStaySatisfiable
answers_stay_satisfiable_lem criteria workers sessions state count is =
    let front : List Event = take count state.journal in
    let legal : IsLegal state.listed front =
    legal_prefix state.listed front state.journal (drop count state.journal, take-append-drop count state.journal) is.legal in
    subst (λ (c : Criteria). IsSatisfiable c.levels (committed state.listed.classes front)) is.model
    (answers_are_satisfiable_lem state.listed front is.listed legal)

pub eliminated_were_ranked_lem : EliminatedWereRanked
eliminated_were_ranked_lem criteria workers sessions state before after worker place verdict combination pair is whole class =
    subst (λ (c : Criteria). IsRanked c.levels (committed state.listed.classes before) pair verdict) is.model
    (eliminated_are_ranked_lem state.listed state.journal before after worker place verdict combination pair is.legal whole class)

pub issued_were_open_lem : IssuedWereOpen
issued_were_open_lem criteria workers sessions state before after desk place plus minus pair is whole class =
    subst (λ (c : Criteria). Opens c.levels (committed state.listed.classes before) pair plus minus × IsOpen c.levels (committed state.listed.classes before) pair) is.model
    (issued_are_open_lem state.listed state.journal before after desk place plus minus pair is.legal whole class)

-- ---- what a desk said
-- the one conversation of a desk, over all its sessions
pub record DeskTalk (state : Surveyed) (sessions : List SessionRun) (desk : ℕ) : Type 0 where
  pub seen : Seen
  pub talk : Conversation state.listed desk unseen seen (all_exchanges (of_desk desk sessions))
  pub within : IsPrefix seen.journal state.journal

desk_talk : (criteria : Criteria) (workers : ℕ) (sessions : List SessionRun) (state : Surveyed) (desk : ℕ) (is : IsSurveyRun criteria workers sessions state)
    → Any (λ (run : DeskRun). run.desk ≡ desk) is.desks → DeskTalk state sessions desk
desk_talk criteria workers sessions state desk is (k, run, less, at, number) =
    let both = is.makes.conversations k run less in
    let said : run.exchanges ≡ all_exchanges (of_desk run.desk sessions) =
    subst (λ (r : DeskRun). r.exchanges ≡ all_exchanges (of_desk r.desk sessions)) at (is.said k run less) in
    let talk : Conversation state.listed run.desk unseen run.seen run.exchanges =
    subst (λ (r : DeskRun). Conversation state.listed r.desk unseen r.seen r.exchanges) at both.0 in
    record {
      seen = run.seen;
      talk = subst (λ (d : ℕ). Conversation state.listed d unseen run.seen (all_exchanges (of_desk d sessions))) number
          (subst (λ (exchanges : List Exchange). Conversation state.listed run.desk unseen run.seen exchanges) said talk);
      within = subst (λ (r : DeskRun). IsPrefix r.seen.journal state.journal) at both.1;
    }

-- the sessions of a desk have what all its exchanges have
each_message : (P : Exchange → Type 0) (messages : List MessageRun) → Each P (message_exchanges messages) → Each (λ (one : MessageRun). P (message_exchange one)) messages
each_message P [] each = tt
each_message P (one ∷ messages) each = (each.0, each_message P messages each.1)

each_split : {X : Type 0} (P : X → Type 0) (xs ys : List X) → Each P (xs ++ ys) → Each P xs × Each P ys
each_split P [] ys each = (tt, each)
each_split P (x ∷ xs) ys each = let rest = each_split P xs ys each.1 in ((each.0, rest.0), rest.1)

each_session : (P : Exchange → Type 0) (desk : ℕ) (sessions : List SessionRun) → Each P (all_exchanges (of_desk desk sessions))
    → Each (λ (session : SessionRun). session.desk ≡ desk → All (λ (one : MessageRun). P (message_exchange one)) session.messages) sessions
each_session P desk [] each = tt
each_session P desk (s ∷ ss) each =
    let Has = λ (session : SessionRun). session.desk ≡ desk → All (λ (one : MessageRun). P (message_exchange one)) session.messages in
    let go : (b : Bool) → (s.desk == desk) ≡ b → Each P (all_exchanges (cond b (s ∷ of_desk desk ss) (of_desk desk ss))) → Each Has (s ∷ ss) =
    λ b. elim b as (λ b. (s.desk == desk) ≡ b → Each P (all_exchanges (cond b (s ∷ of_desk desk ss) (of_desk desk ss))) → Each Has (s ∷ ss)) [
      | true ↦ λ yes all.
          (let parts = each_split P (message_exchanges s.messages) (all_exchanges (of_desk desk ss)) all in
          ((λ same. Each-All (λ (one : MessageRun). P (message_exchange one)) s.messages (each_message P s.messages parts.0)), each_session P desk ss parts.1))
      | false ↦ λ no all. ((λ same. absurd (true≢false (sym (eq-eqb s.desk desk same) ∙ no))), each_session P desk ss all)
    ] in
    go (s.desk == desk) refl each

pub each_reply_stands_lem : EachReplyStands
each_reply_stands_lem criteria workers sessions state is = λ k session within.
    let desk = (get_or sessions k session).desk in
    let talk = desk_talk criteria workers sessions state desk is (is.each k session within) in
    let Right = λ (exchange : Exchange). IsReplyIn state.listed desk state.journal exchange.request exchange.reply in
    let right = replies_stand_lem state.listed desk unseen talk.seen (all_exchanges (of_desk desk sessions)) state.journal talk.talk talk.within in
    Each-All (λ (s : SessionRun). s.desk ≡ desk → All (λ (one : MessageRun). Right (message_exchange one)) s.messages) sessions
    (each_session Right desk sessions (All-Each Right (all_exchanges (of_desk desk sessions)) right)) k session within refl

-- ---- order
some_or_none : (desk : ℕ) (sessions : List SessionRun) → (of_desk desk sessions ≡ []) ⊎ Any (λ (session : SessionRun). session.desk ≡ desk) sessions
some_or_none desk [] = inl refl
some_or_none desk (s ∷ ss) =
    let P = λ (session : SessionRun). session.desk ≡ desk in
    let go : (b : Bool) → (s.desk == desk) ≡ b → (cond b (s ∷ of_desk desk ss) (of_desk desk ss) ≡ []) ⊎ Any P (s ∷ ss) =
    λ b. elim b as (λ b. (s.desk == desk) ≡ b → (cond b (s ∷ of_desk desk ss) (of_desk desk ss) ≡ []) ⊎ Any P (s ∷ ss)) [
      | true ↦ λ yes. inr (Any-here P s ss (eqb-true s.desk desk yes))
      | false ↦ λ no. elim (some_or_none desk ss) [ inl none ↦ inl none | inr some ↦ inr (Any-there P s ss some) ]
    ] in
    go (s.desk == desk) refl

pub desk_reads_what_it_wrote_lem : DeskReadsWhatItWrote
desk_reads_what_it_wrote_lem criteria workers sessions state desk is =
    let mine = all_exchanges (of_desk desk sessions) in
    let InOrder = λ (one other : Exchange). end_of state.journal one.reply ≤ at_of other.reply in
    elim (some_or_none desk sessions) [
      | inl none ↦ subst (λ (ss : List SessionRun). AllPairs InOrder (all_exchanges ss)) (sym none) (λ i j d less within. absurd (omega (arith, within)))
      | inr some ↦
          (let (k, session, less, at, same) = some in
          let there : Any (λ (run : DeskRun). run.desk ≡ desk) is.desks =
          subst (λ (d : ℕ). Any (λ (run : DeskRun). run.desk ≡ d) is.desks) (ap {B = ℕ} (λ (s : SessionRun). s.desk) at ∙ same) (is.each k session less) in
          let talk = desk_talk criteria workers sessions state desk is there in
          let order = no_place_falls_lem state.listed desk unseen talk.seen mine talk.talk in
          let right = replies_stand_lem state.listed desk unseen talk.seen mine talk.seen.journal talk.talk ([], append-nil talk.seen.journal) in
          λ i j d less within.
          let one = (get_or mine i d).reply in
          let inside : i < length mine = omega (arith, less, within) in
          let ends = (right i d inside).within in
          let read = read_same talk.seen.journal state.journal one talk.within (omega (arith, ends)) in
          let same_end : end_of state.journal one ≡ end_of talk.seen.journal one = ap {B = ℕ} (λ (js : List Event). at_of one + recorded js one) read in
          rw same_end (order i j d less within))
    ]

-- ---- each event once
-- how often a place stands in the replies' last turns
replied : ℕ → List Event → List SessionRun → ℕ
replied place journal sessions = occurrences place (reply_places journal (all_exchanges sessions))

replied_first : ℕ → List Event → SessionRun → ℕ
replied_first place journal session = occurrences place (reply_places journal (message_exchanges session.messages))

by_desks : ℕ → List Event → List SessionRun → List DeskRun → ℕ
by_desks place journal sessions desks = occurrences place (flat_map (λ (run : DeskRun). reply_places journal (all_exchanges (of_desk run.desk sessions))) desks)

replied_none : (place : ℕ) (journal : List Event) → replied place journal [] ≡ 0
unfolding replied
replied_none place journal = refl

by_none : (place : ℕ) (journal : List Event) (sessions : List SessionRun) → by_desks place journal sessions [] ≡ 0
unfolding by_desks
by_none place journal sessions = refl

replied_more : (place : ℕ) (journal : List Event) (s : SessionRun) (ss : List SessionRun) → replied place journal (s ∷ ss) ≡ replied_first place journal s + replied place journal ss
unfolding replied replied_first
replied_more place journal s ss =
    ap {B = ℕ} (occurrences place) (flat_map-append (λ (exchange : Exchange). places_of journal exchange.reply) (message_exchanges s.messages) (all_exchanges ss))
    ∙ times_both place (reply_places journal (message_exchanges s.messages)) (reply_places journal (all_exchanges ss))

by_desks_more : (place : ℕ) (journal : List Event) (sessions : List SessionRun) (run : DeskRun) (desks : List DeskRun)
    → by_desks place journal sessions (run ∷ desks) ≡ replied place journal (of_desk run.desk sessions) + by_desks place journal sessions desks
unfolding by_desks replied
by_desks_more place journal sessions run desks =
    times_both place (reply_places journal (all_exchanges (of_desk run.desk sessions))) (flat_map (λ (run : DeskRun). reply_places journal (all_exchanges (of_desk run.desk sessions))) desks)

-- one more session, of this desk
one_desk_more : (place : ℕ) (journal : List Event) (s : SessionRun) (ss : List SessionRun) (desk : ℕ) → (s.desk == desk) ≡ true
    → replied place journal (of_desk desk (s ∷ ss)) ≡ replied_first place journal s + replied place journal (of_desk desk ss)
one_desk_more place journal s ss desk is = rw is (replied_more place journal s (of_desk desk ss))

-- of another
other_desk_more : (place : ℕ) (journal : List Event) (s : SessionRun) (ss : List SessionRun) (desk : ℕ) → (s.desk == desk) ≡ false
    → replied place journal (of_desk desk (s ∷ ss)) ≡ replied place journal (of_desk desk ss)
other_desk_more place journal s ss desk is = rw is refl

not_same : (a b : ℕ) → a ≢ b → (a == b) ≡ false
not_same a b other =
    let go : (c : Bool) → (a == b) ≡ c → c ≡ false = λ c. elim c as (λ c. (a == b) ≡ c → c ≡ false) [ true ↦ λ yes. absurd (other (eqb-true a b yes)) | false ↦ λ no. refl ] in
    go (a == b) refl

others_more : (place : ℕ) (journal : List Event) (s : SessionRun) (ss : List SessionRun) (desks : List DeskRun) → Each (λ (run : DeskRun). s.desk ≢ run.desk) desks
    → by_desks place journal (s ∷ ss) desks ≡ by_desks place journal ss desks
others_more place journal s ss [] each = by_none place journal (s ∷ ss) ∙ sym (by_none place journal ss)
others_more place journal s ss (run ∷ desks) each =
    let first : replied place journal (of_desk run.desk (s ∷ ss)) ≡ replied place journal (of_desk run.desk ss) = other_desk_more place journal s ss run.desk (not_same s.desk run.desk each.0) in
    let later = others_more place journal s ss desks each.1 in
    omega (arith, first, later, by_desks_more place journal (s ∷ ss) run desks, by_desks_more place journal ss run desks)

distinct_first : (run : DeskRun) (desks : List DeskRun) → AllPairs (λ (one other : DeskRun). one.desk ≢ other.desk) (run ∷ desks) → Each (λ (other : DeskRun). run.desk ≢ other.desk) desks
distinct_first run desks distinct = All-Each (λ (other : DeskRun). run.desk ≢ other.desk) desks (λ k d less. distinct 0 (suc k) d (omega arith) (omega (arith, less)))

distinct_rest : (run : DeskRun) (desks : List DeskRun) → AllPairs (λ (one other : DeskRun). one.desk ≢ other.desk) (run ∷ desks) → AllPairs (λ (one other : DeskRun). one.desk ≢ other.desk) desks
distinct_rest run desks distinct = λ i j d less within. distinct (suc i) (suc j) d (omega (arith, less)) (omega (arith, within))

session_more : (place : ℕ) (journal : List Event) (s : SessionRun) (ss : List SessionRun) (desks : List DeskRun) → Any (λ (run : DeskRun). run.desk ≡ s.desk) desks
    → AllPairs (λ (one other : DeskRun). one.desk ≢ other.desk) desks
    → by_desks place journal (s ∷ ss) desks ≡ replied_first place journal s + by_desks place journal ss desks
session_more place journal s ss [] (k, run, less, at, same) distinct = absurd (omega (arith, less))
session_more place journal s ss (run ∷ desks) some distinct =
    let whole = by_desks_more place journal (s ∷ ss) run desks in
    let part = by_desks_more place journal ss run desks in
    let go : (b : Bool) → (s.desk == run.desk) ≡ b → by_desks place journal (s ∷ ss) (run ∷ desks) ≡ replied_first place journal s + by_desks place journal ss (run ∷ desks) =
    λ b. elim b as (λ b. (s.desk == run.desk) ≡ b → by_desks place journal (s ∷ ss) (run ∷ desks) ≡ replied_first place journal s + by_desks place journal ss (run ∷ desks)) [
      | true ↦ λ yes.
          (let same : run.desk ≡ s.desk = sym (eqb-true s.desk run.desk yes) in
          let first : replied place journal (of_desk run.desk (s ∷ ss)) ≡ replied_first place journal s + replied place journal (of_desk run.desk ss) = one_desk_more place journal s ss run.desk yes in
          let later = others_more place journal s ss desks (subst (λ (d : ℕ). Each (λ (other : DeskRun). d ≢ other.desk) desks) same (distinct_first run desks distinct)) in
          omega (arith, whole, part, first, later))
      | false ↦ λ no.
          (let first : replied place journal (of_desk run.desk (s ∷ ss)) ≡ replied place journal (of_desk run.desk ss) = other_desk_more place journal s ss run.desk no in
          let rest : Any (λ (run : DeskRun). run.desk ≡ s.desk) desks = elim (Any-cases (λ (run : DeskRun). run.desk ≡ s.desk) run desks some) [
            | inl here ↦ absurd (true≢false (sym (eq-eqb s.desk run.desk (sym here)) ∙ no))
            | inr there ↦ there
          ] in
          let later = session_more place journal s ss desks rest (distinct_rest run desks distinct) in
          omega (arith, whole, part, first, later))
    ] in
    go (s.desk == run.desk) refl

nothing_more : (place : ℕ) (journal : List Event) (desks : List DeskRun) → by_desks place journal [] desks ≡ 0
nothing_more place journal [] = by_none place journal []
nothing_more place journal (run ∷ desks) =
    omega (arith, by_desks_more place journal [] run desks, replied_none place journal, nothing_more place journal desks)

-- desks that differ, and have each session's desk, have each session once
all_desks : (place : ℕ) (journal : List Event) (desks : List DeskRun) (sessions : List SessionRun) → AllPairs (λ (one other : DeskRun). one.desk ≢ other.desk) desks
    → Each (λ (session : SessionRun). Any (λ (run : DeskRun). run.desk ≡ session.desk) desks) sessions
    → by_desks place journal sessions desks ≡ replied place journal sessions
all_desks place journal desks [] distinct each = nothing_more place journal desks ∙ sym (replied_none place journal)
all_desks place journal desks (s ∷ ss) distinct each =
    omega (arith, session_more place journal s ss desks each.0 distinct, all_desks place journal desks ss distinct each.1, replied_more place journal s ss)

each_said : (journal : List Event) (sessions : List SessionRun) (desks : List DeskRun) → Each (λ (run : DeskRun). run.exchanges ≡ all_exchanges (of_desk run.desk sessions)) desks
    → Each (λ (run : DeskRun). reply_places journal run.exchanges ≡ reply_places journal (all_exchanges (of_desk run.desk sessions))) desks
each_said journal sessions [] each = tt
each_said journal sessions (run ∷ desks) each = (ap (reply_places journal) each.0, each_said journal sessions desks each.1)

pub each_event_has_its_reply_lem : EachEventHasItsReply
unfolding by_desks replied
each_event_has_its_reply_lem criteria workers sessions state place event is at none =
    let Said = λ (run : DeskRun). run.exchanges ≡ all_exchanges (of_desk run.desk sessions) in
    let Named = λ (session : SessionRun). Any (λ (run : DeskRun). run.desk ≡ session.desk) is.desks in
    let once = each_has_one_reply_lem state.listed state.journal is.desks is.eliminators place event is.makes at none in
    let same = flat_map-same (λ (run : DeskRun). reply_places state.journal run.exchanges) (λ (run : DeskRun). reply_places state.journal (all_exchanges (of_desk run.desk sessions))) is.desks
    (each_said state.journal sessions is.desks (All-Each Said is.desks is.said)) in
    let all : by_desks place state.journal sessions is.desks ≡ replied place state.journal sessions =
    all_desks place state.journal is.desks sessions is.makes.distinct (All-Each Named sessions is.each) in
    sym all ∙ (ap {B = ℕ} (occurrences place) (sym same) ∙ once)

-- ---- who eliminates
pub each_eliminate_has_its_maker_lem : EachEliminateHasItsMaker
each_eliminate_has_its_maker_lem criteria workers sessions state place worker class verdict combination is at =
    elim (each_eliminate_has_its_worker_lem state.listed state.journal is.desks is.eliminators place worker class verdict combination is.makes at) [
      | inl none ↦ omega (arith, none)
      | inr some ↦
          (let (k, run, less, there, same) = some in
          let most : run.worker ≤ workers = subst (λ (r : WorkerRun). r.worker ≤ workers) there (is.numbered k run less) in
          omega (arith, most, same))
    ]

-- ---- one desk
all_of_desk : (desk : ℕ) (sessions : List SessionRun) → Each (λ (session : SessionRun). session.desk ≡ desk) sessions → of_desk desk sessions ≡ sessions
all_of_desk desk [] each = refl
all_of_desk desk (s ∷ ss) each = rw (eq-eqb s.desk desk each.0) (ap (λ (xs : List SessionRun). s ∷ xs) (all_of_desk desk ss each.1))

desk_is : (desk : ℕ) (sessions : List SessionRun) (run : DeskRun) → All (λ (session : SessionRun). session.desk ≡ desk) sessions
    → Any (λ (session : SessionRun). session.desk ≡ run.desk) sessions → run.desk ≡ desk
desk_is desk sessions run all (k, session, less, at, same) = sym same ∙ subst (λ (s : SessionRun). s.desk ≡ desk) at (all k session less)

-- the replies of a plain run, and of every other of the same requests
RunsPlain : Listed → List Exchange → Type 0
RunsPlain listed exchanges =
    IsPlainRun listed plain_start exchanges
    × ((others : List Exchange) → map (λ (exchange : Exchange). exchange.request) others ≡ map (λ (exchange : Exchange). exchange.request) exchanges → IsPlainRun listed plain_start others
    → map (λ (exchange : Exchange). gist_of exchange.reply) others ≡ map (λ (exchange : Exchange). gist_of exchange.reply) exchanges)

-- the events that are no eliminations are the one desk's own
one_is_alone : (listed : Listed) (journal : List Event) (run : DeskRun) (eliminators : List WorkerRun) → MakesJournal listed journal (run ∷ []) eliminators
    → Conversation listed run.desk unseen run.seen run.exchanges → IsPrefix run.seen.journal journal → IsAlone run.seen
one_is_alone listed journal run eliminators makes talk prefix place event at none =
    let whole : slice_get journal place ≡ Some event = prefix_get run.seen.journal journal place event prefix at in
    let once : occurrences place (reply_places journal run.exchanges ++ []) ≡ 1 = each_has_one_reply_lem listed journal (run ∷ []) eliminators place event makes whole none in
    let own = own_are_of_replies_lem listed run.desk unseen run.seen run.exchanges journal place event talk prefix whole none in
    omega (arith, once, own, times_both place (reply_places journal run.exchanges) [])

one_runs_plain : (listed : Listed) (journal : List Event) (run : DeskRun) (eliminators : List WorkerRun) → IsListed listed → IsLegal listed journal
    → MakesJournal listed journal (run ∷ []) eliminators → RunsPlain listed run.exchanges
unfolding RunsPlain
one_runs_plain listed journal run eliminators model legal makes =
    let Speaks = λ (run : DeskRun). Conversation listed run.desk unseen run.seen run.exchanges × IsPrefix run.seen.journal journal in
    let each = All-Each Speaks (run ∷ []) makes.conversations in
    let alone = one_is_alone listed journal run eliminators makes each.0.0 each.0.1 in
    let seen_legal = legal_prefix listed run.seen.journal journal each.0.1 legal in (
      alone_is_plain_lem listed run.desk run.seen run.exchanges model seen_legal each.0.0 alone,
      λ others same plain. alone_is_the_plain_lem listed run.desk run.seen run.exchanges others model seen_legal each.0.0 alone same plain,
    )

only_desk : (state : Surveyed) (desk : ℕ) (sessions : List SessionRun) (desks : List DeskRun) (eliminators : List WorkerRun) → IsListed state.listed → IsLegal state.listed state.journal
    → MakesJournal state.listed state.journal desks eliminators → Each (λ (run : DeskRun). run.exchanges ≡ all_exchanges (of_desk run.desk sessions)) desks
    → Each (λ (run : DeskRun). Any (λ (session : SessionRun). session.desk ≡ run.desk) sessions) desks → All (λ (session : SessionRun). session.desk ≡ desk) sessions
    → Any (λ (run : DeskRun). run.desk ≡ desk) desks → RunsPlain state.listed (all_exchanges sessions)
only_desk state desk sessions [] eliminators listed legal makes said only all (k, run, less, at, same) = absurd (omega (arith, less))
only_desk state desk sessions (run ∷ []) eliminators listed legal makes said only all some =
    let mine : of_desk run.desk sessions ≡ sessions =
    rw (desk_is desk sessions run all only.0) (all_of_desk desk sessions (All-Each (λ (session : SessionRun). session.desk ≡ desk) sessions all)) in
    subst (RunsPlain state.listed) (said.0 ∙ ap all_exchanges mine) (one_runs_plain state.listed state.journal run eliminators listed legal makes)
only_desk state desk sessions (run ∷ other ∷ desks) eliminators listed legal makes said only all some =
    absurd (makes.distinct 0 1 run (omega arith) (omega arith) (desk_is desk sessions run all only.0 ∙ sym (desk_is desk sessions other all only.1.0)))

pub one_desk_runs_plain_lem : OneDeskRunsPlain
unfolding RunsPlain
one_desk_runs_plain_lem criteria workers [] state desk is all some = absurd (some refl)
one_desk_runs_plain_lem criteria workers (s ∷ ss) state desk is all some =
    let there : Any (λ (run : DeskRun). run.desk ≡ desk) is.desks =
    subst (λ (d : ℕ). Any (λ (run : DeskRun). run.desk ≡ d) is.desks) (all 0 s (omega arith)) (is.each 0 s (omega arith)) in
    only_desk state desk (s ∷ ss) is.desks is.eliminators is.listed is.legal is.makes
    (All-Each (λ (run : DeskRun). run.exchanges ≡ all_exchanges (of_desk run.desk (s ∷ ss))) is.desks is.said)
    (All-Each (λ (run : DeskRun). Any (λ (session : SessionRun). session.desk ≡ run.desk) (s ∷ ss)) is.desks is.only) all there
