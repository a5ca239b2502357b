-- A respondent's survey after the run of a script.
use Rattle.std.proofs.Common.{◌≡◌, ◌≢◌, ℕ, zero, suc, ◌+◌, ◌-◌, ◌==◌, ◌&&◌, ◌||◌, Bool, true, false, cond, List, [], ◌∷◌, ◌++◌, length, map, Option, Some, slice_get, refl, ap, sym, ◌∙◌, subst, arith}
use Rattle.std.specs.Prelude.{Any}
use Rattle.std.specs.List.{AllByRecursion, filter, flat_map, list_any}
use Rattle.std.specs.Option.{option_and_then}
use Rattle.std.proofs.lemmas.Bool.{eq-eqb, eqb-true, true≢false}
use Rattle.std.proofs.lemmas.Option.{none-some, same_Some}
use Rattle.std.proofs.lemmas.List.Kept.{AllPairs-filter}
use mathlib.Core.List.{IsPrefix}
use Rattle.criteria_model.specs.Criteria.{Criteria}
use Rattle.pair_enumeration.specs.Listed.{Listed}
use Rattle.row_laws.specs.Items.{item_at}
use Rattle.row_laws.proofs.ItemLemmas.{item_of, slice_get_inside}
use Rattle.row_laws.proofs.ListLemmas.{Any-here, Any-there}
use Rattle.survey_core.proofs.ListSteps.{Each, Each-All, All-Each, Each-filter, Each-map}
use Rattle.survey_core.specs.declared.events.Event.{Event}
use Rattle.survey_core.specs.Legal.{IsDesk}
use Rattle.survey_replies.specs.Outcomes.{Exchange}
use Rattle.survey_replies.specs.Calls.{Seen, unseen, Conversation, occurrences}
use Rattle.survey_replies.specs.JournalLaws.{DeskRun, WorkerRun, MakesJournal}
use Rattle.survey_script.specs.ScriptViews.{ScriptSessionView}
use Rattle.survey_run.specs.declared.ends.SurveyEnd.{SurveyEnd}
use Rattle.survey_run.specs.declared.plans.DeskTold.{DeskTold}
use Rattle.survey_run.specs.Collects.{part_at, run_at, runs_from}
use Rattle.survey_run.specs.Desks.{DeskSession, IsSaid, IsSaidBy, is_at, said_exchanges}
use Rattle.survey_run.specs.Each.{EachZipFrom}
use Rattle.survey_run.specs.Ends.{DeskPart, IsEndOf, IsPartOf, desk_run}
use Rattle.survey_run.specs.Runs.{IsSurveyRun}
use Rattle.survey_run.specs.Sessions.{SessionRun, all_exchanges, message_exchanges, of_desk, of_respondent}
use Rattle.survey_run.proofs.EachLemmas.{zip_length}
use Rattle.survey_run.proofs.ListLemmas.{flat_filter, get_map}
use Rattle.survey_run.proofs.RunLemmas.{desk_exchanges}
use Rattle.survey_run.proofs.SayLemmas.{or_none}

-- the desk has a session
abbrev pub has_session : ℕ → List ScriptSessionView → DeskRun → Bool
has_session respondent sessions run = list_any (is_at respondent run.desk) sessions

-- ---- desks without sessions may be left out
desks_left : (listed : Listed) (journal : List Event) (desks : List DeskRun) (workers : List WorkerRun) (p : DeskRun → Bool) → MakesJournal listed journal desks workers
    → AllByRecursion (λ (run : DeskRun). p run ≡ false → run.seen.own ≡ []) desks → MakesJournal listed journal (filter p desks) workers
desks_left listed journal desks workers p makes idle =
    let speaks = λ (run : DeskRun). Conversation listed run.desk unseen run.seen run.exchanges × IsPrefix run.seen.journal journal in
    record {
      conversations = Each-All speaks (filter p desks)
          (Each-map (λ (run : DeskRun). speaks run × (p run ≡ true)) speaks (λ run both. both.0) (filter p desks)
          (Each-filter speaks p desks (All-Each speaks desks makes.conversations)));
      eliminations = makes.eliminations;
      distinct = AllPairs-filter (λ (one : DeskRun) (other : DeskRun). one.desk ≢ other.desk) p desks makes.distinct;
      numbered = makes.numbered;
      once = λ place within.
          ap {B = ℕ} (λ (own : List ℕ). occurrences place (own ++ flat_map (λ (run : WorkerRun). run.own) workers)) (flat_filter (λ (run : DeskRun). run.seen.own) p desks idle)
          ∙ makes.once place within;
    }

-- a desk without sessions has said nothing
silent : (classes respondent desk : ℕ) (sessions : List ScriptSessionView) (said : List DeskSession) → AllByRecursion (IsSaidBy classes respondent desk) said
    → map (λ (one : DeskSession). one.session) said ≡ sessions → list_any (is_at respondent desk) sessions ≡ false → said_exchanges said ≡ []
silent classes respondent desk sessions [] each of none = refl
silent classes respondent desk sessions (one ∷ rest) each of none =
    let later : List ScriptSessionView = map (λ (one : DeskSession). one.session) rest in
    let parts = or_none (is_at respondent desk one.session) (list_any (is_at respondent desk) later) (ap (list_any (is_at respondent desk)) of ∙ none) in
    let nothing : IsSaid classes desk false one = subst (λ (b : Bool). IsSaid classes desk b one) parts.0 each.0 in
    ap (λ (xs : List Exchange). xs ++ said_exchanges rest) (ap message_exchanges nothing.0) ∙ silent classes respondent desk later rest each.1 refl parts.1

idle_owns_none : (listed : Listed) (desk : ℕ) (seen : Seen) (exchanges : List Exchange) → exchanges ≡ [] → Conversation listed desk unseen seen exchanges → seen.own ≡ []
idle_owns_none listed desk seen exchanges none talk = let watches = subst (Conversation listed desk unseen seen) none talk in watches.own

idle_desks : (listed : Listed) (respondent : ℕ) (sessions : List ScriptSessionView) (journal : List Event) (n : ℕ) (parts : List DeskPart) (told : List DeskTold)
    → EachZipFrom (IsPartOf listed respondent sessions journal) n parts told
    → AllByRecursion (λ (run : DeskRun). has_session respondent sessions run ≡ false → run.seen.own ≡ []) (map desk_run parts)
idle_desks listed respondent sessions journal n [] [] each = tt
idle_desks listed respondent sessions journal n [] (t ∷ ts) each = absurd each
idle_desks listed respondent sessions journal n (p ∷ ps) [] each = absurd each
idle_desks listed respondent sessions journal n (p ∷ ps) (t ∷ ts) each =
    let part = each.0 in (
      (λ none. idle_owns_none listed (n + 1) p.seen (said_exchanges p.said)
          (silent (length listed.classes) respondent (n + 1) sessions p.said part.each part.of (subst (λ (d : ℕ). list_any (is_at respondent d) sessions ≡ false) part.number none)) part.talk),
      idle_desks listed respondent sessions journal (n + 1) ps ts each.1,
    )

-- ---- each desk's exchanges
said_all : (listed : Listed) (respondent : ℕ) (sessions : List ScriptSessionView) (journal : List Event) (parts : List (List DeskPart)) (desks : List DeskPart)
    → item_at parts respondent ≡ Some desks → (n : ℕ) (rest : List DeskPart) (told : List DeskTold) → EachZipFrom (IsPartOf listed respondent sessions journal) n rest told
    → ((k : ℕ) (p : DeskPart) → slice_get rest k ≡ Some p → slice_get desks (n + k) ≡ Some p)
    → Each (λ (run : DeskRun). run.exchanges ≡ all_exchanges (of_desk run.desk (of_respondent respondent (runs_from parts 0 sessions)))) (map desk_run rest)
said_all listed respondent sessions journal parts desks there n [] [] each within = tt
said_all listed respondent sessions journal parts desks there n [] (t ∷ ts) each within = absurd each
said_all listed respondent sessions journal parts desks there n (p ∷ ps) [] each within = absurd each
said_all listed respondent sessions journal parts desks there n (p ∷ ps) (t ∷ ts) each within =
    let part = each.0 in
    let z : n + 0 ≡ n = omega arith in
    let stands : slice_get desks n ≡ Some p = rw z at (within 0 p refl) in
    let less : n + 1 - 1 ≡ n = omega arith in
    let item : item_at desks (n + 1) ≡ Some p = item_of desks (n + 1) p (omega arith) (rw less stands) in
    let here : part_at parts respondent (n + 1) ≡ Some p = ap (λ (o : Option (List DeskPart)). option_and_then (λ (desks : List DeskPart). item_at desks (n + 1)) o) there ∙ item in
    let same = desk_exchanges parts respondent (n + 1) (length listed.classes) p sessions here part.each part.of in (
      sym (subst (λ (d : ℕ). all_exchanges (of_desk d (of_respondent respondent (runs_from parts 0 sessions))) ≡ said_exchanges p.said) (sym part.number) same),
      said_all listed respondent sessions journal parts desks there (n + 1) ps ts each.1
          (λ k q is. let e : n + suc k ≡ n + 1 + k = omega arith in rw e at (within (suc k) q is)),
    )

-- ---- which desks there are
any_filter : {X : Type 0} (P : X → Type 0) (p : X → Bool) (xs : List X) (k : ℕ) (x : X) → slice_get xs k ≡ Some x → p x ≡ true → P x → Any P (filter p xs)
any_filter P p [] k x is passes holds = absurd (none-some x is)
any_filter {X} P p (y ∷ ys) zero x is passes holds =
    let e : y ≡ x = same_Some y x is in
    let kept : p y ≡ true = ap p e ∙ passes in
    subst (λ (b : Bool). Any P (cond b (y ∷ filter p ys) (filter p ys))) (sym kept) (Any-here P y (filter p ys) (subst P (sym e) holds))
any_filter {X} P p (y ∷ ys) (suc k) x is passes holds =
    let later = any_filter P p ys k x is passes holds in
    let go : (b : Bool) → Any P (cond b (y ∷ filter p ys) (filter p ys)) =
    λ b. elim b as (λ b. Any P (cond b (y ∷ filter p ys) (filter p ys))) [ true ↦ Any-there P y (filter p ys) later | false ↦ later ] in
    go (p y)

any_got : {X : Type 0} (q : X → Bool) (xs : List X) (k : ℕ) (x : X) → slice_get xs k ≡ Some x → q x ≡ true → list_any q xs ≡ true
any_got q [] k x is passes = absurd (none-some x is)
any_got q (y ∷ ys) zero x is passes = let e : y ≡ x = same_Some y x is in rw (e, passes) refl
any_got {X} q (y ∷ ys) (suc k) x is passes =
    let later = any_got q ys k x is passes in
    let go : (b : Bool) → (b || list_any q ys) ≡ true = λ b. elim b as (λ b. (b || list_any q ys) ≡ true) [ true ↦ refl | false ↦ later ] in
    go (q y)

desk_number : (listed : Listed) (respondent : ℕ) (sessions : List ScriptSessionView) (journal : List Event) (n : ℕ) (parts : List DeskPart) (told : List DeskTold) (k : ℕ) (p : DeskPart)
    → EachZipFrom (IsPartOf listed respondent sessions journal) n parts told → slice_get parts k ≡ Some p → p.desk ≡ n + k + 1
desk_number listed respondent sessions journal n [] told k p each is = absurd (none-some p is)
desk_number listed respondent sessions journal n (q ∷ qs) [] k p each is = absurd each
desk_number listed respondent sessions journal n (q ∷ qs) (t ∷ ts) zero p each is =
    let e : n + 0 + 1 ≡ n + 1 = omega arith in rw e (ap {B = ℕ} (λ (x : DeskPart). x.desk) (sym (same_Some q p is)) ∙ each.0.number)
desk_number listed respondent sessions journal n (q ∷ qs) (t ∷ ts) (suc k) p each is =
    let e : n + suc k + 1 ≡ n + 1 + k + 1 = omega arith in rw e (desk_number listed respondent sessions journal (n + 1) qs ts k p each.1 is)

-- each session of the respondent has its desk
session_desks : (criteria : Criteria) (respondent workers : ℕ) (sessions : List ScriptSessionView) (parts : List (List DeskPart)) (desks : List DeskPart) (end : SurveyEnd)
    → IsEndOf criteria respondent workers sessions desks end → (n : ℕ) (rest : List ScriptSessionView)
    → ((k : ℕ) (s : ScriptSessionView) → slice_get rest k ≡ Some s → (slice_get sessions (n + k) ≡ Some s) × IsDesk s.desk)
    → Each (λ (run : SessionRun). Any (λ (x : DeskRun). x.desk ≡ run.desk) (filter (has_session respondent sessions) (map desk_run desks)))
    (of_respondent respondent (runs_from parts n rest))
session_desks criteria respondent workers sessions parts desks end is n [] within = tt
session_desks criteria respondent workers sessions parts desks end is n (s ∷ ss) within =
    let P = λ (run : SessionRun). Any (λ (x : DeskRun). x.desk ≡ run.desk) (filter (λ (x : DeskRun). list_any (is_at respondent x.desk) sessions) (map desk_run desks)) in
    let later = session_desks criteria respondent workers sessions parts desks end is (n + 1) ss
    (λ k t is. let e : n + suc k ≡ n + 1 + k = omega arith in rw e at (within (suc k) t is)) in
    let z : n + 0 ≡ n = omega arith in
    let first = within 0 s refl in
    let desk = first.1 in
    let part = slice_get_inside desks (s.desk - 1) (omega (arith, is.count, desk.0, desk.1)) in
    let told_long = zip_length (IsPartOf end.state.listed respondent sessions end.state.journal) 0 desks end.told.items is.each in
    let go : (b : Bool) → (s.respondent == respondent) ≡ b → Each P (cond b (run_at parts s n ∷ of_respondent respondent (runs_from parts (n + 1) ss)) (of_respondent respondent (runs_from parts (n + 1) ss))) =
    λ b e. elim b as (λ b. (s.respondent == respondent) ≡ b → Each P (cond b (run_at parts s n ∷ of_respondent respondent (runs_from parts (n + 1) ss)) (of_respondent respondent (runs_from parts (n + 1) ss)))) [
      | true ↦ λ yes.
          (let number : part.0.desk ≡ s.desk = desk_number end.state.listed respondent sessions end.state.journal 0 desks end.told.items (s.desk - 1) part.0 is.each part.1 ∙ omega (arith, desk.0) in
          let own : is_at respondent part.0.desk s ≡ true = rw (yes, eq-eqb s.desk part.0.desk (sym number)) refl in (
            any_filter (λ (x : DeskRun). x.desk ≡ s.desk) (λ (x : DeskRun). list_any (is_at respondent x.desk) sessions) (map desk_run desks) (s.desk - 1) (desk_run part.0)
                (get_map desk_run desks (s.desk - 1) part.0 part.1) (any_got (is_at respondent part.0.desk) sessions n s (rw z at first.0) own) number,
            later,
          ))
      | false ↦ λ no. later
    ] e in
    go (s.respondent == respondent) refl

-- each desk with a session has one of the respondent's
desk_sessions : (respondent desk : ℕ) (parts : List (List DeskPart)) (n : ℕ) (sessions : List ScriptSessionView) → list_any (is_at respondent desk) sessions ≡ true
    → Any (λ (run : SessionRun). run.desk ≡ desk) (of_respondent respondent (runs_from parts n sessions))
desk_sessions respondent desk parts n [] some = absurd (true≢false (sym some))
desk_sessions respondent desk parts n (s ∷ ss) some =
    let P = λ (run : SessionRun). run.desk ≡ desk in
    let rest = of_respondent respondent (runs_from parts (n + 1) ss) in
    let go : (b c : Bool) → (s.respondent == respondent) ≡ b → (s.desk == desk) ≡ c → ((b && c) || list_any (is_at respondent desk) ss) ≡ true → Any P (cond b (run_at parts s n ∷ rest) rest) =
    λ b c. elim b as (λ b. (s.respondent == respondent) ≡ b → (s.desk == desk) ≡ c → ((b && c) || list_any (is_at respondent desk) ss) ≡ true → Any P (cond b (run_at parts s n ∷ rest) rest)) [
      | true ↦ λ one. elim c as (λ c. (s.desk == desk) ≡ c → ((true && c) || list_any (is_at respondent desk) ss) ≡ true → Any P (run_at parts s n ∷ rest)) [
        | true ↦ λ two holds. Any-here P (run_at parts s n) rest (eqb-true s.desk desk two)
        | false ↦ λ two holds. Any-there P (run_at parts s n) rest (desk_sessions respondent desk parts (n + 1) ss holds)
      ]
      | false ↦ λ one two holds. desk_sessions respondent desk parts (n + 1) ss holds
    ] in
    go (s.respondent == respondent) (s.desk == desk) refl refl some

pub survey_run : (criteria : Criteria) (respondent workers : ℕ) (sessions : List ScriptSessionView) (parts : List (List DeskPart)) (desks : List DeskPart) (end : SurveyEnd)
    → item_at parts respondent ≡ Some desks → IsEndOf criteria respondent workers sessions desks end
    → ((k : ℕ) (s : ScriptSessionView) → slice_get sessions k ≡ Some s → IsDesk s.desk)
    → IsSurveyRun criteria workers (of_respondent respondent (runs_from parts 0 sessions)) end.state
survey_run criteria respondent workers sessions parts desks end there is whole =
    let p = λ (run : DeskRun). list_any (is_at respondent run.desk) sessions in
    let mine = of_respondent respondent (runs_from parts 0 sessions) in
    let kept = filter p (map desk_run desks) in
    let Said = λ (run : DeskRun). run.exchanges ≡ all_exchanges (of_desk run.desk mine) in
    let Named = λ (run : SessionRun). Any (λ (x : DeskRun). x.desk ≡ run.desk) kept in
    let Sat = λ (run : DeskRun). Any (λ (session : SessionRun). session.desk ≡ run.desk) mine in
    let start : (k : ℕ) (q : DeskPart) → slice_get desks k ≡ Some q → slice_get desks (0 + k) ≡ Some q = λ k q stands. let e : 0 + k ≡ k = omega arith in rw e stands in
    let said : Each Said (map desk_run desks) = said_all end.state.listed respondent sessions end.state.journal parts desks there 0 desks end.told.items is.each start in
    record {
      model = is.model;
      listed = is.listed;
      legal = is.legal;
      desks = kept;
      said = Each-All Said kept (Each-map (λ (run : DeskRun). Said run × (p run ≡ true)) Said (λ run both. both.0) kept (Each-filter Said p (map desk_run desks) said));
      each = Each-All Named mine (session_desks criteria respondent workers sessions parts desks end is 0 sessions
          (λ k s stands. let e : 0 + k ≡ k = omega arith in (rw e stands, whole k s stands)));
      only = Each-All Sat kept (Each-map (λ (run : DeskRun). Said run × (p run ≡ true)) Sat (λ run both. desk_sessions respondent run.desk parts 0 sessions both.1) kept
          (Each-filter Said p (map desk_run desks) said));
      eliminators = is.eliminators;
      numbered = λ k d within. (is.numbered k d within).1;
      makes = desks_left end.state.listed end.state.journal (map desk_run desks) is.eliminators p is.makes
          (idle_desks end.state.listed respondent sessions end.state.journal 0 desks end.told.items is.each);
    }
