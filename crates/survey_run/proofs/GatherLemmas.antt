-- What desks and eliminators did, joined into one pass.
use Rattle.std.specs.Prelude.{map, flat_map, AllPairs}
use Rattle.std.proofs.Common.{◌≡◌, ◌≢◌, ℕ, ◌+◌, ◌<◌, ◌≤◌, List, [], ◌∷◌, ◌++◌, length, All, refl, ap, sym, ◌∙◌, arith, append_assoc, append-nil, length-append, subst}
use Rattle.std.specs.List.{AllByRecursion}
use Rattle.std.proofs.lemmas.Bool.Decides.{nat_tests}
use Rattle.std.proofs.lemmas.List.Elements.{All-nil, All-cons, All-push, All-weaker, All-from_recursion}
use Rattle.std.proofs.lemmas.List.Kept.{AllPairs-cons}
use Rattle.std.proofs.lemmas.Grind.{flat_map-append}
use mathlib.Core.List.{IsPrefix}
use Rattle.criteria_model.specs.Criteria.{Criteria}
use Rattle.pair_enumeration.specs.Listed.{Listed, IsListed}
use Rattle.survey_core.specs.declared.events.Event.{Event}
use Rattle.survey_core.specs.declared.limits.TheConstants.{MAX_DESKS}
use Rattle.survey_core.specs.Legal.{IsLegal}
use Rattle.survey_replies.specs.Calls.{Seen, unseen, HasEliminateOf, Conversation, occurrences}
use Rattle.survey_replies.specs.JournalLaws.{DeskRun, WorkerRun, MakesJournal}
use Rattle.survey_replies.proofs.CallLemmas.{prefix_trans, has_longer}
use Rattle.result_file.proofs.ListEnds.{snoc_once}
use Rattle.turn_lock.specs.Rule.{AreAllPlaces, one_between}
use Rattle.shared_survey.specs.declared.survey.Survey.{Survey}
use Rattle.shared_survey.specs.declared.pass.Pass.{Pass}
use Rattle.shared_survey.specs.Passes.{survey_listed}
use Rattle.survey_script.specs.ScriptViews.{ScriptSessionView}
use Rattle.std.specs.Global.{Vec}
use Rattle.survey_run.specs.declared.plans.DeskTold.{DeskTold}
use Rattle.survey_run.specs.declared.ends.SurveyEnd.{SurveyEnd}
use Rattle.survey_run.specs.Desks.{SaysAll, lists_of, said_exchanges}
use Rattle.survey_run.specs.Each.{EachFrom, EachZipFrom, StackFrom}
use Rattle.survey_run.specs.Ends.{AreNumbered, DeskPart, Gathers, HasMade, IsEndOf, IsPartOf, all_places, desk_run}
use Rattle.survey_run.specs.Joins.{WorkedAt}
use Rattle.survey_run.specs.Plans.{IsSharedSurveyOf}
use Rattle.survey_run.specs.Tops.{HasTop, LosesTop}
use Rattle.survey_run.specs.Workers.{HasWorked}
use Rattle.survey_run.proofs.ChangeLemmas.{stack_top}
use Rattle.survey_run.proofs.EachLemmas.{zip_push, zip_map}
use Rattle.survey_run.proofs.SayLemmas.{each_push_rec}

-- ---- on a longer journal
pub part_longer : (listed : Listed) (respondent : ℕ) (sessions : List ScriptSessionView) (journal longer : List Event) (n : ℕ) (part : DeskPart) (told : DeskTold)
    → IsPrefix journal longer → IsPartOf listed respondent sessions journal n part told → IsPartOf listed respondent sessions longer n part told
part_longer listed respondent sessions journal longer n part told prefix is = record {
  number = is.number;
  each = is.each;
  of = is.of;
  shown = is.shown;
  talk = is.talk;
  within = prefix_trans part.seen.journal journal longer is.within prefix;
}

pub parts_longer : (listed : Listed) (respondent : ℕ) (sessions : List ScriptSessionView) (journal longer : List Event) (n : ℕ) (parts : List DeskPart) (told : List DeskTold)
    → IsPrefix journal longer → EachZipFrom (IsPartOf listed respondent sessions journal) n parts told → EachZipFrom (IsPartOf listed respondent sessions longer) n parts told
parts_longer listed respondent sessions journal longer n parts told prefix each =
    zip_map (IsPartOf listed respondent sessions journal) (IsPartOf listed respondent sessions longer) n parts told
    (λ k part one is. part_longer listed respondent sessions journal longer k part one prefix is) each

pub places_longer : (worker : ℕ) (journal longer : List Event) (places : List ℕ) → IsPrefix journal longer → All (HasEliminateOf worker journal) places
    → All (HasEliminateOf worker longer) places
places_longer worker journal longer places prefix all =
    All-weaker (HasEliminateOf worker journal) (HasEliminateOf worker longer) (λ place has. has_longer journal longer worker place prefix has) places all

pub made_longer : (journal longer : List Event) (runs : List WorkerRun) → IsPrefix journal longer → AllByRecursion (HasMade journal) runs
    → AllByRecursion (HasMade longer) runs
made_longer journal longer [] prefix each = tt
made_longer journal longer (run ∷ runs) prefix each = (places_longer run.worker journal longer run.own prefix each.0, made_longer journal longer runs prefix each.1)

-- ---- places
abbrev desk_own : DeskPart → List ℕ
desk_own part = part.seen.own

abbrev worker_own : WorkerRun → List ℕ
worker_own run = run.own

pub desk_places : (parts : List DeskPart) (part : DeskPart) → all_places (parts ++ part ∷ []) [] ≡ all_places parts [] ++ part.seen.own
desk_places parts part =
    append-nil (flat_map desk_own (parts ++ part ∷ []))
    ∙ (flat_map-append desk_own parts (part ∷ [])
    ∙ (ap (λ own. flat_map desk_own parts ++ own) (append-nil part.seen.own)
    ∙ ap (λ own. own ++ part.seen.own) (sym (append-nil (flat_map desk_own parts)))))

pub worker_places : (parts : List DeskPart) (runs : List WorkerRun) (run : WorkerRun) → all_places parts (runs ++ run ∷ []) ≡ all_places parts runs ++ run.own
worker_places parts runs run =
    ap (λ own. flat_map desk_own parts ++ own) (flat_map-append worker_own runs (run ∷ []) ∙ ap (λ own. flat_map worker_own runs ++ own) (append-nil run.own))
    ∙ sym (append_assoc (flat_map desk_own parts) (flat_map worker_own runs) run.own)

-- ---- one more
pub gathers_none : (listed : Listed) (respondent : ℕ) (sessions : List ScriptSessionView) (seen : Seen) (told : List DeskTold) → told ≡ [] → seen ≡ unseen
    → Gathers listed respondent sessions seen [] [] told
gathers_none listed respondent sessions seen told none is = record {
  each = rw none tt;
  made = tt;
  own = ap (λ (s : Seen). s.own) is;
}

-- what `count` desks said, joined
pub record GathersDesks (listed : Listed) (respondent : ℕ) (sessions : List ScriptSessionView) (seen : Seen) (count : ℕ) (told : List DeskTold) : Type 0 where
  pub parts : List DeskPart
  pub long : length parts ≡ count
  pub gathers : Gathers listed respondent sessions seen parts [] told

-- a desk's part is joined
pub gathers_desk : (listed : Listed) (respondent : ℕ) (sessions : List ScriptSessionView) (n : ℕ) (old new seen : Seen) (told : List DeskTold) (one : DeskTold)
    → SaysAll listed respondent (n + 1) unseen seen sessions (lists_of one.sessions) → IsPrefix old.journal new.journal → IsPrefix seen.journal new.journal
    → new.own ≡ old.own ++ seen.own → GathersDesks listed respondent sessions old n told → GathersDesks listed respondent sessions new (n + 1) (told ++ one ∷ [])
gathers_desk listed respondent sessions n old new seen told one says longer within own before =
    let part : DeskPart = record { desk = n + 1; said = says.said; seen = seen } in
    let place : 0 + length before.parts ≡ n = omega (arith, before.long) in
    let is : IsPartOf listed respondent sessions new.journal n part one = record {
      number = refl;
      each = says.each;
      of = says.of;
      shown = says.shown;
      talk = says.talk;
      within = within;
    } in
    record {
      parts = before.parts ++ part ∷ [];
      long = length-append before.parts (part ∷ []) ∙ ap {B = ℕ} (λ k. k + 1) before.long;
      gathers = record {
        each = zip_push (IsPartOf listed respondent sessions new.journal) 0 n before.parts told part one place
            (parts_longer listed respondent sessions old.journal new.journal 0 before.parts told longer before.gathers.each) is;
        made = tt;
        own = own ∙ (ap (λ places. places ++ seen.own) before.gathers.own ∙ sym (desk_places before.parts part));
      };
    }

-- what eliminators numbered up to this number made, joined beside the desks
pub record GathersWorkers (listed : Listed) (respondent : ℕ) (sessions : List ScriptSessionView) (seen : Seen) (count : ℕ) (parts : List DeskPart) (told : List DeskTold) : Type 0 where
  pub runs : List WorkerRun
  pub numbered : AreNumbered count runs
  pub gathers : Gathers listed respondent sessions seen parts runs told

abbrev IsNumbered : ℕ → WorkerRun → Type 0
IsNumbered count run = (1 ≤ run.worker) × (run.worker ≤ count)

pub no_workers : (listed : Listed) (respondent : ℕ) (sessions : List ScriptSessionView) (seen : Seen) (count : ℕ) (parts : List DeskPart) (told : List DeskTold)
    → Gathers listed respondent sessions seen parts [] told → GathersWorkers listed respondent sessions seen count parts told
no_workers listed respondent sessions seen count parts told gathers = record { runs = []; numbered = All-nil (IsNumbered count); gathers = gathers }

-- what an eliminator made is joined
pub gathers_worker : (listed : Listed) (respondent : ℕ) (sessions : List ScriptSessionView) (count worker : ℕ) (old new seen : Seen) (parts : List DeskPart) (told : List DeskTold)
    → 1 ≤ worker → worker ≤ count → All (HasEliminateOf worker seen.journal) seen.own → IsPrefix old.journal new.journal → IsPrefix seen.journal new.journal
    → new.own ≡ old.own ++ seen.own → GathersWorkers listed respondent sessions old count parts told → GathersWorkers listed respondent sessions new count parts told
gathers_worker listed respondent sessions count worker old new seen parts told low high made longer within own before =
    let run : WorkerRun = record { worker = worker; own = seen.own } in
    record {
      runs = before.runs ++ run ∷ [];
      numbered = All-push (IsNumbered count) before.runs run before.numbered (low, high);
      gathers = record {
        each = parts_longer listed respondent sessions old.journal new.journal 0 parts told longer before.gathers.each;
        made = each_push_rec (HasMade new.journal) before.runs run (made_longer old.journal new.journal before.runs longer before.gathers.made)
            (places_longer worker seen.journal new.journal seen.own within made);
        own = own ∙ (ap (λ places. places ++ seen.own) before.gathers.own ∙ sym (worker_places parts before.runs run));
      };
    }

-- ---- tops
-- what was taken from the top is the eliminator's pass
pub top_worked : (survey : Survey) (n : ℕ) (old : Vec Pass) (rest : List Pass) (top : Pass) → HasTop survey n old → old.items ≡ rest ++ top ∷ [] → HasWorked (n + 1) survey top
top_worked survey n old rest top has e =
    let same = snoc_once has.rest has.top rest top (sym has.whole ∙ e) in subst (λ pass. HasWorked (n + 1) survey pass) same.1 has.worked

-- the eliminator's passes of these surveys, the first on top
pub WorkedFrom : ℕ → List Survey → ℕ → Vec Pass → Type 0
WorkedFrom m surveys n passes = StackFrom (λ k. HasWorked (n + 1)) m surveys passes.items

pub worked_top : (m : ℕ) (survey : Survey) (surveys : List Survey) (n : ℕ) (passes : Vec Pass) → WorkedFrom m (survey ∷ surveys) n passes → HasTop survey n passes
unfolding WorkedFrom
worked_top m survey surveys n passes stack = record { rest = stack.0; top = stack.1; whole = stack.2; worked = stack.3 }

pub worked_rest : (m : ℕ) (survey : Survey) (surveys : List Survey) (n : ℕ) (old new : Vec Pass) → WorkedFrom m (survey ∷ surveys) n old → LosesTop n old new
    → WorkedFrom (m + 1) surveys n new
unfolding WorkedFrom
worked_rest m survey surveys n old new stack loses = (stack_top (λ k. HasWorked (n + 1)) m survey surveys old.items new.items loses.0 stack loses.1).1

-- at first, each eliminator has its passes of all surveys
pub worked_all : (surveys : List Survey) (n : ℕ) (worked : List (Vec Pass)) → EachFrom (WorkedAt surveys) n worked → EachFrom (WorkedFrom 0 surveys) n worked
unfolding WorkedFrom
worked_all surveys n worked each = each

-- ---- the journal
abbrev TalksIn : Listed → List Event → DeskRun → Type 0
TalksIn listed journal run = Conversation listed run.desk unseen run.seen run.exchanges × IsPrefix run.seen.journal journal

pub parts_talk : (listed : Listed) (respondent : ℕ) (sessions : List ScriptSessionView) (journal : List Event) (n : ℕ) (parts : List DeskPart) (told : List DeskTold)
    → EachZipFrom (IsPartOf listed respondent sessions journal) n parts told
    → All (λ run. Conversation listed run.desk unseen run.seen run.exchanges × IsPrefix run.seen.journal journal) (map desk_run parts)
parts_talk listed respondent sessions journal n [] [] each = All-nil (TalksIn listed journal)
parts_talk listed respondent sessions journal n [] (t ∷ ts) each = absurd each
parts_talk listed respondent sessions journal n (p ∷ ps) [] each = absurd each
parts_talk listed respondent sessions journal n (p ∷ ps) (t ∷ ts) each =
    All-cons (TalksIn listed journal) (desk_run p) (map desk_run ps)
    (subst (λ (desk : ℕ). Conversation listed desk unseen p.seen (said_exchanges p.said)) (sym each.0.number) each.0.talk, each.0.within)
    (parts_talk listed respondent sessions journal (n + 1) ps ts each.1)

parts_above : (listed : Listed) (respondent : ℕ) (sessions : List ScriptSessionView) (journal : List Event) (n : ℕ) (parts : List DeskPart) (told : List DeskTold)
    → EachZipFrom (IsPartOf listed respondent sessions journal) n parts told → All (λ run. n < run.desk) (map desk_run parts)
parts_above listed respondent sessions journal n [] [] each = All-nil (λ (run : DeskRun). n < run.desk)
parts_above listed respondent sessions journal n [] (t ∷ ts) each = absurd each
parts_above listed respondent sessions journal n (p ∷ ps) [] each = absurd each
parts_above listed respondent sessions journal n (p ∷ ps) (t ∷ ts) each =
    let number = each.0.number in
    let first : n < p.desk = omega (arith, number) in
    All-cons (λ (run : DeskRun). n < run.desk) (desk_run p) (map desk_run ps) first
    (All-weaker (λ (run : DeskRun). n + 1 < run.desk) (λ (run : DeskRun). n < run.desk) (λ run above. omega (arith, above)) (map desk_run ps)
    (parts_above listed respondent sessions journal (n + 1) ps ts each.1))

abbrev AreApart : DeskRun → DeskRun → Type 0
AreApart one other = one.desk ≢ other.desk

pub parts_distinct : (listed : Listed) (respondent : ℕ) (sessions : List ScriptSessionView) (journal : List Event) (n : ℕ) (parts : List DeskPart) (told : List DeskTold)
    → EachZipFrom (IsPartOf listed respondent sessions journal) n parts told → AllPairs (λ one other. one.desk ≢ other.desk) (map desk_run parts)
parts_distinct listed respondent sessions journal n [] [] each = λ i j d less within. absurd (omega (arith, within))
parts_distinct listed respondent sessions journal n [] (t ∷ ts) each = absurd each
parts_distinct listed respondent sessions journal n (p ∷ ps) [] each = absurd each
parts_distinct listed respondent sessions journal n (p ∷ ps) (t ∷ ts) each =
    let number = each.0.number in
    AllPairs-cons AreApart (desk_run p) (map desk_run ps)
    (All-weaker (λ (run : DeskRun). n + 1 < run.desk) (AreApart (desk_run p)) (λ run above same. absurd (omega (arith, number, above, same))) (map desk_run ps)
    (parts_above listed respondent sessions journal (n + 1) ps ts each.1))
    (parts_distinct listed respondent sessions journal (n + 1) ps ts each.1)

run_places : (parts : List DeskPart) → flat_map (λ (run : DeskRun). run.seen.own) (map desk_run parts) ≡ flat_map (λ (part : DeskPart). part.seen.own) parts
run_places [] = refl
run_places (p ∷ ps) = ap (λ own. p.seen.own ++ own) (run_places ps)

pub one_inside : (count place : ℕ) → place < count → one_between 0 count place ≡ 1
one_inside count place less = grind (arith, nat_tests)

-- desks and eliminators, joined, have made the whole journal where their places are all places
pub makes_journal : (listed : Listed) (respondent : ℕ) (sessions : List ScriptSessionView) (seen : Seen) (count : ℕ) (parts : List DeskPart) (runs : List WorkerRun)
    (told : List DeskTold) (journal : List Event) → Gathers listed respondent sessions seen parts runs told → AreNumbered count runs → IsPrefix seen.journal journal
    → AreAllPlaces 0 (length journal) seen.own → MakesJournal listed journal (map desk_run parts) runs
makes_journal listed respondent sessions seen count parts runs told journal gathers numbered prefix all =
    let each = parts_longer listed respondent sessions seen.journal journal 0 parts told prefix gathers.each in
    record {
      conversations = parts_talk listed respondent sessions journal 0 parts told each;
      eliminations = All-from_recursion (HasMade journal) runs (made_longer seen.journal journal runs prefix gathers.made);
      distinct = parts_distinct listed respondent sessions journal 0 parts told each;
      numbered = All-weaker (IsNumbered count) (λ (run : WorkerRun). 1 ≤ run.worker) (λ run both. both.0) runs numbered;
      once = λ place less.
          ap (λ own. occurrences place (own ++ flat_map (λ (run : WorkerRun). run.own) runs)) (run_places parts)
          ∙ (ap (occurrences place) (sym gathers.own) ∙ (all place ∙ one_inside (length journal) place less));
    }

-- the survey's end
pub survey_ends : (criteria : Criteria) (workers n : ℕ) (sessions : List ScriptSessionView) (survey : Survey) (seen : Seen) (parts : List DeskPart) (end : SurveyEnd)
    → IsSharedSurveyOf criteria workers survey → length parts ≡ MAX_DESKS → GathersWorkers (survey_listed survey) (n + 1) sessions seen workers parts end.told.items
    → end.state.listed ≡ survey_listed survey → IsListed end.state.listed → IsLegal end.state.listed end.state.journal
    → IsPrefix seen.journal end.state.journal → AreAllPlaces 0 (length end.state.journal) seen.own → IsEndOf criteria (n + 1) workers sessions parts end
survey_ends criteria workers n sessions survey seen parts end is count gathered same listed legal prefix all = record {
  model = ap (λ (l : Listed). l.criteria) same ∙ is.model;
  listed = listed;
  legal = legal;
  each = subst (λ (l : Listed). EachZipFrom (IsPartOf l (n + 1) sessions end.state.journal) 0 parts end.told.items) (sym same)
      (parts_longer (survey_listed survey) (n + 1) sessions seen.journal end.state.journal 0 parts end.told.items prefix gathered.gathers.each);
  count = count;
  eliminators = gathered.runs;
  numbered = gathered.numbered;
  makes = subst (λ (l : Listed). MakesJournal l end.state.journal (map desk_run parts) gathered.runs) (sym same)
      (makes_journal (survey_listed survey) (n + 1) sessions seen workers parts gathered.runs end.told.items end.state.journal gathered.gathers gathered.numbered prefix all);
}
