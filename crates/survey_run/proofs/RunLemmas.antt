-- What came of each session, by what each desk said.
use Rattle.std.proofs.Common.{◌≡◌, ℕ, suc, ◌+◌, ◌==◌, ◌&&◌, Bool, true, false, cond, List, [], ◌∷◌, ◌++◌, map, Option, Some, slice_get, refl, ap, sym, ◌∙◌, subst, inl, inr, ◌⊎◌, arith}
use Rattle.std.specs.List.{filter, flat_map, AllByRecursion}
use Rattle.std.specs.Option.{option_and_then}
use Rattle.std.proofs.lemmas.Bool.{eqb-true, true≢false}
use Rattle.json_forms.specs.declared.replies.Reply.TheVariants.{Welcome}
use Rattle.survey_replies.specs.Outcomes.{Exchange}
use Rattle.survey_script.specs.ScriptViews.{ScriptSessionView}
use Rattle.survey_run.specs.Collects.{messages_in, part_at, run_at, runs_from}
use Rattle.survey_run.specs.Desks.{DeskSession, IsSaid, IsSaidBy, is_at, said_exchanges}
use Rattle.survey_run.specs.Ends.{DeskPart}
use Rattle.survey_run.specs.Sessions.{SessionRun, all_exchanges, message_exchanges, message_reply, of_desk, of_respondent}
use Rattle.survey_run.proofs.ListLemmas.{each_get, filter_both, flat_cond, map_get}

-- what a desk said in one of its sessions
pub record SaidAt (classes desk place : ℕ) (session : ScriptSessionView) (said : List DeskSession) : Type 0 where
  pub one : DeskSession
  pub at : slice_get said place ≡ Some one
  pub messages : map (λ m. m.message) one.messages ≡ session.messages
  pub replies : one.replies ≡ Welcome classes desk ∷ map message_reply one.messages

pub said_at : (classes respondent desk place : ℕ) (sessions : List ScriptSessionView) (session : ScriptSessionView) (said : List DeskSession)
    → AllByRecursion (IsSaidBy classes respondent desk) said → map (λ (one : DeskSession). one.session) said ≡ sessions
    → slice_get sessions place ≡ Some session → is_at respondent desk session ≡ true → SaidAt classes desk place session said
said_at classes respondent desk place sessions session said each of stands own =
    let got = map_get (λ (one : DeskSession). one.session) said place session (ap (λ (xs : List ScriptSessionView). slice_get xs place) of ∙ stands) in
    let is : IsSaidBy classes respondent desk got.item = each_get (IsSaidBy classes respondent desk) said place got.item each got.at in
    let here : is_at respondent desk got.item.session ≡ true = ap (is_at respondent desk) got.same ∙ own in
    let both : IsSaid classes desk true got.item = subst (λ (b : Bool). IsSaid classes desk b got.item) here is in
    record {
      one = got.item;
      at = got.at;
      messages = both.0 ∙ ap (λ (s : ScriptSessionView). s.messages) got.same;
      replies = both.1;
    }

-- ---- the exchanges of a desk are those of its sessions
own_exchanges : (parts : List (List DeskPart)) (respondent desk place : ℕ) (part : DeskPart) (session : ScriptSessionView) (one : DeskSession) (classes : ℕ) (b : Bool)
    → is_at respondent desk session ≡ b → (part_at parts session.respondent session.desk ≡ Some part) ⊎ (b ≡ false)
    → slice_get part.said place ≡ Some one → IsSaid classes desk b one
    → cond b (message_exchanges (run_at parts session place).messages) [] ≡ message_exchanges one.messages
own_exchanges parts respondent desk place part session one classes true is (inl there) stands said =
    ap message_exchanges (ap (λ (o : Option DeskPart). messages_in (option_and_then (λ (part : DeskPart). slice_get part.said place) o)) there ∙ ap messages_in stands)
own_exchanges parts respondent desk place part session one classes true is (inr none) stands said = absurd (true≢false none)
own_exchanges parts respondent desk place part session one classes false is there stands said = sym (ap message_exchanges said.0)

and_both : (a b : Bool) → (a && b) ≡ true → (a ≡ true) × (b ≡ true)
and_both true b both = (refl, both)
and_both false b both = absurd (true≢false (sym both))

there_or_not : (parts : List (List DeskPart)) (respondent desk : ℕ) (part : DeskPart) (session : ScriptSessionView) (b : Bool) → is_at respondent desk session ≡ b
    → part_at parts respondent desk ≡ Some part → (part_at parts session.respondent session.desk ≡ Some part) ⊎ (b ≡ false)
there_or_not parts respondent desk part session true is there =
    let both = and_both (session.respondent == respondent) (session.desk == desk) is in
    let one = eqb-true session.respondent respondent both.0 in
    let two = eqb-true session.desk desk both.1 in
    inl (rw (one, two) there)
there_or_not parts respondent desk part session false is there = inr refl

pub exchanges_aligned : (parts : List (List DeskPart)) (respondent desk classes place : ℕ) (part : DeskPart) (sessions : List ScriptSessionView) (rest : List DeskSession)
    → part_at parts respondent desk ≡ Some part → AllByRecursion (IsSaidBy classes respondent desk) rest → map (λ (one : DeskSession). one.session) rest ≡ sessions
    → ((k : ℕ) (one : DeskSession) → slice_get rest k ≡ Some one → slice_get part.said (place + k) ≡ Some one)
    → flat_map (λ (run : SessionRun). message_exchanges run.messages) (filter (λ (run : SessionRun). (run.respondent == respondent) && (run.desk == desk)) (runs_from parts place sessions))
    ≡ said_exchanges rest
exchanges_aligned parts respondent desk classes place part sessions [] there each of within =
    subst (λ (ss : List ScriptSessionView). flat_map (λ (run : SessionRun). message_exchanges run.messages)
    (filter (λ (run : SessionRun). (run.respondent == respondent) && (run.desk == desk)) (runs_from parts place ss)) ≡ []) of refl
exchanges_aligned parts respondent desk classes place part sessions (one ∷ rest) there each of within =
    let own = λ (run : SessionRun). (run.respondent == respondent) && (run.desk == desk) in
    let get = λ (run : SessionRun). message_exchanges run.messages in
    let session = one.session in
    let later : List ScriptSessionView = map (λ (one : DeskSession). one.session) rest in
    let z : place + 0 ≡ place = omega arith in
    let stands : slice_get part.said place ≡ Some one = rw z at (within 0 one refl) in
    let first = own_exchanges parts respondent desk place part session one classes (is_at respondent desk session) refl
    (there_or_not parts respondent desk part session (is_at respondent desk session) refl there) stands each.0 in
    let next = exchanges_aligned parts respondent desk classes (place + 1) part later rest there each.1 refl
    (λ k other is. let e : place + suc k ≡ place + 1 + k = omega arith in rw e at (within (suc k) other is)) in
    subst (λ (ss : List ScriptSessionView). flat_map get (filter own (runs_from parts place ss)) ≡ message_exchanges one.messages ++ said_exchanges rest) of
    (flat_cond get (is_at respondent desk session) (run_at parts session place) (filter own (runs_from parts (place + 1) later))
    ∙ (ap (λ (xs : List Exchange). xs ++ flat_map get (filter own (runs_from parts (place + 1) later))) first ∙ ap (λ (xs : List Exchange). message_exchanges one.messages ++ xs) next))

pub desk_exchanges : (parts : List (List DeskPart)) (respondent desk classes : ℕ) (part : DeskPart) (sessions : List ScriptSessionView)
    → part_at parts respondent desk ≡ Some part → AllByRecursion (IsSaidBy classes respondent desk) part.said → map (λ (one : DeskSession). one.session) part.said ≡ sessions
    → all_exchanges (of_desk desk (of_respondent respondent (runs_from parts 0 sessions))) ≡ said_exchanges part.said
desk_exchanges parts respondent desk classes part sessions there each of =
    ap (flat_map (λ (run : SessionRun). message_exchanges run.messages))
    (filter_both (λ (run : SessionRun). run.respondent == respondent) (λ (run : SessionRun). run.desk == desk) (runs_from parts 0 sessions))
    ∙ exchanges_aligned parts respondent desk classes 0 part sessions part.said there each of (λ k one is. let e : 0 + k ≡ k = omega arith in rw e is)
