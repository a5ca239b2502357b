-- The texts of the replies to a script.
use Rattle.std.proofs.Common.{◌≡◌, ℕ, suc, ◌+◌, ◌<◌, ◌≤◌, ◌==◌, Bool, true, false, cond, List, [], ◌∷◌, ◌++◌, length, map, take, drop, get_or, All, Option, Some, refl, ap, sym, subst, ◌∙◌, arith, append_assoc}
use Rattle.std.specs.Prelude.{flat_map}
use Rattle.std.specs.List.{AllZip}
use Rattle.std.proofs.Math.Seq.{drop-append_seam, drop-cons, take-append_seam}
use Rattle.std.proofs.lemmas.Bool.{eq-eqb}
use Rattle.std.proofs.lemmas.List.{length-map, length-append}
use Rattle.edges.specs.Told.{Appends, AppendsPrefix}
use Rattle.edges.proofs.ToldLemmas.{Appends-append}
use Rattle.criteria_model.specs.Criteria.{Criteria}
use Rattle.json_forms.specs.DefinitionViews.{model_of}
use Rattle.json_forms.specs.declared.messages.Message.{Message}
use Rattle.json_forms.specs.declared.replies.Reply.{Reply}
use Rattle.json_forms.specs.declared.replies.Reply.TheVariants as reply
use Rattle.result_file.specs.Files.{IsOut}
use Rattle.result_file.proofs.OutLemmas.{out_failed}
use Rattle.row_laws.specs.Items.{item_at}
use Rattle.row_laws.proofs.ItemLemmas.{item_inside}
use Rattle.session_protocol.specs.Exchanges.{asked_by}
use Rattle.session_protocol.specs.Sessions.{CanBeWritten}
use Rattle.session_protocol.proofs.WritingLemmas.{can_be_written}
use Rattle.survey_core.proofs.ListSteps.{All-Each, Each, Each-All, Each-map}
use Rattle.survey_replies.specs.Calls.{IsReplyIn}
use Rattle.survey_run.specs.RunViews.{RunView}
use Rattle.survey_run.specs.Runs.{IsRunBy, IsSurveyRun, count_of}
use Rattle.survey_run.specs.Sessions.{IsRunOf, MessageRun, SessionRun, message_reply, of_respondent, replies_of}
use Rattle.survey_run.proofs.LawLemmas.{each_reply_stands_lem}
use Rattle.survey_script.specs.ScriptViews.{IsWholeScript, IsWholeSession, ScriptSessionView, ScriptView}
use Rattle.survey_server.specs.ScriptTexts.{AreWritable, EachHasReplies, session_lines, replies_text, session_text, sessions_text, text_by_lines}
use Rattle.survey_state.specs.States.{Surveyed}

-- ---- what was written
-- one more part went out
pub out_more : (before mid now : Option (List ℕ)) (own later whole : List ℕ) → IsOut before mid (own ++ later) whole → Appends mid now own → IsOut before now later whole
out_more before mid now own later whole h put = record {
  sent = h.sent ++ own;
  out = Appends-append before mid now h.sent own h.out put;
  whole = append_assoc h.sent own later ∙ h.whole;
}

-- the sink failed at it
pub out_cut : (before mid now : Option (List ℕ)) (own later whole : List ℕ) → IsOut before mid (own ++ later) whole → AppendsPrefix mid now own → AppendsPrefix before now whole
out_cut before mid now own later whole h put =
    subst (λ (l : List ℕ). AppendsPrefix before now l) (append_assoc h.sent own later ∙ h.whole)
    (out_failed before mid now own (h.sent ++ own) later (record { sent = h.sent; out = h.out; whole = refl }) put)

-- ---- replies that stand
-- each message of the session has a reply that is right in the final journal of its respondent's survey
record Stands (criteria : Criteria) (states : List Surveyed) (run : SessionRun) : Type 0 where
  pub state : Surveyed
  pub is : item_at states run.respondent ≡ Some state
  pub model : state.listed.criteria ≡ criteria
  pub each : All (λ (one : MessageRun). IsReplyIn state.listed run.desk state.journal (asked_by one.message) one.came) run.messages

-- what holds of the sessions of a respondent
of_one : (P : SessionRun → Type 0) (respondent : ℕ) (runs : List SessionRun) → Each P (of_respondent respondent runs)
    → Each (λ (run : SessionRun). run.respondent ≡ respondent → P run) runs
of_one P respondent [] each = tt
of_one P respondent (r ∷ rs) each =
    let Has = λ (run : SessionRun). run.respondent ≡ respondent → P run in
    let go : (b : Bool) → (r.respondent == respondent) ≡ b → Each P (cond b (r ∷ of_respondent respondent rs) (of_respondent respondent rs)) → Each Has (r ∷ rs) =
    λ b. elim b as (λ b. (r.respondent == respondent) ≡ b → Each P (cond b (r ∷ of_respondent respondent rs) (of_respondent respondent rs)) → Each Has (r ∷ rs)) [
      | true ↦ λ yes all. ((λ same. all.0), of_one P respondent rs all.1)
      | false ↦ λ no all. ((λ same. absurd (let both : true ≡ false = sym (eq-eqb r.respondent respondent same) ∙ no in cc)), of_one P respondent rs all)
    ] in
    go (r.respondent == respondent) refl each

-- and so of all sessions, each at its respondent
of_all : (P : ℕ → SessionRun → Type 0) (runs : List SessionRun) (most : ℕ)
    → ((respondent : ℕ) → 1 ≤ respondent → respondent ≤ most → Each (λ (run : SessionRun). run.respondent ≡ respondent → P respondent run) runs)
    → Each (λ (run : SessionRun). (1 ≤ run.respondent) × (run.respondent ≤ most)) runs → Each (λ (run : SessionRun). P run.respondent run) runs
of_all P [] most f within = tt
of_all P (r ∷ rs) most f within = (
  (f r.respondent within.0.0 within.0.1).0 refl,
  of_all P rs most (λ respondent low high. (f respondent low high).1) within.1,
)

within_script : (most : ℕ) (sessions : List ScriptSessionView) (runs : List SessionRun) → AllZip IsRunOf sessions runs → Each (IsWholeSession most) sessions
    → Each (λ (run : SessionRun). (1 ≤ run.respondent) × (run.respondent ≤ most)) runs
within_script most [] [] zip each = tt
within_script most [] (r ∷ rs) zip each = absurd zip
within_script most (s ∷ ss) [] zip each = absurd zip
within_script most (s ∷ ss) (r ∷ rs) zip each = (
  (omega (arith, zip.0.respondent, each.0.respondent.0), omega (arith, zip.0.respondent, each.0.respondent.1)),
  within_script most ss rs zip.1 each.1,
)

all_stand : (script : ScriptView) (workers : ℕ) (end : RunView) (runs : List SessionRun) → IsWholeScript script → IsRunBy script workers end runs
    → Each (Stands (model_of script.definition) end.states) runs
all_stand script workers end runs whole is =
    let criteria : Criteria = model_of script.definition in
    let most : ℕ = length script.definition.respondents in
    let P = λ (respondent : ℕ) (run : SessionRun). item_at end.states respondent ≡ item_at end.states run.respondent → Stands criteria end.states run in
    let there : (respondent : ℕ) → 1 ≤ respondent → respondent ≤ most → Each (λ (run : SessionRun). run.respondent ≡ respondent → P respondent run) runs =
    λ respondent low high.
    let found : (state : Surveyed) × (item_at end.states respondent ≡ Some state) = item_inside end.states respondent low (omega (arith, is.surveys)) in
    let run_is : IsSurveyRun criteria workers (of_respondent respondent runs) found.0 = is.each respondent found.0 found.1 in
    let mine : List SessionRun = of_respondent respondent runs in
    let Right = λ (run : SessionRun). All (λ (one : MessageRun). IsReplyIn found.0.listed run.desk found.0.journal (asked_by one.message) one.came) run.messages in
    let right : All Right mine = each_reply_stands_lem criteria workers mine found.0 run_is in
    of_one (P respondent) respondent runs
    (Each-map Right (P respondent)
    (λ run has same. record { state = found.0; is = sym same ∙ found.1; model = run_is.model; each = has })
    mine (All-Each Right mine right)) in
    Each-map (λ (run : SessionRun). P run.respondent run) (Stands criteria end.states) (λ run h. h refl) runs
    (of_all P runs most there (within_script most script.sessions runs is.runs (All-Each (IsWholeSession most) script.sessions whole.sessions)))

-- ---- so each can be written
welcome_writable : (state : Surveyed) (classes desk : ℕ) → CanBeWritten state.listed state.journal (reply.Welcome classes desk)
welcome_writable state classes desk = record { writable = tt; within = λ count same. absurd (cc) }

each_writable : (state : Surveyed) (desk : ℕ) (messages : List MessageRun)
    → Each (λ (one : MessageRun). IsReplyIn state.listed desk state.journal (asked_by one.message) one.came) messages
    → Each (CanBeWritten state.listed state.journal) (map message_reply messages)
each_writable state desk [] each = tt
each_writable state desk (one ∷ messages) each =
    (can_be_written state.listed desk state.journal one.message one.came each.0, each_writable state desk messages each.1)

session_writable : (criteria : Criteria) (states : List Surveyed) (classes : ℕ) (run : SessionRun) → Stands criteria states run
    → AreWritable criteria (item_at states run.respondent) (replies_of classes run)
session_writable criteria states classes run h =
    let Right = λ (one : MessageRun). IsReplyIn h.state.listed run.desk h.state.journal (asked_by one.message) one.came in
    record {
      state = h.state;
      is = h.is;
      model = h.model;
      each = Each-All (CanBeWritten h.state.listed h.state.journal) (replies_of classes run)
          (welcome_writable h.state classes run.desk, each_writable h.state run.desk run.messages (All-Each Right run.messages h.each));
    }

-- ---- by lines
as_many : (classes : ℕ) (session : ScriptSessionView) (run : SessionRun) → IsRunOf session run → length (replies_of classes run) ≡ session_lines session
as_many classes session run is =
    let one : length (map message_reply run.messages) ≡ length run.messages = length-map run.messages message_reply in
    let other : length (map (λ (m : MessageRun). m.message) run.messages) ≡ length run.messages = length-map run.messages (λ (m : MessageRun). m.message) in
    let same : length (map (λ (m : MessageRun). m.message) run.messages) ≡ length session.messages = ap (λ (ms : List (Option Message)). length ms) is.messages in
    omega (arith, one, other, same)

front_is : {X : Type 0} (xs ys : List X) (n : ℕ) → length xs ≡ n → take n (xs ++ ys) ≡ xs
front_is xs ys n long = subst (λ (m : ℕ). take m (xs ++ ys) ≡ xs) long (take-append_seam xs ys)

rest_is : {X : Type 0} (xs ys : List X) (n : ℕ) → length xs ≡ n → drop n (xs ++ ys) ≡ ys
rest_is xs ys n long = subst (λ (m : ℕ). drop m (xs ++ ys) ≡ ys) long (drop-append_seam xs ys)

have_replies : (criteria : Criteria) (states : List Surveyed) (classes : ℕ) (sessions : List ScriptSessionView) (runs : List SessionRun) → AllZip IsRunOf sessions runs
    → Each (Stands criteria states) runs → EachHasReplies criteria states sessions (flat_map (replies_of classes) runs)
have_replies criteria states classes [] runs zip each = tt
have_replies criteria states classes (s ∷ ss) [] zip each = absurd zip
have_replies criteria states classes (s ∷ ss) (r ∷ rs) zip each =
    let own : List Reply = replies_of classes r in
    let later : List Reply = flat_map (replies_of classes) rs in
    let long : length own ≡ session_lines s = as_many classes s r zip.0 in
    let front : take (session_lines s) (own ++ later) ≡ own = front_is own later (session_lines s) long in
    let rest : drop (session_lines s) (own ++ later) ≡ later = rest_is own later (session_lines s) long in (
      omega (arith, long, length-append own later),
      subst (λ (replies : List Reply). AreWritable criteria (item_at states s.respondent) replies) (sym front)
          (subst (λ (n : ℕ). AreWritable criteria (item_at states n) own) zip.0.respondent (session_writable criteria states classes r each.0)),
      subst (λ (replies : List Reply). EachHasReplies criteria states ss replies) (sym rest) (have_replies criteria states classes ss rs zip.1 each.1),
    )

same_text : (states : List Surveyed) (classes : ℕ) (sessions : List ScriptSessionView) (runs : List SessionRun) → AllZip IsRunOf sessions runs
    → text_by_lines states sessions (flat_map (replies_of classes) runs) ≡ sessions_text classes states runs
same_text states classes [] [] zip = refl
same_text states classes [] (r ∷ rs) zip = absurd zip
same_text states classes (s ∷ ss) [] zip = absurd zip
same_text states classes (s ∷ ss) (r ∷ rs) zip =
    let own : List Reply = replies_of classes r in
    let later : List Reply = flat_map (replies_of classes) rs in
    let long : length own ≡ session_lines s = as_many classes s r zip.0 in
    let front : take (session_lines s) (own ++ later) ≡ own = front_is own later (session_lines s) long in
    let rest : drop (session_lines s) (own ++ later) ≡ later = rest_is own later (session_lines s) long in
    let one : replies_text (item_at states s.respondent) (take (session_lines s) (own ++ later)) ≡ session_text classes states r =
    ap (λ (replies : List Reply). replies_text (item_at states s.respondent) replies) front
    ∙ ap (λ (n : ℕ). replies_text (item_at states n) own) (sym zip.0.respondent) in
    let others : text_by_lines states ss (drop (session_lines s) (own ++ later)) ≡ sessions_text classes states rs =
    ap (λ (replies : List Reply). text_by_lines states ss replies) rest ∙ same_text states classes ss rs zip.1 in
    ap (λ (l : List ℕ). l ++ text_by_lines states ss (drop (session_lines s) (own ++ later))) one
    ∙ ap (λ (l : List ℕ). session_text classes states r ++ l) others

-- ---- one session
module _ (criteria : Criteria) (states : List Surveyed) (sessions : List ScriptSessionView) (k : ℕ) (session : ScriptSessionView) (replies own later : List Reply) (lines : ℕ)
    (within : k < length sessions) (is : session ≡ get_or sessions k session) (counted : lines ≡ session_lines session)
    (front : own ≡ take lines replies) (back : later ≡ drop lines replies) where
  here : drop k sessions ≡ session ∷ drop (k + 1) sessions
  here =
      let next : k + 1 ≡ suc k = omega arith in
      rw next (drop-cons sessions k session within ∙ ap (λ (s : ScriptSessionView). s ∷ drop (suc k) sessions) (sym is))

  own_is : take (session_lines session) replies ≡ own
  own_is = sym (front ∙ ap (λ (n : ℕ). take n replies) counted)

  later_is : drop (session_lines session) replies ≡ later
  later_is = sym (back ∙ ap (λ (n : ℕ). drop n replies) counted)

  -- its text, and then that of the later sessions
  text_here : text_by_lines states (drop k sessions) replies
      ≡ replies_text (item_at states session.respondent) own ++ text_by_lines states (drop (k + 1) sessions) later
  text_here =
      ap (λ (ss : List ScriptSessionView). text_by_lines states ss replies) here
      ∙ ap (λ (rs : List Reply). replies_text (item_at states session.respondent) rs ++ text_by_lines states (drop (k + 1) sessions) (drop (session_lines session) replies)) own_is
      ∙ ap (λ (rs : List Reply). replies_text (item_at states session.respondent) own ++ text_by_lines states (drop (k + 1) sessions) rs) later_is

  module _ (before mid now : Option (List ℕ)) (whole : List ℕ) (out : IsOut before mid (text_by_lines states (drop k sessions) replies) whole) where
    rest_is_here : IsOut before mid (replies_text (item_at states session.respondent) own ++ text_by_lines states (drop (k + 1) sessions) later) whole
    rest_is_here = subst (λ (left : List ℕ). IsOut before mid left whole) text_here out

    -- its text went out
    pub session_out : Appends mid now (replies_text (item_at states session.respondent) own) → IsOut before now (text_by_lines states (drop (k + 1) sessions) later) whole
    session_out put = out_more before mid now (replies_text (item_at states session.respondent) own) (text_by_lines states (drop (k + 1) sessions) later) whole rest_is_here put

    -- the sink failed at it
    pub session_cut : AppendsPrefix mid now (replies_text (item_at states session.respondent) own) → AppendsPrefix before now whole
    session_cut put = out_cut before mid now (replies_text (item_at states session.respondent) own) (text_by_lines states (drop (k + 1) sessions) later) whole rest_is_here put

  -- the later sessions have their replies
  pub has_later : EachHasReplies criteria states (drop k sessions) replies → EachHasReplies criteria states (drop (k + 1) sessions) later
  has_later has =
      let all : EachHasReplies criteria states (session ∷ drop (k + 1) sessions) replies = subst (λ (ss : List ScriptSessionView). EachHasReplies criteria states ss replies) here has in
      subst (λ (rs : List Reply). EachHasReplies criteria states (drop (k + 1) sessions) rs) later_is all.2

-- ---- a run
module _ (script : ScriptView) (workers : ℕ) (end : RunView) (runs : List SessionRun) (is : IsRunBy script workers end runs) where
  pub run_has_replies : IsWholeScript script → EachHasReplies (model_of script.definition) end.states script.sessions end.replies
  run_has_replies whole =
      subst (λ (replies : List Reply). EachHasReplies (model_of script.definition) end.states script.sessions replies) (sym is.replies)
      (have_replies (model_of script.definition) end.states (count_of (model_of script.definition)) script.sessions runs is.runs
      (all_stand script workers end runs whole is))

  pub run_text_is : text_by_lines end.states script.sessions end.replies ≡ sessions_text (count_of (model_of script.definition)) end.states runs
  run_text_is =
      ap (λ (replies : List Reply). text_by_lines end.states script.sessions replies) is.replies
      ∙ same_text end.states (count_of (model_of script.definition)) script.sessions runs is.runs
