-- The replies of all sessions, one session after another.
use Rattle.std.specs.Prelude.{get_or}
use Rattle.std.proofs.Common.{◌≡◌, ℕ, zero, suc, ◌+◌, ◌-◌, ◌<◌, ◌≤◌, List, [], ◌∷◌, ◌++◌, length, map, take, Some, slice_get, refl, ap, sym, ◌∙◌, subst, arith, append-nil}
use Rattle.std.specs.List.{flat_map}
use Rattle.std.specs.Global.{Vec}
use Rattle.std.proofs.lemmas.List.Concat.{flat_map-append}
use Rattle.std.proofs.lemmas.Option.{none-some, same_Some}
use Rattle.criteria_model.specs.Criteria.{Criteria}
use Rattle.json_forms.specs.declared.replies.Reply.{Reply}
use Rattle.survey_core.specs.Legal.{IsDesk}
use Rattle.survey_core.proofs.ListSteps.{take_next}
use Rattle.survey_script.specs.ScriptViews.{ScriptSessionView, line_count}
use Rattle.survey_run.specs.declared.ends.SurveyEnd.{SurveyEnd}
use Rattle.survey_run.specs.declared.plans.DeskTold.{DeskTold}
use Rattle.survey_run.specs.Collects.{run_at, runs_from}
use Rattle.survey_run.specs.Each.{EachZipFrom}
use Rattle.survey_run.specs.Ends.{DeskPart, EndAt}
use Rattle.survey_run.specs.Runs.{count_of}
use Rattle.survey_run.specs.Sessions.{IsRunOf, MessageRun, SessionRun, message_reply, replies_of}
use Rattle.survey_run.proofs.FoundLemmas.{IsFound, found}
use Rattle.survey_run.proofs.ListLemmas.{map_length}

-- what stands at a place
there_is : {X : Type 0} (xs : List X) (k : ℕ) (x y : X) → slice_get xs k ≡ Some x → y ≡ get_or xs k y → y ≡ x
there_is [] k x y at is = absurd (none-some x at)
there_is (z ∷ zs) zero x y at is = is ∙ same_Some z x at
there_is (z ∷ zs) (suc k) x y at is = there_is zs k x y at is

there_within : {X : Type 0} (xs : List X) (k : ℕ) (x : X) → slice_get xs k ≡ Some x → k < length xs
there_within [] k x at = absurd (none-some x at)
there_within (z ∷ zs) zero x at = omega arith
there_within (z ∷ zs) (suc k) x at = omega (arith, there_within zs k x at)

module _ (criteria : Criteria) (workers : ℕ) (sessions : List ScriptSessionView) (parts : List (List DeskPart)) (ends : List SurveyEnd) (session : ScriptSessionView) (place : ℕ)
    (each : EachZipFrom (EndAt criteria workers sessions) 0 parts ends) (stands : slice_get sessions place ≡ Some session)
    (low : 1 ≤ session.respondent) (high : session.respondent ≤ length ends) (desk : IsDesk session.desk) where
  here : IsFound criteria parts ends session place
  here = found criteria workers sessions parts ends session place each stands low high desk

  pub desk_within : (end : SurveyEnd) → end ≡ get_or ends (session.respondent - 1) end → session.desk - 1 < length end.told.items
  desk_within end is =
      let same = there_is ends (session.respondent - 1) here.end end here.at_end is in
      subst (λ (e : SurveyEnd). session.desk - 1 < length e.told.items) (sym same) (there_within here.end.told.items (session.desk - 1) here.told here.at_told)

  told_is : (end : SurveyEnd) (told : DeskTold) → end ≡ get_or ends (session.respondent - 1) end → told ≡ get_or end.told.items (session.desk - 1) told → told ≡ here.told
  told_is end told end_is at =
      let same = there_is ends (session.respondent - 1) here.end end here.at_end end_is in
      there_is here.end.told.items (session.desk - 1) here.told told here.at_told
      (subst (λ (e : SurveyEnd). told ≡ get_or e.told.items (session.desk - 1) told) same at)

  pub place_within : (end : SurveyEnd) (told : DeskTold) → end ≡ get_or ends (session.respondent - 1) end → told ≡ get_or end.told.items (session.desk - 1) told
      → place < length told.sessions.items
  place_within end told one two =
      subst (λ (t : DeskTold). place < length t.sessions.items) (sym (told_is end told one two)) (there_within here.told.sessions.items place here.replies here.at_replies)

  pub replies_are : (end : SurveyEnd) (told : DeskTold) (replies : Vec Reply) → end ≡ get_or ends (session.respondent - 1) end
      → told ≡ get_or end.told.items (session.desk - 1) told → replies ≡ get_or told.sessions.items place replies
      → (replies.items ≡ replies_of (count_of criteria) (run_at parts session place)) × IsRunOf session (run_at parts session place)
  replies_are end told replies one two three =
      let same = told_is end told one two in
      let list : replies ≡ here.replies = there_is here.told.sessions.items place here.replies replies here.at_replies
      (subst (λ (t : DeskTold). replies ≡ get_or t.sessions.items place replies) same three) in
      (ap (λ (v : Vec Reply). v.items) list ∙ here.shown, here.is)

-- as many as there are lines
pub reply_count : (classes : ℕ) (session : ScriptSessionView) (run : SessionRun) (replies : List Reply) → replies ≡ replies_of classes run → IsRunOf session run
    → length replies ≡ length session.messages + 1
reply_count classes session run replies are is =
    let all : length replies ≡ suc (length (map message_reply run.messages)) = ap {B = ℕ} length are in
    let long = map_length message_reply run.messages in
    let asked : length (map (λ (one : MessageRun). one.message) run.messages) ≡ length session.messages = ap {B = ℕ} length is.messages in
    let same = map_length (λ (one : MessageRun). one.message) run.messages in
    omega (arith, all, long, asked, same)

-- ---- one session more
runs_push : (parts : List (List DeskPart)) (n m : ℕ) (sessions : List ScriptSessionView) (session : ScriptSessionView) → n + length sessions ≡ m
    → runs_from parts n (sessions ++ session ∷ []) ≡ runs_from parts n sessions ++ run_at parts session m ∷ []
runs_push parts n m [] session same = let e : n ≡ m = omega (arith, same) in rw e refl
runs_push parts n m (s ∷ ss) session same =
    ap (λ (runs : List SessionRun). run_at parts s n ∷ runs) (runs_push parts (n + 1) m ss session (omega (arith, same)))

lines_push : (sessions : List ScriptSessionView) (session : ScriptSessionView) → line_count (sessions ++ session ∷ []) ≡ line_count sessions + (length session.messages + 1)
lines_push [] session = omega arith
lines_push (s ∷ ss) session = omega (arith, lines_push ss session)

pub lines_front : (sessions : List ScriptSessionView) (k : ℕ) → line_count (take k sessions) ≤ line_count sessions
lines_front [] zero = omega arith
lines_front [] (suc k) = omega arith
lines_front (s ∷ ss) zero = omega arith
lines_front (s ∷ ss) (suc k) = omega (arith, lines_front ss k)

take_long : {X : Type 0} (xs : List X) (k : ℕ) (x : X) → slice_get xs k ≡ Some x → length (take k xs) ≡ k
take_long [] k x at = absurd (none-some x at)
take_long (z ∷ zs) zero x at = refl
take_long (z ∷ zs) (suc k) x at = ap {B = ℕ} (λ n. suc n) (take_long zs k x at)

pub lines_more : (sessions : List ScriptSessionView) (k more : ℕ) (session : ScriptSessionView) → more ≡ suc k → slice_get sessions k ≡ Some session
    → line_count (take more sessions) ≡ line_count (take k sessions) + (length session.messages + 1)
lines_more sessions k more session next at = rw next (ap {B = ℕ} line_count (take_next sessions k session at) ∙ lines_push (take k sessions) session)

pub replies_more : (classes : ℕ) (parts : List (List DeskPart)) (sessions : List ScriptSessionView) (k more : ℕ) (session : ScriptSessionView) (before after : List Reply) → more ≡ suc k
    → slice_get sessions k ≡ Some session → before ≡ flat_map (replies_of classes) (runs_from parts 0 (take k sessions))
    → after ≡ before ++ replies_of classes (run_at parts session k) → after ≡ flat_map (replies_of classes) (runs_from parts 0 (take more sessions))
replies_more classes parts sessions k more session before after next at was grown =
    let all = flat_map (replies_of classes) in
    let new = replies_of classes (run_at parts session k) in
    let runs : runs_from parts 0 (take more sessions) ≡ runs_from parts 0 (take k sessions) ++ run_at parts session k ∷ [] =
    rw next (ap (λ (ss : List ScriptSessionView). runs_from parts 0 ss) (take_next sessions k session at)
    ∙ runs_push parts 0 k (take k sessions) session (omega (arith, take_long sessions k session at))) in
    grown ∙ (ap (λ (rs : List Reply). rs ++ new) was
    ∙ (ap (λ (rs : List Reply). all (runs_from parts 0 (take k sessions)) ++ rs) (sym (append-nil new))
    ∙ (sym (flat_map-append (replies_of classes) (runs_from parts 0 (take k sessions)) (run_at parts session k ∷ [])) ∙ ap all (sym runs))))
