-- The limits that sessions keep from line to line.
use Rattle.std.proofs.Common.{◌≡◌, ℕ, ◌+◌, ◌≤◌, ◌<◌, Bool, true, false, List, [], ◌∷◌, ◌++◌, length, refl, ap, subst, ◌∙◌, arith, if◌then◌else◌, length-append}
use Rattle.std.specs.Prelude.{nat_le, nat_lt, All, Option, Some, None, OnOk, Result, Ok, Err}
use Rattle.std.proofs.lemmas.Bool.Decides.{nat_tests}
use Rattle.std.proofs.lemmas.List.{append-nil}
use Rattle.std.proofs.lemmas.List.Elements.{All-append, All-cons, All-head, All-nil}
use Rattle.json_forms.specs.declared.messages.Message.{Message}
use Rattle.json_forms.specs.declared.messages.Message.TheVariants as said
use Rattle.json_forms.specs.DefinitionViews.{DefinitionView}
use Rattle.json_forms.specs.HelloView.{HelloView}
use Rattle.json_forms.specs.Messages.{message_of}
use Rattle.survey_script.specs.declared.hellos.Admitted.{Admitted}
use Rattle.survey_script.specs.declared.hellos.HelloFault.{HelloFault}
use Rattle.survey_script.specs.declared.limits.TheConstants.{MAX_SESSIONS, MAX_SCRIPT_LINES}
use Rattle.survey_script.specs.declared.stops.ScriptPart.{ScriptPart}
use Rattle.survey_script.specs.Hellos.{admission_of}
use Rattle.survey_script.specs.ScriptViews.{IsBetween, IsUpToBye, IsWholeScript, IsWholeSession, ScriptSessionView, begun_session, is_bye, is_hello, line_count, script_view, with_message}
use Rattle.survey_script.specs.Scripts.{SessionsView, after_hello, after_line, after_message, begun_by, sessions_view}
use Rattle.survey_script.specs.Steps.{AreWithin, IsBegunSession, all_sessions, running_list}
use Rattle.survey_script.proofs.HelloLemmas.{is_admitted}

-- ---- lines of sessions

count-append : (sessions others : List ScriptSessionView) → line_count (sessions ++ others) ≡ line_count sessions + line_count others
count-append [] others = omega arith
count-append (session ∷ sessions) others = omega (arith, count-append sessions others)

-- a test that was passed
pub other_way : {X : Type 0} (b : Bool) (part : ScriptPart) (rest : Result X ScriptPart) (x : X) → (if b then Err part else rest) ≡ Ok x → (b ≡ false) × (rest ≡ Ok x)
other_way true part rest x is = cc
other_way false part rest x is = (refl, is)

-- a message that is a bye
pub bye_is : (message : Option Message) → is_bye message ≡ true → message ≡ Some said.Bye
bye_is None is = cc
bye_is (Some (said.Hello hello)) is = cc
bye_is (Some said.Next) is = cc
bye_is (Some (said.Answer question side)) is = cc
bye_is (Some said.Values) is = cc
bye_is (Some said.Withdraw) is = cc
bye_is (Some said.Result) is = cc
bye_is (Some said.Bye) is = refl

module _ (definition : DefinitionView) (number : ℕ) (ended : List ScriptSessionView) (short : number ≤ MAX_SCRIPT_LINES + 1) where
  abbrev respondents : ℕ
  respondents = length definition.respondents

  -- a session begins
  begins_within : (hello : HelloView) (admission : Result Admitted HelloFault) → admission_of definition hello ≡ admission → (new : SessionsView)
      → begun_by ended admission ≡ Ok new → length ended < MAX_SESSIONS → AreWithin respondents number (sessions_view ended None) → AreWithin respondents (number + 1) new
  begins_within hello (Err fault) at new is room within = cc
  begins_within hello (Ok admitted) at new is room within =
      let session : ScriptSessionView = begun_session admitted.respondent admitted.desk in
      let same : sessions_view ended (Some session) ≡ new = cc in
      let here = is_admitted definition hello admitted at in
      subst (λ (s : SessionsView). AreWithin respondents (number + 1) s) same (record {
        ended = within.ended;
        running = All-cons (IsBegunSession respondents) session [] (record { respondent = (here.0, here.1); desk = here.2; messages = All-nil IsBetween }) (All-nil (IsBegunSession respondents));
        few = omega (arith, length-append ended (session ∷ []));
        lines = omega (arith, within.lines, count-append ended [], count-append ended (session ∷ []));
        short = omega arith;
      })

  hello_within : (message : Option Message) (new : SessionsView) → after_hello definition ended message ≡ Ok new
      → AreWithin respondents number (sessions_view ended None) → AreWithin respondents (number + 1) new
  hello_within None new is within = cc
  hello_within (Some (said.Hello hello)) new is within =
      let test = other_way (nat_le MAX_SESSIONS (length ended)) _ _ new is in
      let room : length ended < MAX_SESSIONS = grind (arith, nat_tests, test.0) in
      begins_within hello (admission_of definition hello) refl new test.1 room within
  hello_within (Some said.Next) new is within = cc
  hello_within (Some (said.Answer question side)) new is within = cc
  hello_within (Some said.Values) new is within = cc
  hello_within (Some said.Withdraw) new is within = cc
  hello_within (Some said.Result) new is within = cc
  hello_within (Some said.Bye) new is within = cc

  -- a session goes on or ends
  abbrev after_others : Bool → ScriptSessionView → Option Message → Result SessionsView ScriptPart
  after_others bye session message =
      if bye then Ok (sessions_view (ended ++ with_message session message ∷ []) None) else Ok (sessions_view ended (Some (with_message session message)))

  request_by : (session : ScriptSessionView) (message : Option Message) (bye : Bool) → is_bye message ≡ bye → is_hello message ≡ false → (new : SessionsView)
      → after_others bye session message ≡ Ok new
      → AreWithin respondents number (sessions_view ended (Some session)) → AreWithin respondents (number + 1) new
  request_by session message true bye no_hello new is within =
      let longer : ScriptSessionView = with_message session message in
      let begun : IsBegunSession respondents session = All-head (IsBegunSession respondents) session [] within.running in
      let same : sessions_view (ended ++ longer ∷ []) None ≡ new = cc in
      let upto : IsUpToBye longer.messages = record { earlier = session.messages; whole = ap (λ (m : Option Message). session.messages ++ m ∷ []) (bye_is message bye); between = begun.messages } in
      let whole : IsWholeSession respondents longer = record { respondent = begun.respondent; desk = begun.desk; messages = upto } in
      subst (λ (s : SessionsView). AreWithin respondents (number + 1) s) same (record {
        ended = All-append (IsWholeSession respondents) ended (longer ∷ []) within.ended (All-cons (IsWholeSession respondents) longer [] whole (All-nil (IsWholeSession respondents)));
        running = All-nil (IsBegunSession respondents);
        few = omega (arith, within.few, length-append ended (session ∷ []), length-append (ended ++ longer ∷ []) [], length-append ended (longer ∷ []));
        lines = omega (arith, within.lines, count-append ended (session ∷ []), count-append (ended ++ longer ∷ []) [], count-append ended (longer ∷ []), length-append session.messages (message ∷ []));
        short = omega arith;
      })
  request_by session message false bye no_hello new is within =
      let longer : ScriptSessionView = with_message session message in
      let begun : IsBegunSession respondents session = All-head (IsBegunSession respondents) session [] within.running in
      let same : sessions_view ended (Some longer) ≡ new = cc in
      let messages : All IsBetween longer.messages = All-append IsBetween session.messages (message ∷ []) begun.messages (All-cons IsBetween message [] (no_hello, bye) (All-nil IsBetween)) in
      let goes : IsBegunSession respondents longer = record { respondent = begun.respondent; desk = begun.desk; messages = messages } in
      subst (λ (s : SessionsView). AreWithin respondents (number + 1) s) same (record {
        ended = within.ended;
        running = All-cons (IsBegunSession respondents) longer [] goes (All-nil (IsBegunSession respondents));
        few = omega (arith, within.few, length-append ended (session ∷ []), length-append ended (longer ∷ []));
        lines = omega (arith, within.lines, count-append ended (session ∷ []), count-append ended (longer ∷ []), length-append session.messages (message ∷ []));
        short = omega arith;
      })

  message_within : (running : Option ScriptSessionView) (message : Option Message) (new : SessionsView) → after_message definition ended running message ≡ Ok new
      → AreWithin respondents number (sessions_view ended running) → AreWithin respondents (number + 1) new
  message_within None message new is within = hello_within message new is within
  message_within (Some session) message new is within =
      let test = other_way (is_hello message) _ _ new is in
      request_by session message (is_bye message) refl test.0 new test.1 within

-- one more line
pub line_within : (definition : DefinitionView) (number : ℕ) (old new : SessionsView) (line : List ℕ) → number ≤ MAX_SCRIPT_LINES + 1
    → after_line definition number old line ≡ Ok new → AreWithin (length definition.respondents) number old → AreWithin (length definition.respondents) (number + 1) new
line_within definition number old new line short is within =
    let fits = other_way (nat_lt 4096 (length line)) _ _ new is in
    let few = other_way (nat_lt 65537 number) _ _ new fits.1 in
    message_within definition number old.ended short old.running (message_of line) new few.1 within

-- where no session is running they are those of a script
pub whole_within : (definition : DefinitionView) (number : ℕ) (sessions : SessionsView) → AreWithin (length definition.respondents) number sessions
    → sessions.running ≡ None → IsWholeScript (script_view definition sessions.ended)
whole_within definition number sessions within none =
    let all : all_sessions sessions ≡ sessions.ended = ap (λ (r : Option ScriptSessionView). sessions.ended ++ running_list r) none ∙ append-nil sessions.ended in
    record {
      sessions = within.ended;
      few = subst (λ (xs : List ScriptSessionView). length xs ≤ MAX_SESSIONS) all within.few;
      lines = omega (arith, within.lines, within.short, ap line_count all);
    }

-- the same after the last line
pub last_within : {A E : Type 0} (definition : DefinitionView) (number : ℕ) (old new : SessionsView) (line : List ℕ) (result : Result A E) → number ≤ MAX_SCRIPT_LINES + 1
    → after_line definition number old line ≡ Ok new → OnOk result (new.running ≡ None)
    → OnOk result (AreWithin (length definition.respondents) number old → IsWholeScript (script_view definition new.ended))
last_within definition number old new line (Err e) short is none = tt
last_within definition number old new line (Ok x) short is none = λ within.
    whole_within definition (number + 1) new (line_within definition number old new line short is within) none
