-- The lines of a script, and what the sessions after them are.
use Rattle.std.proofs.Common.{◌≡◌, ◌⊎◌, inl, inr, ℕ, suc, ◌+◌, ◌<◌, ◌≤◌, Bool, true, false, List, [], ◌∷◌, ◌++◌, length, map, flat_map, refl, sym, ap, subst, ◌∙◌, arith, append_assoc, if◌then◌else◌, length-append}
use Rattle.std.proofs.lemmas.Bool.Decides.{nat_tests}
use Rattle.std.proofs.lemmas.List.{append-nil}
use Rattle.std.proofs.lemmas.List.Elements.{All-cons, All-head, All-nil, All-tail}
use Rattle.std.specs.List.{AllZip}
use Rattle.std.specs.Prelude.{nat_le, nat_lt, All, Option, Some, None, Result, Ok, Err}
use Rattle.edges.specs.Line.{first_line}
use Rattle.json_forms.specs.declared.definition_faults.DefinitionFault.{DefinitionFault}
use Rattle.json_forms.specs.declared.definition_faults.DefinitionFault.TheVariants as fault
use Rattle.json_forms.specs.declared.definition_faults.TheConstants.{MAX_DEFINITION}
use Rattle.json_forms.specs.declared.messages.Message.{Message}
use Rattle.json_forms.specs.declared.messages.Message.TheVariants as said
use Rattle.json_forms.specs.DefinitionViews.{DefinitionView}
use Rattle.json_forms.specs.Definitions.{definition_of}
use Rattle.json_forms.specs.HelloView.{HelloView}
use Rattle.json_forms.specs.Messages.{message_of}
use Rattle.result_file.specs.declared.limits.TheConstants.{MAX_LINE}
use Rattle.survey_script.specs.declared.hellos.Admitted.{Admitted}
use Rattle.survey_script.specs.declared.hellos.HelloFault.{HelloFault}
use Rattle.survey_script.specs.declared.limits.TheConstants.{MAX_SESSIONS, MAX_SCRIPT_LINES}
use Rattle.survey_script.specs.declared.stops.ScriptPart.{ScriptPart}
use Rattle.survey_script.specs.declared.stops.ScriptStop.{ScriptStop}
use Rattle.survey_script.specs.declared.stops.ScriptStop.TheVariants.{Definition}
use Rattle.survey_script.specs.Hellos.{admission_of}
use Rattle.survey_script.specs.Laws.{AreScriptLines, AreSessionLines, ScriptsAreLines, SessionLines, first_and_others, lines_of_session}
use Rattle.survey_script.specs.ScriptViews.{IsBetween, IsUpToBye, IsWholeScript, IsWholeSession, ScriptSessionView, ScriptView, begun_session, is_bye, is_hello, script_view, with_message}
use Rattle.survey_script.specs.Scripts.{SessionsView, after_hello, after_line, after_message, after_request, begun_by, defined, ended_at, first_definition, go_on, no_sessions, script_by, script_in, script_of, script_with, sessions_after, sessions_view}
use Rattle.survey_script.specs.Steps.{AreWithin, IsBegunSession}
use Rattle.survey_script.proofs.StepLemmas.{goes_on_by}
use Rattle.survey_script.proofs.TextLemmas.{lines_in-first}
use Rattle.survey_script.proofs.WithinLemmas.{bye_is, line_within, other_way, whole_within}

-- ---- a line, and what comes after it

-- a line that passed the tests on it
record Passes (definition : DefinitionView) (number : ℕ) (old : SessionsView) (line : List ℕ) (new : SessionsView) : Type 0 where
  pub fits : length line ≤ MAX_LINE
  pub early : number ≤ MAX_SCRIPT_LINES + 1
  pub goes : after_message definition old.ended old.running (message_of line) ≡ Ok new

module _ (definition : DefinitionView) (number : ℕ) (old : SessionsView) (line : List ℕ) where
  passed : (new : SessionsView) → after_line definition number old line ≡ Ok new → Passes definition number old line new
  passed new is =
      let fits = other_way (nat_lt MAX_LINE (length line)) _ _ new is in
      let early = other_way (nat_lt (MAX_SCRIPT_LINES + 1) number) _ _ new fits.1 in
      record { fits = grind (arith, nat_tests, fits.0); early = grind (arith, nat_tests, early.0); goes = early.1 }

  passes : length line ≤ MAX_LINE → number ≤ MAX_SCRIPT_LINES + 1 → after_line definition number old line ≡ after_message definition old.ended old.running (message_of line)
  passes fits early =
      let short : nat_lt MAX_LINE (length line) ≡ false = grind (arith, nat_tests, fits) in
      let few : nat_lt (MAX_SCRIPT_LINES + 1) number ≡ false = grind (arith, nat_tests, early) in
      rw (short, few) refl

went_on : {X : Type 0} (number : ℕ) (read : Result SessionsView ScriptPart) (next : SessionsView → Result X ScriptStop) (x : X) → go_on number read next ≡ Ok x
    → (sessions : SessionsView) × (read ≡ Ok sessions) × (next sessions ≡ Ok x)
went_on number (Ok sessions) next x is = (sessions, refl, is)
went_on number (Err part) next x is = cc

-- ---- up to the bye

bye_alone : (message : Option Message) → message ≡ Some said.Bye → IsUpToBye (message ∷ [])
bye_alone message is = record { earlier = []; whole = ap (λ (m : Option Message). m ∷ []) is; between = All-nil IsBetween }

one_before : (message : Option Message) (messages : List (Option Message)) → IsBetween message → IsUpToBye messages → IsUpToBye (message ∷ messages)
one_before message messages here up = record {
  earlier = message ∷ up.earlier;
  whole = ap (λ (ms : List (Option Message)). message ∷ ms) up.whole;
  between = All-cons IsBetween message up.earlier here up.between;
}

none_before : (earlier : List (Option Message)) → [] ≡ earlier ++ Some said.Bye ∷ [] → ⊥
none_before [] is = cc
none_before (message ∷ earlier) is = cc

first_by : (message : Option Message) (messages earlier : List (Option Message)) → message ∷ messages ≡ earlier ++ Some said.Bye ∷ [] → All IsBetween earlier
    → ((message ≡ Some said.Bye) × (messages ≡ [])) ⊎ (IsBetween message × IsUpToBye messages)
first_by message messages [] is between = inl (cc, cc)
first_by message messages (one ∷ earlier) is between =
    let same : one ≡ message = cc in
    let rest : messages ≡ earlier ++ Some said.Bye ∷ [] = cc in
    inr (subst IsBetween same (All-head IsBetween one earlier between), record { earlier = earlier; whole = rest; between = All-tail IsBetween one earlier between })

-- ---- lines that come to sessions

-- the session after more lines
abbrev grown : ScriptSessionView → List (List ℕ) → ScriptSessionView
grown session lines = record session { messages = session.messages ++ map message_of lines }

-- where no session is running, the lines are those of the sessions that still come
record Follow (definition : DefinitionView) (ended : List ScriptSessionView) (lines : List (List ℕ)) (all : List ScriptSessionView) : Type 0 where
  pub later : List ScriptSessionView
  pub texts : List SessionLines
  pub same : all ≡ ended ++ later
  pub whole : lines ≡ flat_map lines_of_session texts
  pub each : AllZip (AreSessionLines definition) later texts

-- where one is running, they begin with the rest of its lines
record RunsOn (definition : DefinitionView) (ended : List ScriptSessionView) (session : ScriptSessionView) (lines : List (List ℕ)) (all : List ScriptSessionView) : Type 0 where
  pub own : List (List ℕ)
  pub rest : List (List ℕ)
  pub whole : lines ≡ own ++ rest
  pub upto : IsUpToBye (map message_of own)
  pub follow : Follow definition (ended ++ grown session own ∷ []) rest all

abbrev GoesOn : DefinitionView → List ScriptSessionView → Option ScriptSessionView → List (List ℕ) → List ScriptSessionView → Type 0
GoesOn definition ended None lines all = Follow definition ended lines all
GoesOn definition ended (Some session) lines all = RunsOn definition ended session lines all

module _ (definition : DefinitionView) (line : List ℕ) (lines : List (List ℕ)) (all : List ScriptSessionView) where
  -- what goes on from these sessions
  abbrev From : SessionsView → Type 0
  From sessions = GoesOn definition sessions.ended sessions.running lines all

  module _ (ended : List ScriptSessionView) where
    joins : (hello : HelloView) (admitted : Admitted) → admission_of definition hello ≡ Ok admitted → message_of line ≡ Some (said.Hello hello)
        → RunsOn definition ended (begun_session admitted.respondent admitted.desk) lines all → Follow definition ended (line ∷ lines) all
    joins hello admitted at told runs =
        let follow = runs.follow in
        let session : ScriptSessionView = grown (begun_session admitted.respondent admitted.desk) runs.own in
        record {
          later = session ∷ follow.later;
          texts = record { first = line; others = runs.own } ∷ follow.texts;
          same = follow.same ∙ append_assoc ended (session ∷ []) follow.later;
          whole = ap (λ (xs : List (List ℕ)). line ∷ xs) (runs.whole ∙ ap (λ (xs : List (List ℕ)). runs.own ++ xs) follow.whole);
          each = (record { hello = hello; said = told; admitted = at; messages = refl; ended = runs.upto }, follow.each);
        }

    begun : (hello : HelloView) (admission : Result Admitted HelloFault) → admission_of definition hello ≡ admission → message_of line ≡ Some (said.Hello hello)
        → (new : SessionsView) → begun_by ended admission ≡ Ok new → From new → Follow definition ended (line ∷ lines) all
    begun hello (Err fault) at told new is goes = cc
    begun hello (Ok admitted) at told new is goes =
        let same : new ≡ sessions_view ended (Some (begun_session admitted.respondent admitted.desk)) = cc in joins hello admitted at told (subst From same goes)

    by_hello : (message : Option Message) → message_of line ≡ message → (new : SessionsView) → after_hello definition ended message ≡ Ok new → From new
        → Follow definition ended (line ∷ lines) all
    by_hello None told new is goes = cc
    by_hello (Some (said.Hello hello)) told new is goes =
        let room = other_way (nat_le MAX_SESSIONS (length ended)) _ _ new is in
        begun hello (admission_of definition hello) refl told new room.1 goes
    by_hello (Some said.Next) told new is goes = cc
    by_hello (Some (said.Answer question side)) told new is goes = cc
    by_hello (Some said.Values) told new is goes = cc
    by_hello (Some said.Withdraw) told new is goes = cc
    by_hello (Some said.Result) told new is goes = cc
    by_hello (Some said.Bye) told new is goes = cc

    longer : (session : ScriptSessionView) → IsBetween (message_of line) → RunsOn definition ended (with_message session (message_of line)) lines all
        → RunsOn definition ended session (line ∷ lines) all
    longer session between runs = record {
      own = line ∷ runs.own;
      rest = runs.rest;
      whole = ap (λ (xs : List (List ℕ)). line ∷ xs) runs.whole;
      upto = one_before (message_of line) (map message_of runs.own) between runs.upto;
      follow = subst (λ (ms : List (Option Message)). Follow definition (ended ++ record session { messages = ms } ∷ []) runs.rest all)
          (append_assoc session.messages (message_of line ∷ []) (map message_of runs.own)) runs.follow;
    }

    by_request : (session : ScriptSessionView) (bye : Bool) → is_bye (message_of line) ≡ bye → is_hello (message_of line) ≡ false → (new : SessionsView)
        → after_request ended session (message_of line) ≡ Ok new → From new → RunsOn definition ended session (line ∷ lines) all
    by_request session true bye no_hello new is goes =
        let after : Ok (sessions_view (ended ++ with_message session (message_of line) ∷ []) None) ≡ Ok new = rw (no_hello, bye) at is in
        let same : new ≡ sessions_view (ended ++ with_message session (message_of line) ∷ []) None = cc in
        record { own = line ∷ []; rest = lines; whole = refl; upto = bye_alone (message_of line) (bye_is (message_of line) bye); follow = subst From same goes }
    by_request session false bye no_hello new is goes =
        let after : Ok (sessions_view ended (Some (with_message session (message_of line)))) ≡ Ok new = rw (no_hello, bye) at is in
        let same : new ≡ sessions_view ended (Some (with_message session (message_of line))) = cc in longer session (no_hello, bye) (subst From same goes)

    by_message : (running : Option ScriptSessionView) (new : SessionsView) → after_message definition ended running (message_of line) ≡ Ok new → From new
        → GoesOn definition ended running (line ∷ lines) all
    by_message None new is goes = by_hello (message_of line) refl new is goes
    by_message (Some session) new is goes =
        let test = other_way (is_hello (message_of line)) _ _ new is in
        by_request session (is_bye (message_of line)) refl test.0 new is goes

at_end : (definition : DefinitionView) (number : ℕ) (ended : List ScriptSessionView) (running : Option ScriptSessionView) (all : List ScriptSessionView)
    → ended_at number ended running ≡ Ok all → GoesOn definition ended running [] all
at_end definition number ended None all is =
    let same : all ≡ ended = cc in record { later = []; texts = []; same = same ∙ sym (append-nil ended); whole = refl; each = tt }
at_end definition number ended (Some session) all is = cc

goes_on : (definition : DefinitionView) (number : ℕ) (old : SessionsView) (lines : List (List ℕ)) (all : List ScriptSessionView)
    → sessions_after definition number old lines ≡ Ok all → GoesOn definition old.ended old.running lines all
goes_on definition number old [] all is = at_end definition number old.ended old.running all is
goes_on definition number old (line ∷ lines) all is =
    let went = went_on number (after_line definition number old line) (λ next. sessions_after definition (number + 1) next lines) all is in
    let here = passed definition number old line went.0 went.1 in
    by_message definition line lines all old.ended old.running went.0 here.goes (goes_on definition (number + 1) went.0 lines all went.2)

-- ---- their limits

abbrev Fits : List ℕ → Type 0
Fits line = length line ≤ MAX_LINE

all_parts : (lines others : List (List ℕ)) → All Fits (lines ++ others) → All Fits lines × All Fits others
all_parts [] others all = (All-nil Fits, all)
all_parts (line ∷ lines) others all =
    let rest = all_parts lines others (All-tail Fits line (lines ++ others) all) in
    (All-cons Fits line lines (All-head Fits line (lines ++ others) all) rest.0, rest.1)

limits : (definition : DefinitionView) (number : ℕ) (old : SessionsView) (lines : List (List ℕ)) (all : List ScriptSessionView)
    → sessions_after definition number old lines ≡ Ok all → number ≤ MAX_SCRIPT_LINES + 2 → All Fits lines × (number + length lines ≤ MAX_SCRIPT_LINES + 2)
limits definition number old [] all is short = (All-nil Fits, omega (arith, short))
limits definition number old (line ∷ lines) all is short =
    let went = went_on number (after_line definition number old line) (λ next. sessions_after definition (number + 1) next lines) all is in
    let here = passed definition number old line went.0 went.1 in
    let rest = limits definition (number + 1) went.0 lines all went.2 (omega (arith, here.early)) in
    (All-cons Fits line lines here.fits rest.0, omega (arith, rest.1))

end_within : (definition : DefinitionView) (number : ℕ) (ended : List ScriptSessionView) (running : Option ScriptSessionView) (all : List ScriptSessionView)
    → ended_at number ended running ≡ Ok all → AreWithin (length definition.respondents) number (sessions_view ended running) → IsWholeScript (script_view definition all)
end_within definition number ended None all is within =
    let same : ended ≡ all = cc in
    subst (λ (xs : List ScriptSessionView). IsWholeScript (script_view definition xs)) same (whole_within definition number (sessions_view ended None) within refl)
end_within definition number ended (Some session) all is within = cc

sessions_within : (definition : DefinitionView) (number : ℕ) (old : SessionsView) (lines : List (List ℕ)) (all : List ScriptSessionView)
    → sessions_after definition number old lines ≡ Ok all → AreWithin (length definition.respondents) number old → IsWholeScript (script_view definition all)
sessions_within definition number old [] all is within = end_within definition number old.ended old.running all is within
sessions_within definition number old (line ∷ lines) all is within =
    let went = went_on number (after_line definition number old line) (λ next. sessions_after definition (number + 1) next lines) all is in
    let here = passed definition number old line went.0 went.1 in
    sessions_within definition (number + 1) went.0 lines all went.2 (line_within definition number old went.0 line here.early went.1 within)

-- ---- sessions that lines come to

module _ (definition : DefinitionView) where
  -- one line
  step : (number : ℕ) (old new : SessionsView) (line : List ℕ) (others : List (List ℕ)) → Fits line → number ≤ MAX_SCRIPT_LINES + 1
      → after_message definition old.ended old.running (message_of line) ≡ Ok new
      → sessions_after definition number old (line ∷ others) ≡ sessions_after definition (number + 1) new others
  step number old new line others fits early is = goes_on_by definition number old new line (passes definition number old line fits early ∙ is) others

  -- the rest of a session's lines
  module _ (ended : List ScriptSessionView) (rest : List (List ℕ)) where
    abbrev Runs : ℕ → ScriptSessionView → List (List ℕ) → Type 0
    Runs number session own = sessions_after definition number (sessions_view ended (Some session)) (own ++ rest)
        ≡ sessions_after definition (number + length own) (sessions_view (ended ++ grown session own ∷ []) None) rest

    last : (number : ℕ) (session : ScriptSessionView) (line : List ℕ) (others : List (List ℕ)) → Fits line → number ≤ MAX_SCRIPT_LINES + 1
        → message_of line ≡ Some said.Bye → map message_of others ≡ [] → Runs number session (line ∷ others)
    last number session line (other ∷ others) fits early bye none = cc
    last number session line [] fits early bye none =
        let after : after_request ended session (message_of line) ≡ Ok (sessions_view (ended ++ with_message session (message_of line) ∷ []) None) = rw bye refl in
        step number (sessions_view ended (Some session)) (sessions_view (ended ++ with_message session (message_of line) ∷ []) None) line rest fits early after

    between : (number : ℕ) (session : ScriptSessionView) (line : List ℕ) (others : List (List ℕ)) → Fits line → number ≤ MAX_SCRIPT_LINES + 1
        → IsBetween (message_of line) → Runs (number + 1) (with_message session (message_of line)) others → Runs number session (line ∷ others)
    between number session line others fits early is runs =
        let longer : ScriptSessionView = with_message session (message_of line) in
        let after : after_request ended session (message_of line) ≡ Ok (sessions_view ended (Some longer)) = rw (is.0, is.1) refl in
        let count : number + 1 + length others ≡ number + length (line ∷ others) = omega arith in
        step number (sessions_view ended (Some session)) (sessions_view ended (Some longer)) line (others ++ rest) fits early after ∙ runs
        ∙ ap (λ (n : ℕ). sessions_after definition n (sessions_view (ended ++ grown longer others ∷ []) None) rest) count
        ∙ ap (λ (ms : List (Option Message)). sessions_after definition (number + length (line ∷ others)) (sessions_view (ended ++ record session { messages = ms } ∷ []) None) rest)
        (append_assoc session.messages (message_of line ∷ []) (map message_of others))

    runs_on : (number : ℕ) (session : ScriptSessionView) (own : List (List ℕ)) → IsUpToBye (map message_of own) → All Fits own
        → number + length own ≤ MAX_SCRIPT_LINES + 2 → Runs number session own
    runs_on number session [] upto fit few = absurd (none_before upto.earlier upto.whole)
    runs_on number session (line ∷ others) upto fit few =
        elim (first_by (message_of line) (map message_of others) upto.earlier upto.whole upto.between) [
          | inl bye ↦ last number session line others (All-head Fits line others fit) (omega (arith, few)) bye.0 bye.1
          | inr more ↦ between number session line others (All-head Fits line others fit) (omega (arith, few)) more.0
              (runs_on (number + 1) (with_message session (message_of line)) others more.1 (All-tail Fits line others fit) (omega (arith, few)))
        ]

  -- a session's hello
  begins : (ended : List ScriptSessionView) (session : ScriptSessionView) (lines : SessionLines) → AreSessionLines definition session lines → length ended < MAX_SESSIONS
      → after_hello definition ended (message_of lines.first) ≡ Ok (sessions_view ended (Some (begun_session session.respondent session.desk)))
  begins ended session lines are room =
      let test : nat_le MAX_SESSIONS (length ended) ≡ false = grind (arith, nat_tests, room) in
      rw are.said (rw (test, are.admitted) refl)

  -- sessions, one after another
  reaches : (number : ℕ) (ended sessions : List ScriptSessionView) (texts : List SessionLines) → AllZip (AreSessionLines definition) sessions texts
      → All Fits (flat_map lines_of_session texts) → number + length (flat_map lines_of_session texts) ≤ MAX_SCRIPT_LINES + 2 → length ended + length sessions ≤ MAX_SESSIONS
      → sessions_after definition number (sessions_view ended None) (flat_map lines_of_session texts) ≡ Ok (ended ++ sessions)
  reaches number ended [] [] each fit few room = ap (λ (xs : List ScriptSessionView). Ok xs) (sym (append-nil ended))
  reaches number ended [] (lines ∷ texts) each fit few room = absurd each
  reaches number ended (session ∷ sessions) [] each fit few room = absurd each
  reaches number ended (session ∷ sessions) (lines ∷ texts) each fit few room =
      let are : AreSessionLines definition session lines = each.0 in
      let rest : List (List ℕ) = flat_map lines_of_session texts in
      let fits = all_parts lines.others rest (All-tail Fits lines.first (lines.others ++ rest) fit) in
      let begun : ScriptSessionView = begun_session session.respondent session.desk in
      let count : number + (suc (length lines.others + length rest)) ≤ MAX_SCRIPT_LINES + 2 = omega (arith, few, length-append lines.others rest) in
      let same : grown begun lines.others ≡ session = ap (λ (ms : List (Option Message)). record session { messages = ms }) (sym are.messages) in
      step number (sessions_view ended None) (sessions_view ended (Some begun)) lines.first (lines.others ++ rest) (All-head Fits lines.first (lines.others ++ rest) fit)
      (omega (arith, count)) (begins ended session lines are (omega (arith, room)))
      ∙ runs_on ended rest (number + 1) begun lines.others (subst IsUpToBye are.messages are.ended) fits.0 (omega (arith, count))
      ∙ ap (λ (s : ScriptSessionView). sessions_after definition (number + 1 + length lines.others) (sessions_view (ended ++ s ∷ []) None) rest) same
      ∙ reaches (number + 1 + length lines.others) (ended ++ session ∷ []) sessions texts each.1 fits.1 (omega (arith, count))
      (omega (arith, room, length-append ended (session ∷ [])))
      ∙ ap (λ (xs : List ScriptSessionView). Ok xs) (append_assoc ended (session ∷ []) sessions)

-- ---- whole scripts

none_within : (respondents : ℕ) → AreWithin respondents 2 no_sessions
none_within respondents = record {
  ended = All-nil (IsWholeSession respondents);
  running = All-nil (IsBegunSession respondents);
  few = omega arith;
  lines = refl;
  short = omega arith;
}

passed_first : (long : Bool) (read : Result DefinitionView DefinitionFault) (definition : DefinitionView)
    → (if long then Err (Definition fault.Long) else defined read) ≡ Ok definition → (long ≡ false) × (read ≡ Ok definition)
passed_first true read definition is = cc
passed_first false (Ok one) definition is = let same : one ≡ definition = cc in (refl, ap (λ (d : DefinitionView). Ok d) same)
passed_first false (Err fault) definition is = cc

passes_first : (line : List ℕ) (definition : DefinitionView) → length line ≤ MAX_DEFINITION → definition_of line ≡ Ok definition → first_definition line ≡ Ok definition
passes_first line definition fits is =
    let test : nat_lt MAX_DEFINITION (length line) ≡ false = grind (arith, nat_tests, fits) in rw (test, is) refl

-- the definition and the sessions of a script that was read
with_read : (definition : DefinitionView) (read : Result (List ScriptSessionView) ScriptStop) (script : ScriptView) → script_with definition read ≡ Ok script
    → (definition ≡ script.definition) × (read ≡ Ok script.sessions)
with_read definition (Ok sessions) script is =
    let same : script_view definition sessions ≡ script = cc in (ap (λ (s : ScriptView). s.definition) same, ap (λ (s : ScriptView). Ok s.sessions) same)
with_read definition (Err stop) script is = cc

by_read : (first : Result DefinitionView ScriptStop) (lines : List (List ℕ)) (script : ScriptView) → script_by first lines ≡ Ok script
    → (first ≡ Ok script.definition) × (sessions_after script.definition 2 no_sessions lines ≡ Ok script.sessions)
by_read (Err stop) lines script is = cc
by_read (Ok definition) lines script is =
    let read = with_read definition (sessions_after definition 2 no_sessions lines) script is in
    (ap (λ (d : DefinitionView). Ok d) read.0, subst (λ (d : DefinitionView). sessions_after d 2 no_sessions lines ≡ Ok script.sessions) read.0 read.1)

-- each text has a first line
none_split : (text : List ℕ) → first_and_others text ≡ [] → ⊥
none_split [] is = cc
none_split (byte ∷ text) is = let first = lines_in-first byte text in let none : [] ≡ first_line (byte ∷ text) ∷ first.0 = sym is ∙ first.1 in cc

by_first : (text : List ℕ) → script_of text ≡ script_in (first_and_others text)
by_first [] = refl
by_first (byte ∷ text) = refl

lines_read : (text : List ℕ) (script : ScriptView) (lines : List (List ℕ)) → first_and_others text ≡ lines → script_in lines ≡ Ok script → AreScriptLines (first_and_others text) script
lines_read text script [] split is = absurd (none_split text split)
lines_read text script (first ∷ others) split is =
    let read = by_read (first_definition first) others script is in
    let opens = passed_first (nat_lt MAX_DEFINITION (length first)) (definition_of first) script.definition read.0 in
    let follow : Follow script.definition [] others script.sessions = goes_on script.definition 2 no_sessions others script.sessions read.1 in
    let limit = limits script.definition 2 no_sessions others script.sessions read.1 (omega arith) in
    let within = sessions_within script.definition 2 no_sessions others script.sessions read.1 (none_within (length script.definition.respondents)) in
    record {
      first = first;
      sessions = follow.texts;
      whole = split ∙ ap (λ (xs : List (List ℕ)). first ∷ xs) follow.whole;
      definition = opens.1;
      each = subst (λ (xs : List ScriptSessionView). AllZip (AreSessionLines script.definition) xs follow.texts) (sym follow.same) follow.each;
      first_fits = grind (arith, nat_tests, opens.0);
      others_fit = subst (λ (xs : List (List ℕ)). All Fits xs) follow.whole limit.0;
      few_sessions = within.few;
      few_lines = omega (arith, limit.1, ap (λ (xs : List (List ℕ)). length xs) follow.whole);
    }

lines_make : (text : List ℕ) (script : ScriptView) → AreScriptLines (first_and_others text) script → script_of text ≡ Ok script
lines_make text script are =
    let others : List (List ℕ) = flat_map lines_of_session are.sessions in
    by_first text ∙ ap script_in are.whole
    ∙ ap (λ (r : Result DefinitionView ScriptStop). script_by r others) (passes_first are.first script.definition are.first_fits are.definition)
    ∙ ap (script_with script.definition) (reaches script.definition 2 [] script.sessions are.sessions are.each are.others_fit (omega (arith, are.few_lines)) (omega (arith, are.few_sessions)))

pub scripts_are_lines_lem : ScriptsAreLines
scripts_are_lines_lem text script = (λ is. lines_read text script (first_and_others text) refl (sym (by_first text) ∙ is), lines_make text script)
