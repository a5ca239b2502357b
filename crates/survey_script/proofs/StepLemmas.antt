-- A line, and what a script is by it and by the lines after it.
use Rattle.std.proofs.Common.{◌≡◌, ℕ, ◌+◌, ◌<◌, true, List, [], ◌∷◌, ◌++◌, length, refl, sym, ap, subst, ◌∙◌, arith, append_assoc, length-append}
use Rattle.std.proofs.lemmas.Bool.Decides.{nat_tests}
use Rattle.std.proofs.lemmas.List.Elements.{All-append, All-cons, All-nil}
use Rattle.std.specs.Prelude.{nat_lt, Option, Some, None, IfSome, IfOk, IfErr, MatchResult, Result, Ok, Err}
use Rattle.json_forms.specs.declared.definition_faults.DefinitionFault.TheVariants as fault
use Rattle.json_forms.specs.declared.definition_faults.TheConstants.{MAX_DEFINITION}
use Rattle.json_forms.specs.DefinitionViews.{DefinitionView}
use Rattle.edges.specs.Line.{HasNoLineEnd, unlines}
use Rattle.edges.specs.Told.{IsAtEnd}
use Rattle.edges.proofs.LineLaws.{unlines-push}
use Rattle.result_file.specs.declared.limits.TheConstants.{MAX_LINE}
use Rattle.survey_script.specs.declared.stops.ScriptPart.{ScriptPart}
use Rattle.survey_script.specs.declared.stops.ScriptPart.TheVariants.{Long}
use Rattle.survey_script.specs.declared.stops.ScriptStop.{ScriptStop}
use Rattle.survey_script.specs.declared.stops.ScriptStop.TheVariants.{Definition, Script, ReadFault, NoMemory}
use Rattle.survey_script.specs.ScriptViews.{ScriptSessionView, script_view}
use Rattle.survey_script.specs.Scripts.{IsStopOf, SessionsView, after_line, first_definition, go_on, lines_in, no_sessions, script_by, script_in, script_of, script_with, sessions_after}
use Rattle.survey_script.specs.Steps.{AreOfLines, GoesOnBy, GoesTo, HasLine, IsStopAt, LeavesRest}
use Rattle.survey_script.proofs.TextLemmas.{IsFirstLong, lines_in-lines}

-- the stop of an equal outcome
stop_along : {X : Type 0} (one other : Result X ScriptStop) (stop : ScriptStop) → one ≡ other → IsStopOf other stop → IsStopOf one stop
stop_along {X} one other stop same is = subst (λ (r : Result X ScriptStop). IsStopOf r stop) (sym same) is

-- ---- lines after the definition

-- the line at the front of a text, and the sessions after it
pub goes_on_by : (definition : DefinitionView) (number : ℕ) (old new : SessionsView) (line : List ℕ) → after_line definition number old line ≡ Ok new
    → (more : List (List ℕ)) → sessions_after definition number old (line ∷ more) ≡ sessions_after definition (number + 1) new more
goes_on_by definition number old new line is more =
    ap (λ (r : Result SessionsView ScriptPart). go_on number r (λ next. sessions_after definition (number + 1) next more)) is

-- a stop is the same whatever follows
stop_after : {X : Type 0} (number : ℕ) (read : Result SessionsView ScriptPart) (next : SessionsView → Result X ScriptStop) (stop : ScriptStop)
    → IsStopAt number read stop → IsStopOf (go_on number read next) stop
stop_after number (Ok sessions) next (Definition fault) is = cc
stop_after number (Ok sessions) next (Script line part) is = cc
stop_after number (Ok sessions) next ReadFault is = tt
stop_after number (Ok sessions) next NoMemory is = tt
stop_after number (Err part) next (Definition fault) is = cc
stop_after number (Err part) next (Script line other) is = let same : Script number part ≡ Script line other = cc in ap (λ (s : ScriptStop). Err s) same
stop_after number (Err part) next ReadFault is = tt
stop_after number (Err part) next NoMemory is = tt

-- a line that stops the script
pub stops_by : (definition : DefinitionView) (number : ℕ) (old : SessionsView) (line : List ℕ) (before now : Option (List ℕ)) (stop : ScriptStop)
    → LeavesRest before now (λ text rest. lines_in text ≡ line ∷ lines_in rest) → IsStopAt number (after_line definition number old line) stop
    → IfSome before (λ text. IsStopOf (sessions_after definition number old (lines_in text)) stop)
stops_by definition number old line None now stop given is = tt
stops_by definition number old line (Some text) now stop given is =
    stop_along (sessions_after definition number old (lines_in text)) _ stop (ap (sessions_after definition number old) given.2)
    (stop_after number (after_line definition number old line) (λ next. sessions_after definition (number + 1) next (lines_in given.0)) stop is)

-- a line that is too long
long_at : (definition : DefinitionView) (number : ℕ) (old : SessionsView) (line : List ℕ) (others : List (List ℕ)) → MAX_LINE < length line
    → sessions_after definition number old (line ∷ others) ≡ Err (Script number Long)
long_at definition number old line others long =
    let test : nat_lt MAX_LINE (length line) ≡ true = grind (arith, nat_tests, long) in rw test refl

pub stops_long : (definition : DefinitionView) (number : ℕ) (old : SessionsView) (longest : ℕ) (before : Option (List ℕ)) → longest ≡ MAX_LINE
    → IsFirstLong longest before → IfSome before (λ text. IsStopOf (sessions_after definition number old (lines_in text)) (Script number Long))
stops_long definition number old longest None is long = tt
stops_long definition number old longest (Some text) is long =
    ap (sessions_after definition number old) long.3 ∙ long_at definition number old long.0 long.1 (omega (arith, long.2))

-- ---- the end

-- nothing lies ahead
abbrev pub IsNone : Option (List ℕ) → Option (List ℕ) → Type 0
IsNone before now = LeavesRest before now (λ text rest. (text ≡ []) × (rest ≡ []))

pub stops_at : (definition : DefinitionView) (number : ℕ) (old : SessionsView) (line : List ℕ) (stop : ScriptStop) → IsStopAt number (after_line definition number old line) stop
    → IsStopOf (sessions_after definition number old (line ∷ [])) stop
stops_at definition number old line stop is =
    stop_after number (after_line definition number old line) (λ next. sessions_after definition (number + 1) next []) stop is

-- a text that is one last line
module _ (definition : DefinitionView) (number : ℕ) (old : SessionsView) (line : List ℕ) where
  pub ends_last : (ended : List ScriptSessionView) (before now : Option (List ℕ)) → LeavesRest before now (λ text rest. lines_in text ≡ line ∷ lines_in rest) → IsAtEnd now
      → sessions_after definition number old (line ∷ []) ≡ Ok ended → IfSome before (λ text. sessions_after definition number old (lines_in text) ≡ Ok ended)
  ends_last ended None now given at_end is = tt
  ends_last ended (Some text) now given at_end is =
      let none : given.0 ≡ [] = subst IsAtEnd given.1 at_end in
      ap (sessions_after definition number old) (given.2 ∙ ap (λ (xs : List ℕ). line ∷ lines_in xs) none) ∙ is

  pub stops_last : (stop : ScriptStop) (before now : Option (List ℕ)) → LeavesRest before now (λ text rest. lines_in text ≡ line ∷ lines_in rest) → IsAtEnd now
      → IsStopOf (sessions_after definition number old (line ∷ [])) stop → IfSome before (λ text. IsStopOf (sessions_after definition number old (lines_in text)) stop)
  stops_last stop None now given at_end is = tt
  stops_last stop (Some text) now given at_end is =
      let none : given.0 ≡ [] = subst IsAtEnd given.1 at_end in
      stop_along (sessions_after definition number old (lines_in text)) _ stop (ap (sessions_after definition number old) (given.2 ∙ ap (λ (xs : List ℕ). line ∷ lines_in xs) none)) is

-- ---- from line to line

module _ (definition : DefinitionView) where
  -- what the whole text comes to is what its rest comes to
  module _ (number : ℕ) (old : SessionsView) (text rest : List ℕ) (of : AreOfLines definition number old text rest) where
    along : sessions_after definition 2 no_sessions (lines_in text) ≡ sessions_after definition number old (lines_in rest)
    along = ap (λ (xs : List ℕ). sessions_after definition 2 no_sessions (lines_in xs)) of.whole
        ∙ ap (sessions_after definition 2 no_sessions) (lines_in-lines of.lines rest of.each) ∙ of.same (lines_in rest)

    one_more : (new : SessionsView) (after : List ℕ) → HasLine (λ line. after_line definition number old line ≡ Ok new) rest after
        → AreOfLines definition (number + 1) new text after
    one_more new after has = record {
      lines = of.lines ++ has.line ∷ [];
      each = All-append HasNoLineEnd of.lines (has.line ∷ []) of.each (All-cons HasNoLineEnd has.line [] has.unbroken (All-nil HasNoLineEnd));
      whole = of.whole ∙ ap (λ (xs : List ℕ). unlines of.lines ++ xs) has.whole ∙ sym (unlines-push of.lines has.line after);
      count = omega (arith, of.count, length-append of.lines (has.line ∷ []));
      same = λ more. ap (sessions_after definition 2 no_sessions) (append_assoc of.lines (has.line ∷ []) more) ∙ of.same (has.line ∷ more)
          ∙ goes_on_by definition number old new has.line has.holds more;
    }

  module _ (number : ℕ) (old : SessionsView) where
    pub goes_to_next : (new : SessionsView) (before middle now : Option (List ℕ)) → GoesTo definition number old before middle
        → GoesOnBy definition number old new middle now → GoesTo definition (number + 1) new before now
    goes_to_next new None middle now goes step = tt
    goes_to_next new (Some text) middle now goes step =
        let here = subst (λ (m : Option (List ℕ)). GoesOnBy definition number old new m now) goes.1 step in
        (here.0, here.1, one_more number old text goes.0 goes.2 new here.0 here.2)

    pub goes_to_end : (ended : List ScriptSessionView) (before middle : Option (List ℕ)) → GoesTo definition number old before middle
        → IfSome middle (λ text. sessions_after definition number old (lines_in text) ≡ Ok ended)
        → IfSome before (λ text. sessions_after definition 2 no_sessions (lines_in text) ≡ Ok ended)
    goes_to_end ended None middle goes ends = tt
    goes_to_end ended (Some text) middle goes ends =
        along number old text goes.0 goes.2 ∙ subst (λ (m : Option (List ℕ)). IfSome m (λ text. sessions_after definition number old (lines_in text) ≡ Ok ended)) goes.1 ends

    pub goes_to_stop : (stop : ScriptStop) (before middle : Option (List ℕ)) → GoesTo definition number old before middle
        → IfSome middle (λ text. IsStopOf (sessions_after definition number old (lines_in text)) stop)
        → IfSome before (λ text. IsStopOf (sessions_after definition 2 no_sessions (lines_in text)) stop)
    goes_to_stop stop None middle goes stops = tt
    goes_to_stop stop (Some text) middle goes stops =
        stop_along (sessions_after definition 2 no_sessions (lines_in text)) _ stop (along number old text goes.0 goes.2)
        (subst (λ (m : Option (List ℕ)). IfSome m (λ text. IsStopOf (sessions_after definition number old (lines_in text)) stop)) goes.1 stops)

-- ---- the definition line

-- what the text is by its first line
abbrev pub BeginsBy : List ℕ → Option (List ℕ) → Option (List ℕ) → Type 0
BeginsBy line before now = LeavesRest before now (λ text rest. script_of text ≡ script_by (first_definition line) (lines_in rest))

pub begins_by_line : (line : List ℕ) (before now : Option (List ℕ)) → LeavesRest before now (λ text rest. lines_in text ≡ line ∷ lines_in rest) → BeginsBy line before now
begins_by_line line None now given = tt
begins_by_line line (Some text) now given = (given.0, given.1, ap script_in given.2)

pub begins_by_none : (line : List ℕ) (before now : Option (List ℕ)) → line ≡ [] → IsNone before now → BeginsBy line before now
begins_by_none line None now empty given = tt
begins_by_none line (Some text) now empty given =
    let whole : script_of text ≡ script_by (first_definition []) [] = ap script_of given.2.0 in
    let end : script_by (first_definition []) [] ≡ script_by (first_definition line) (lines_in given.0) =
    ap (λ (xs : List ℕ). script_by (first_definition xs) []) (sym empty) ∙ ap (λ (xs : List ℕ). script_by (first_definition line) (lines_in xs)) (sym given.2.1) in
    (given.0, given.1, whole ∙ end)

pub reads_by : (line : List ℕ) (result : Result DefinitionView ScriptStop) (before now : Option (List ℕ)) → BeginsBy line before now
    → MatchResult result (λ definition. first_definition line ≡ Ok definition) (IsStopOf (first_definition line))
    → IfOk result (λ definition. LeavesRest before now (λ text rest. script_of text ≡ script_by (Ok definition) (lines_in rest)))
reads_by line (Err stop) before now begins is = tt
reads_by line (Ok definition) None now begins is = tt
reads_by line (Ok definition) (Some text) now begins is =
    (begins.0, begins.1, begins.2 ∙ ap (λ (r : Result DefinitionView ScriptStop). script_by r (lines_in begins.0)) is)

stop_of_first : (read : Result DefinitionView ScriptStop) (lines : List (List ℕ)) (stop : ScriptStop) → IsStopOf read stop → IsStopOf (script_by read lines) stop
stop_of_first read lines (Definition fault) is = ap (λ (r : Result DefinitionView ScriptStop). script_by r lines) is
stop_of_first read lines (Script line part) is = ap (λ (r : Result DefinitionView ScriptStop). script_by r lines) is
stop_of_first read lines ReadFault is = tt
stop_of_first read lines NoMemory is = tt

pub refused_by : (line : List ℕ) (result : Result DefinitionView ScriptStop) (before now : Option (List ℕ)) → BeginsBy line before now
    → MatchResult result (λ definition. first_definition line ≡ Ok definition) (IsStopOf (first_definition line))
    → IfErr result (λ stop. IfSome before (λ text. IsStopOf (script_of text) stop))
refused_by line (Ok definition) before now begins is = tt
refused_by line (Err stop) None now begins is = tt
refused_by line (Err stop) (Some text) now begins is =
    stop_along (script_of text) _ stop begins.2 (stop_of_first (first_definition line) (lines_in begins.0) stop is)

long_definition : (line : List ℕ) (others : List (List ℕ)) → MAX_DEFINITION < length line → script_in (line ∷ others) ≡ Err (Definition fault.Long)
long_definition line others long =
    let test : nat_lt MAX_DEFINITION (length line) ≡ true = grind (arith, nat_tests, long) in rw test refl

pub refused_long : (longest : ℕ) (before : Option (List ℕ)) → longest ≡ MAX_DEFINITION → IsFirstLong longest before
    → IfSome before (λ text. IsStopOf (script_of text) (Definition fault.Long))
refused_long longest None is long = tt
refused_long longest (Some text) is long = ap script_in long.3 ∙ long_definition long.0 long.1 (omega (arith, long.2))

-- ---- whole scripts

stop_of_sessions : (definition : DefinitionView) (read : Result (List ScriptSessionView) ScriptStop) (stop : ScriptStop) → IsStopOf read stop → IsStopOf (script_with definition read) stop
stop_of_sessions definition read (Definition fault) is = ap (script_with definition) is
stop_of_sessions definition read (Script line part) is = ap (script_with definition) is
stop_of_sessions definition read ReadFault is = tt
stop_of_sessions definition read NoMemory is = tt

-- what is said of an outcome of a text
abbrev pub IsOutcome : {X : Type 0} → Result X ScriptStop → Result X ScriptStop → Type 0
IsOutcome read result = MatchResult result (λ x. read ≡ Ok x) (IsStopOf read)

-- the script that the sessions come to
pub script_read : (definition : DefinitionView) (sessions : List ScriptSessionView) (now : Option (List ℕ))
    → IfSome now (λ text. sessions_after definition 2 no_sessions (lines_in text) ≡ Ok sessions)
    → IfSome now (λ text. script_by (Ok definition) (lines_in text) ≡ Ok (script_view definition sessions))
script_read definition sessions None read = tt
script_read definition sessions (Some text) read = ap (script_with definition) read

pub script_stopped : (definition : DefinitionView) (stop : ScriptStop) (now : Option (List ℕ))
    → IfSome now (λ text. IsStopOf (sessions_after definition 2 no_sessions (lines_in text)) stop)
    → IfSome now (λ text. IsStopOf (script_by (Ok definition) (lines_in text)) stop)
script_stopped definition stop None stops = tt
script_stopped definition stop (Some text) stops = stop_of_sessions definition (sessions_after definition 2 no_sessions (lines_in text)) stop stops
