-- Where the source fails: none of the lines that were taken fails.
use Rattle.std.proofs.Common.{◌≡◌, ◌⊎◌, inl, inr, ℕ, ◌+◌, ◌≤◌, true, false, Bool, List, [], ◌∷◌, ◌++◌, length, refl, sym, ap, subst, ◌∙◌, arith, append_assoc, if◌then◌else◌}
use Rattle.std.specs.Prelude.{nat_lt, All, Option, Some, None, IfOk, MatchResult, Result, Ok, Err}
use Rattle.std.proofs.lemmas.List.{append-nil}
use Rattle.std.proofs.lemmas.List.Elements.{All-cons, All-nil}
use Rattle.edges.specs.Line.{HasNoLineEnd, line_end, unlines}
use Rattle.edges.specs.Lines.{GivesLine, LinesView}
use Rattle.json_forms.specs.declared.definition_faults.DefinitionFault.{DefinitionFault}
use Rattle.json_forms.specs.declared.definition_faults.DefinitionFault.TheVariants as fault
use Rattle.json_forms.specs.declared.definition_faults.TheConstants.{MAX_DEFINITION}
use Rattle.json_forms.specs.DefinitionViews.{DefinitionView}
use Rattle.json_forms.specs.Definitions.{definition_of}
use Rattle.survey_script.specs.declared.stops.ScriptPart.{ScriptPart}
use Rattle.survey_script.specs.declared.stops.ScriptStop.{ScriptStop}
use Rattle.survey_script.specs.declared.stops.ScriptStop.TheVariants.{Definition, Script, ReadFault, NoMemory}
use Rattle.survey_script.specs.ScriptViews.{ScriptSessionView, ScriptView}
use Rattle.survey_script.specs.Scripts.{IsCutAfter, IsStopOf, NoneFails, NoneFailsBeforeCut, SessionsView, after_line, defined, ended_at, first_definition, go_on, lines_in, no_sessions, script_by, script_in, script_of, script_with, sessions_after}
use Rattle.survey_script.specs.Steps.{GoesTo, HasLine, HasPiece, IsDefinedBy, LeavesRest, NoneFailsUnder}
use Rattle.survey_script.proofs.TextLemmas.{Ends, line_told, lines_in-lines}

-- ---- the numbers of lines that fail

-- what fails, if anything, is a line after the definition's, of this number or a later one
abbrev pub IsFrom : {X : Type 0} → ℕ → Result X ScriptStop → Type 0
IsFrom number (Ok x) = Unit {0}
IsFrom number (Err (Definition fault)) = ⊥
IsFrom number (Err (Script line part)) = number ≤ line
IsFrom number (Err ReadFault) = Unit {0}
IsFrom number (Err NoMemory) = Unit {0}

from_next : {X : Type 0} (number : ℕ) (read : Result X ScriptStop) → IsFrom (number + 1) read → IsFrom number read
from_next number (Ok x) from = tt
from_next number (Err (Definition fault)) from = from
from_next number (Err (Script line part)) from = omega (arith, from)
from_next number (Err ReadFault) from = tt
from_next number (Err NoMemory) from = tt

ended_from : (number : ℕ) (ended : List ScriptSessionView) (running : Option ScriptSessionView) → IsFrom number (ended_at number ended running)
ended_from number ended None = tt
ended_from number ended (Some session) = omega arith

go_on_from : {X : Type 0} (number : ℕ) (read : Result SessionsView ScriptPart) (next : SessionsView → Result X ScriptStop)
    → ((sessions : SessionsView) → IsFrom (number + 1) (next sessions)) → IsFrom number (go_on number read next)
go_on_from number (Ok sessions) next from = from_next number (next sessions) (from sessions)
go_on_from number (Err part) next from = omega arith

pub sessions_from : (definition : DefinitionView) (number : ℕ) (sessions : SessionsView) (lines : List (List ℕ)) → IsFrom number (sessions_after definition number sessions lines)
sessions_from definition number sessions [] = ended_from number sessions.ended sessions.running
sessions_from definition number sessions (line ∷ lines) =
    go_on_from number (after_line definition number sessions line) (λ next. sessions_after definition (number + 1) next lines)
    (λ next. sessions_from definition (number + 1) next lines)

script_from : (definition : DefinitionView) (read : Result (List ScriptSessionView) ScriptStop) → IsFrom 2 read → IsFrom 2 (script_with definition read)
script_from definition (Ok sessions) from = tt
script_from definition (Err (Definition fault)) from = from
script_from definition (Err (Script line part)) from = from
script_from definition (Err ReadFault) from = tt
script_from definition (Err NoMemory) from = tt

under_from : (definition : DefinitionView) (lines : List (List ℕ)) → IsFrom 2 (script_by (Ok definition) lines)
under_from definition lines = script_from definition (sessions_after definition 2 no_sessions lines) (sessions_from definition 2 no_sessions lines)

-- a definition, or its fault
abbrev pub IsDefinition : Result DefinitionView ScriptStop → Type 0
IsDefinition read = ((definition : DefinitionView) × (read ≡ Ok definition)) ⊎ ((fault : DefinitionFault) × (read ≡ Err (Definition fault)))

defined_is : (read : Result DefinitionView DefinitionFault) → IsDefinition (defined read)
defined_is (Ok definition) = inl (definition, refl)
defined_is (Err fault) = inr (fault, refl)

pub first_by : (long : Bool) (line : List ℕ) → IsDefinition (if long then Err (Definition fault.Long) else defined (definition_of line))
first_by true line = inr (fault.Long, refl)
first_by false line = defined_is (definition_of line)

-- a line that fails after the definition's is no earlier than the second
by_first : (first : Result DefinitionView ScriptStop) (lines : List (List ℕ)) (number : ℕ) (part : ScriptPart) → IsDefinition first
    → script_by first lines ≡ Err (Script number part) → 2 ≤ number
by_first first lines number part (inl here) is =
    let same : script_by (Ok here.0) lines ≡ Err (Script number part) = ap (λ (r : Result DefinitionView ScriptStop). script_by r lines) (sym here.1) ∙ is in
    subst (λ (r : Result ScriptView ScriptStop). IsFrom 2 r) same (under_from here.0 lines)
by_first first lines number part (inr here) is =
    let same : script_by (Err (Definition here.0)) lines ≡ Err (Script number part) =
    ap (λ (r : Result DefinitionView ScriptStop). script_by r lines) (sym here.1) ∙ is in cc

number_in : (lines : List (List ℕ)) (number : ℕ) (part : ScriptPart) → script_in lines ≡ Err (Script number part) → 2 ≤ number
number_in [] number part is = by_first (first_definition []) [] number part (first_by (nat_lt MAX_DEFINITION 0) []) is
number_in (line ∷ lines) number part is = by_first (first_definition line) lines number part (first_by (nat_lt MAX_DEFINITION (length line)) line) is

-- ---- the definition's line

pub defined_by_line : (new : LinesView) (result : Result DefinitionView ScriptStop) (before now : Option (List ℕ)) → GivesLine new before now
    → MatchResult result (λ definition. first_definition new.line ≡ Ok definition) (IsStopOf (first_definition new.line))
    → IfOk result (λ definition. LeavesRest before now (IsDefinedBy definition))
defined_by_line new (Err stop) before now gives is = tt
defined_by_line new (Ok definition) None now gives is = tt
defined_by_line new (Ok definition) (Some text) now gives is =
    let told = line_told (λ line. first_definition line ≡ Ok definition) new (Some text) now gives is in
    (told.0, told.1, inl told.2)

pub defined_by_end : (result : Result DefinitionView ScriptStop) (before now : Option (List ℕ)) → Ends before now
    → IfOk result (λ definition. LeavesRest before now (IsDefinedBy definition))
defined_by_end (Err stop) before now ends = tt
defined_by_end (Ok definition) None now ends = tt
defined_by_end (Ok definition) (Some text) now ends = (ends.0, ends.1, inr ends.2)

-- ---- a whole script

-- of no lines none fails
pub no_line_fails : NoneFails []
no_line_fails = record {
  definition = λ rest fault is. refl;
  later = λ rest number part is. omega (arith, number_in (lines_in rest) number part is);
}

pub fails_at_piece : (told left : Option (List ℕ)) → LeavesRest told left HasPiece → NoneFailsBeforeCut told left
fails_at_piece None left has = tt
fails_at_piece (Some text) left has =
    let here = has.2 in
    (has.0, has.1, record { lines = []; each = All-nil HasNoLineEnd; piece = here.piece; unbroken = here.unbroken; taken = here.whole; holds = no_line_fails })

pub stop_with : (definition : DefinitionView) (read : Result (List ScriptSessionView) ScriptStop) (stop : ScriptStop) → script_with definition read ≡ Err stop → read ≡ Err stop
stop_with definition (Ok sessions) stop is = cc
stop_with definition (Err other) stop is = let same : other ≡ stop = cc in ap (λ (s : ScriptStop). Err s) same

-- after the definition's line
module _ (definition : DefinitionView) (text middle left : List ℕ) (cut : IsCutAfter (NoneFailsUnder definition) middle left) where
  module _ (has : HasLine (λ line. first_definition line ≡ Ok definition) text middle) where
    abbrev pub whole_lines : List (List ℕ)
    whole_lines = has.line ∷ cut.lines

    each_whole : All HasNoLineEnd whole_lines
    each_whole = All-cons HasNoLineEnd has.line cut.lines has.unbroken cut.each

    opened : (rest : List ℕ) → script_of (unlines whole_lines ++ rest) ≡ script_by (Ok definition) (cut.lines ++ lines_in rest)
    opened rest = ap script_in (lines_in-lines whole_lines rest each_whole) ∙ ap (λ (r : Result DefinitionView ScriptStop). script_by r (cut.lines ++ lines_in rest)) has.holds

    pub none_fails_whole : NoneFails whole_lines
    none_fails_whole = record {
      definition = λ rest fault is. absurd (subst (λ (r : Result ScriptView ScriptStop). IsFrom 2 r) (sym (opened rest) ∙ is) (under_from definition (cut.lines ++ lines_in rest)));
      later = λ rest number part is.
          let stops = stop_with definition (sessions_after definition 2 no_sessions (cut.lines ++ lines_in rest)) (Script number part) (sym (opened rest) ∙ is) in
          omega (arith, cut.holds (lines_in rest) number part stops);
    }

    cut_after_line : IsCutAfter NoneFails text left
    cut_after_line = record {
      lines = whole_lines;
      each = each_whole;
      piece = cut.piece;
      unbroken = cut.unbroken;
      taken = has.whole ∙ ap (λ (xs : List ℕ). has.line ++ line_end ∷ xs) cut.taken
          ∙ sym (append_assoc has.line (line_end ∷ (unlines cut.lines ++ cut.piece)) left)
          ∙ ap (λ (xs : List ℕ). xs ++ left) (sym (append_assoc has.line (line_end ∷ unlines cut.lines) cut.piece));
      holds = none_fails_whole;
    }

  back_is_none : (front back : List ℕ) → front ++ back ≡ [] → back ≡ []
  back_is_none [] back is = is
  back_is_none (byte ∷ front) back is = cc

  cut_by : IsDefinedBy definition text middle → IsCutAfter NoneFails text left
  cut_by (inl has) = cut_after_line has
  cut_by (inr ends) =
      let none : left ≡ [] = back_is_none (unlines cut.lines ++ cut.piece) left (sym cut.taken ∙ ends.1) in
      record {
        lines = [];
        each = All-nil HasNoLineEnd;
        piece = text;
        unbroken = ends.0;
        taken = sym (append-nil text) ∙ ap (λ (xs : List ℕ). text ++ xs) (sym none);
        holds = no_line_fails;
      }

pub fails_under : (definition : DefinitionView) (told middle left : Option (List ℕ)) → LeavesRest told middle (IsDefinedBy definition)
    → LeavesRest middle left (IsCutAfter (NoneFailsUnder definition)) → NoneFailsBeforeCut told left
fails_under definition None middle left opens cut = tt
fails_under definition (Some text) middle left opens cut =
    let here = subst (λ (m : Option (List ℕ)). LeavesRest m left (IsCutAfter (NoneFailsUnder definition))) opens.1 cut in
    (here.0, here.1, cut_by definition text opens.0 here.0 here.2 opens.2)

-- ---- the lines after the definition's

pub cut_at_piece : (definition : DefinitionView) (number : ℕ) (old : SessionsView) (stop : ScriptStop) (before middle left : Option (List ℕ))
    → GoesTo definition number old before middle → (stop ≡ ReadFault → LeavesRest middle left HasPiece)
    → stop ≡ ReadFault → LeavesRest before left (IsCutAfter (NoneFailsUnder definition))
cut_at_piece definition number old stop None middle left goes has failed = tt
cut_at_piece definition number old stop (Some text) middle left goes has failed =
    let here = subst (λ (m : Option (List ℕ)). LeavesRest m left HasPiece) goes.1 (has failed) in
    let of = goes.2 in
    let piece = here.2 in (
      here.0,
      here.1,
      record {
        lines = of.lines;
        each = of.each;
        piece = piece.piece;
        unbroken = piece.unbroken;
        taken = of.whole ∙ ap (λ (xs : List ℕ). unlines of.lines ++ xs) piece.whole ∙ sym (append_assoc (unlines of.lines) piece.piece here.0);
        holds = λ more line part is.
            let from : number ≤ line = subst (λ (r : Result (List ScriptSessionView) ScriptStop). IsFrom number r) (sym (of.same more) ∙ is) (sessions_from definition number old more) in
            omega (arith, from, of.count);
      },
    )
