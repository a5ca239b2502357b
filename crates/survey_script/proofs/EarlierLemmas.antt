-- The lines before the one that fails.
use Rattle.std.proofs.Common.{◌≡◌, inl, inr, ℕ, ◌+◌, ◌<◌, ◌≤◌, List, [], ◌∷◌, ◌++◌, length, refl, sym, ap, subst, ◌∙◌, arith}
use Rattle.std.proofs.lemmas.List.{append-nil}
use Rattle.std.proofs.lemmas.List.Elements.{All-head, All-nil, All-tail}
use Rattle.std.specs.Prelude.{◌≢◌, nat_lt, All, Result, Ok, Err}
use Rattle.edges.specs.Line.{HasNoLineEnd, line_end, unlines}
use Rattle.json_forms.specs.declared.definition_faults.TheConstants.{MAX_DEFINITION}
use Rattle.json_forms.specs.DefinitionViews.{DefinitionView}
use Rattle.survey_script.specs.declared.stops.ScriptPart.{ScriptPart}
use Rattle.survey_script.specs.declared.stops.ScriptStop.{ScriptStop}
use Rattle.survey_script.specs.declared.stops.ScriptStop.TheVariants.{Definition, Script}
use Rattle.survey_script.specs.Laws.{EarlierLinesPass}
use Rattle.survey_script.specs.ScriptViews.{ScriptSessionView}
use Rattle.survey_script.specs.Scripts.{IsCutAfter, NoneFails, SessionsView, after_line, first_definition, go_on, lines_in, no_sessions, script_by, script_in, script_of, sessions_after}
use Rattle.survey_script.specs.Steps.{HasLine, NoneFailsUnder}
use Rattle.survey_script.proofs.FaultLemmas.{IsDefinition, IsFrom, first_by, no_line_fails, none_fails_whole, sessions_from, stop_with}
use Rattle.survey_script.proofs.TextLemmas.{lines_in-lines}

-- a line before the one that fails
by_line : {X : Type 0} (number at later count : ℕ) (part other : ScriptPart) (read : Result SessionsView ScriptPart) (next after : SessionsView → Result X ScriptStop)
    → ((sessions : SessionsView) → next sessions ≡ Err (Script at part) → after sessions ≡ Err (Script later other) → count ≤ later)
    → number < at → go_on number read next ≡ Err (Script at part) → go_on number read after ≡ Err (Script later other) → count ≤ later
by_line number at later count part other (Ok sessions) next after rest short is fails = rest sessions is fails
by_line number at later count part other (Err here) next after rest short is fails = let same : number ≡ at = cc in absurd (omega (arith, short, same))

-- lines before the one that fails
is_later : (definition : DefinitionView) (number at later : ℕ) (part other : ScriptPart) (old : SessionsView) (front more others : List (List ℕ))
    → sessions_after definition number old (front ++ more) ≡ Err (Script at part) → number + length front ≤ at
    → sessions_after definition number old (front ++ others) ≡ Err (Script later other) → number + length front ≤ later
is_later definition number at later part other old [] more others is short fails =
    let from : number ≤ later = subst (λ (r : Result (List ScriptSessionView) ScriptStop). IsFrom number r) fails (sessions_from definition number old others) in
    omega (arith, from)
is_later definition number at later part other old (line ∷ front) more others is short fails =
    by_line number at later (number + length (line ∷ front)) part other (after_line definition number old line)
    (λ next. sessions_after definition (number + 1) next (front ++ more)) (λ next. sessions_after definition (number + 1) next (front ++ others))
    (λ next is_next fails_next.
    let rest = is_later definition (number + 1) at later part other next front more others is_next (omega (arith, short)) fails_next in omega (arith, rest))
    (omega (arith, short)) is fails

-- the definition's line, and lines after it
module _ (first : List ℕ) (front : List (List ℕ)) (rest : List ℕ) (unbroken : All HasNoLineEnd (first ∷ front)) (number : ℕ) (part : ScriptPart) (short : length (first ∷ front) < number) where
  under : (definition : DefinitionView) → first_definition first ≡ Ok definition → sessions_after definition 2 no_sessions (front ++ lines_in rest) ≡ Err (Script number part)
      → NoneFails (first ∷ front)
  under definition opens is =
      let middle : List ℕ = unlines front ++ rest in
      let cut : IsCutAfter (NoneFailsUnder definition) middle rest = record {
        lines = front;
        each = All-tail HasNoLineEnd first front unbroken;
        piece = [];
        unbroken = All-nil (λ byte. byte ≢ line_end);
        taken = ap (λ (xs : List ℕ). xs ++ rest) (sym (append-nil (unlines front)));
        holds = λ others later other fails.
            let from = is_later definition 2 number later part other no_sessions front (lines_in rest) others is (omega (arith, short)) fails in omega (arith, from);
      } in
      let has : HasLine (λ line. first_definition line ≡ Ok definition) (first ++ line_end ∷ middle) middle = record {
        line = first;
        unbroken = All-head HasNoLineEnd first front unbroken;
        whole = refl;
        holds = opens;
      } in none_fails_whole definition (first ++ line_end ∷ middle) middle rest cut has

  by_first : (read : Result DefinitionView ScriptStop) → first_definition first ≡ read → IsDefinition read → script_by read (front ++ lines_in rest) ≡ Err (Script number part)
      → NoneFails (first ∷ front)
  by_first read at (inl here) is =
      let opened : script_by (Ok here.0) (front ++ lines_in rest) ≡ Err (Script number part) = ap (λ (r : Result DefinitionView ScriptStop). script_by r (front ++ lines_in rest)) (sym here.1) ∙ is in
      under here.0 (at ∙ here.1) (stop_with here.0 (sessions_after here.0 2 no_sessions (front ++ lines_in rest)) (Script number part) opened)
  by_first read at (inr here) is =
      let stopped : script_by (Err (Definition here.0)) (front ++ lines_in rest) ≡ Err (Script number part) =
      ap (λ (r : Result DefinitionView ScriptStop). script_by r (front ++ lines_in rest)) (sym here.1) ∙ is in cc

pub earlier_lines_pass_lem : EarlierLinesPass
earlier_lines_pass_lem text number part [] rest is splits short = no_line_fails
earlier_lines_pass_lem text number part (first ∷ front) rest is splits short =
    let whole : script_in ((first ∷ front) ++ lines_in rest) ≡ Err (Script number part) =
    ap script_in (sym (lines_in-lines (first ∷ front) rest splits.unbroken)) ∙ ap script_of (sym splits.whole) ∙ is in
    by_first first front rest splits.unbroken number part short (first_definition first) refl (first_by (nat_lt MAX_DEFINITION (length first)) first) whole
