-- A connection without fault is served up to its bye.
use Rattle.std.proofs.Common.{◌≡◌, ℕ, ◌+◌, List, [], ◌∷◌, ◌++◌, length, All, Option, Some, None, refl, ap, sym, subst, ◌∙◌, inl, inr, arith, append_assoc, append-nil, length-append}
use Rattle.std.specs.Prelude.{Err}
use Rattle.std.specs.Io.KnownBytes.{prepend_known}
use Rattle.std.proofs.lemmas.List.{take-append-le}
use Rattle.std.proofs.lemmas.Option.{none-some, same_Some}
use Rattle.edges.specs.Faults.{CountsFaults, HasRisen}
use Rattle.edges.specs.Line.{HasLineEnd, HasNoLineEnd, first_line, line_end, unlines}
use Rattle.edges.specs.Lines.{LinesView, ahead, new_lines}
use Rattle.edges.specs.Told.{IsAtEnd, Takes}
use Rattle.edges.proofs.LineLaws.{HasLineEnd-line, HasNoLineEnd-not, first_line-line, first_line-long}
use Rattle.edges.proofs.SplitLaws.{line_once}
use Rattle.edges.proofs.ToldLemmas.{prepend_known-nil}
use Rattle.json_forms.specs.declared.replies.Word.{Word}
use Rattle.json_forms.specs.DefinitionViews.{DefinitionView}
use Rattle.result_file.specs.declared.limits.TheConstants.{MAX_LINE}
use Rattle.session_protocol.specs.declared.sessions.CountedEnd.{CountedEnd}
use Rattle.session_protocol.specs.declared.sessions.SessionEnd.{SessionEnd}
use Rattle.session_protocol.specs.declared.sessions.SessionEnd.TheVariants.{Bye, EndOfInput, LineTooLong, Messages, ReadFault, WriteFault, NoMemory}
use Rattle.session_protocol.specs.declared.sessions.TheConstants.{MAX_MESSAGES}
use Rattle.session_protocol.specs.Laws.{IsReadTo, LeavesText}
use Rattle.session_protocol.specs.Sessions.{EndsAfter, IsLine, IsOverlong, IsSession, SessionView, exchange_lines}
use Rattle.session_protocol.proofs.OneSession.{one_session_lem}
use Rattle.pair_enumeration.specs.Listed.{Listed}
use Rattle.shared_survey.specs.declared.pass.Front.{Front}
use Rattle.survey_hall.specs.declared.served.Served.{Served}
use Rattle.survey_hall.specs.declared.served.Served.TheVariants.{Refused, Early, Ran}
use Rattle.survey_hall.specs.Admissions.{admission_by_line}
use Rattle.survey_hall.specs.ConnectionViews.{connection_view}
use Rattle.survey_hall.specs.Greetings.{GreetsWith}
use Rattle.survey_hall.specs.Connections.{EndsEarly, IsServed, IsServedToBye, IsVisited, IsWholeConnection, ServedBy, end_of_connection}

-- ---- what is taken of a known text
known_after : (taken text : List ℕ) (after : Option (List ℕ)) → Takes (Some text) after taken
    → (rest : List ℕ) × (after ≡ Some rest) × (text ≡ taken ++ rest)
known_after taken text None takes = absurd (none-some text (sym takes))
known_after taken text (Some rest) takes = (rest, refl, same_Some text (taken ++ rest) takes)

-- bytes that are more than a line has, and others after them
overlong_more : (kept more : List ℕ) → IsOverlong kept → IsOverlong (kept ++ more)
overlong_more kept more long = (
  omega (arith, long.0, length-append kept more),
  subst (λ (l : List ℕ). HasNoLineEnd l) (sym (take-append-le (MAX_LINE + 1) kept more (omega (arith, long.0)))) long.1,
)

module _ (hello : List ℕ) (is : IsLine hello) (later : List ℕ) where
  abbrev text : List ℕ
  text = hello ++ line_end ∷ later

  -- a whole line at its front is the hello
  is_hello : (line : List ℕ) (after : Option (List ℕ)) → IsLine line → Takes (Some text) after (line ++ line_end ∷ [])
      → (line ≡ hello) × (after ≡ Some later)
  is_hello line after line_is takes =
      let known = known_after (line ++ line_end ∷ []) text after takes in
      let same : line ++ line_end ∷ known.0 ≡ hello ++ line_end ∷ later = sym (known.2 ∙ append_assoc line (line_end ∷ []) known.0) in
      let both = line_once line hello known.0 later line_is.1 is.1 same in
      (both.0, known.1 ∙ ap (λ (l : List ℕ). Some l) both.1)

  -- it doesn't end before a line end
  no_piece : (piece : List ℕ) (after : Option (List ℕ)) → IsAtEnd after → IsLine piece → Takes (Some text) after piece → ⊥
  no_piece piece None ended piece_is takes = none-some text (sym takes)
  no_piece piece (Some rest) ended piece_is takes =
      let known = known_after piece text (Some rest) takes in
      let whole : hello ++ line_end ∷ later ≡ piece =
      same_Some text (piece ++ rest) takes ∙ ap (λ (l : List ℕ). piece ++ l) ended ∙ append-nil piece in
      HasNoLineEnd-not piece piece_is.1 (subst (λ (l : List ℕ). HasLineEnd l) whole (HasLineEnd-line hello later))

  -- its first line isn't too long
  not_long : (kept : List ℕ) (left : Option (List ℕ)) → IsOverlong kept → prepend_known kept left ≡ Some text → ⊥
  not_long kept None long same = none-some text same
  not_long kept (Some rest) long same =
      let whole : kept ++ rest ≡ hello ++ line_end ∷ later = same_Some (kept ++ rest) text same in
      omega (
        arith,
        is.0,
        first_line-long kept rest MAX_LINE long.0 long.1,
        ap (λ (l : List ℕ). length (first_line l)) whole,
        ap (λ (l : List ℕ). length l) (first_line-line hello later is.1),
      )

-- by lines of which none was taken before
pub service_of : (definition : DefinitionView) (fresh lines : LinesView) (left written left_then written_then : Option (List ℕ)) (served : Served)
    → fresh ≡ new_lines MAX_LINE
    → ServedBy definition lines.kept (connection_view (ahead fresh left) written) (connection_view (ahead lines left_then) written_then) served
    → (end_of_connection served ≡ Some EndOfInput → IsAtEnd (ahead lines left_then)) → (end_of_connection served ≡ Some LineTooLong → IsOverlong lines.kept)
    → IsServed definition (connection_view left written) (connection_view left_then written_then) served
service_of definition fresh lines left written left_then written_then served new by at_end too_long = record {
  kept = lines.kept;
  by = subst (λ (told : Option (List ℕ)). ServedBy definition lines.kept (connection_view told written) (connection_view (ahead lines left_then) written_then) served)
      (ap (λ (l : LinesView). ahead l left) new ∙ prepend_known-nil left) by;
  at_end = at_end;
  too_long = too_long;
}

-- there was no memory to begin
pub not_begun : (definition : DefinitionView) (left written : Option (List ℕ))
    → IsServed definition (connection_view left written) (connection_view left written) (Early NoMemory)
not_begun definition left written = record {
  kept = [];
  by = (inl (refl, prepend_known-nil left), refl);
  at_end = λ same. absurd (let e : Some NoMemory ≡ Some EndOfInput = same in cc);
  too_long = λ same. absurd (let e : Some NoMemory ≡ Some LineTooLong = same in cc);
}

-- ---- the session after it
-- an end that is neither a fault nor out of memory leaves of the text what it says
leaves_text : (end : SessionEnd) (kept : List ℕ) (left : Option (List ℕ)) (rest : List ℕ) → prepend_known kept left ≡ Some rest
    → (end ≡ EndOfInput → IsAtEnd (prepend_known kept left)) → (end ≡ LineTooLong → IsOverlong kept)
    → (end ≡ ReadFault → ⊥) → (end ≡ WriteFault → ⊥) → (end ≡ NoMemory → ⊥) → LeavesText end rest
leaves_text Bye kept left rest same at_end too_long no_read no_write no_memory = tt
leaves_text EndOfInput kept left rest same at_end too_long no_read no_write no_memory =
    subst (λ (told : Option (List ℕ)). IsAtEnd told) same (at_end refl)
leaves_text LineTooLong kept None rest same at_end too_long no_read no_write no_memory = absurd (none-some rest same)
leaves_text LineTooLong kept (Some more) rest same at_end too_long no_read no_write no_memory =
    subst (λ (l : List ℕ). IsOverlong l) (same_Some (kept ++ more) rest same) (overlong_more kept more (too_long refl))
leaves_text Messages kept left rest same at_end too_long no_read no_write no_memory = tt
leaves_text ReadFault kept left rest same at_end too_long no_read no_write no_memory = absurd (no_read refl)
leaves_text WriteFault kept left rest same at_end too_long no_read no_write no_memory = absurd (no_write refl)
leaves_text NoMemory kept left rest same at_end too_long no_read no_write no_memory = absurd (no_memory refl)

-- the same session reads the text to its bye
reads_to_bye : (listed : Listed) (desk : ℕ) (before after : SessionView) (end : SessionEnd) (kept : List ℕ) (left : Option (List ℕ))
    (lines : List (List ℕ)) (rest : List ℕ) → IsSession listed desk before after MAX_MESSAGES end
    → before.ahead ≡ Some (unlines lines ++ rest) → after.ahead ≡ prepend_known kept left
    → (end ≡ EndOfInput → IsAtEnd (prepend_known kept left)) → (end ≡ LineTooLong → IsOverlong kept)
    → (end ≡ ReadFault → ⊥) → (end ≡ WriteFault → ⊥) → (end ≡ NoMemory → ⊥)
    → All IsLine lines → EndsAfter MAX_MESSAGES Bye lines → end ≡ Bye
reads_to_bye listed desk before after end kept left lines rest session told now at_end too_long no_read no_write no_memory each ends =
    let read : Takes (Some (unlines lines ++ rest)) after.ahead (unlines (exchange_lines session.exchanges) ++ session.taken) = sym told ∙ session.read in
    let known = known_after (unlines (exchange_lines session.exchanges) ++ session.taken) (unlines lines ++ rest) after.ahead read in
    let one : IsReadTo (unlines lines ++ rest) MAX_MESSAGES end (exchange_lines session.exchanges) = record {
      each = session.lines;
      taken = session.taken;
      takes = session.takes;
      rest = known.0;
      whole = known.2;
      leaves = leaves_text end kept left known.0 (sym now ∙ known.1) at_end too_long no_read no_write no_memory;
      ends = session.ends;
    } in
    let other : IsReadTo (unlines lines ++ rest) MAX_MESSAGES Bye lines = record {
      each = each;
      taken = [];
      takes = refl;
      rest = rest;
      whole = ap (λ (l : List ℕ). l ++ rest) (sym (append-nil (unlines lines)));
      leaves = tt;
      ends = ends;
    } in
    (one_session_lem (unlines lines ++ rest) MAX_MESSAGES end Bye (exchange_lines session.exchanges) lines one other).0

-- ---- the whole connection
module _ (definition : DefinitionView) (left written left_then written_then : Option (List ℕ)) (whole : IsWholeConnection definition left) where
  abbrev later : List ℕ
  later = unlines whole.lines ++ whole.rest

  told : left ≡ Some (whole.hello ++ line_end ∷ later)
  told = whole.told ∙ ap (λ (l : List ℕ). Some l) (append_assoc whole.hello (line_end ∷ unlines whole.lines) whole.rest)

  not_refused : (word : Word) (after : Option (List ℕ)) → GreetsWith definition left after (Err word) → ⊥
  not_refused word after greets =
      let takes : Takes (Some (whole.hello ++ line_end ∷ later)) after (greets.line ++ line_end ∷ []) = sym told ∙ greets.read in
      let same = is_hello whole.hello whole.is_line later greets.line after greets.is_line takes in
      let tested : admission_by_line definition whole.hello ≡ Err word = subst (λ (l : List ℕ). admission_by_line definition l ≡ Err word) same.0 greets.tested in
      cc (sym whole.passes ∙ tested)

  -- it ends early only where there was no memory
  early : (kept : List ℕ) (end : SessionEnd)
      → EndsEarly definition kept (connection_view left written) (connection_view (prepend_known kept left_then) written_then) end
      → (end ≡ ReadFault → ⊥) → (end ≡ WriteFault → ⊥) → IsServedToBye (Early end)
  early kept Bye ends no_read no_write = absurd ends.0
  early kept EndOfInput ends no_read no_write =
      absurd (no_piece whole.hello whole.is_line later ends.0.1.0 (prepend_known kept left_then) ends.0.0 ends.0.1.1 (sym told ∙ ends.0.1.2))
  early kept LineTooLong ends no_read no_write =
      absurd (not_long whole.hello whole.is_line later kept left_then ends.0.0 (ends.0.1 ∙ told))
  early kept Messages ends no_read no_write = absurd ends.0
  early kept ReadFault ends no_read no_write = absurd (no_read refl)
  early kept WriteFault ends no_read no_write = absurd (no_write refl)
  early kept NoMemory ends no_read no_write = tt

  -- its session comes to the bye, unless a fault came or there was no memory
  comes_to_bye : (kept : List ℕ) (began : ℕ) (front : Front) (replies : ℕ) (end : SessionEnd)
      → IsVisited definition (connection_view left written) (connection_view (prepend_known kept left_then) written_then) began front replies end
      → (end ≡ EndOfInput → IsAtEnd (prepend_known kept left_then)) → (end ≡ LineTooLong → IsOverlong kept)
      → (end ≡ ReadFault → ⊥) → (end ≡ WriteFault → ⊥) → (end ≡ NoMemory → ⊥) → end ≡ Bye
  comes_to_bye kept began front replies end visit at_end too_long no_read no_write no_memory =
      let greets = visit.greets in
      let takes : Takes (Some (whole.hello ++ line_end ∷ later)) visit.ahead (greets.line ++ line_end ∷ []) = sym told ∙ greets.read in
      let same = is_hello whole.hello whole.is_line later greets.line visit.ahead greets.is_line takes in
      elim visit.run.run [
        | inl welcomed ↦ reads_to_bye visit.run.listed visit.admitted.desk _ _ end kept left_then whole.lines whole.rest welcomed.session.session
            same.1 refl at_end too_long no_read no_write no_memory whole.each whole.ends
        | inr cut ↦ absurd (no_write (ap (λ (c : CountedEnd). c.end) cut.none))
      ]

  ran : (kept : List ℕ) (began : ℕ) (front : Front) (replies : ℕ) (end : SessionEnd)
      → IsVisited definition (connection_view left written) (connection_view (prepend_known kept left_then) written_then) began front replies end
      → (end ≡ EndOfInput → IsAtEnd (prepend_known kept left_then)) → (end ≡ LineTooLong → IsOverlong kept)
      → (end ≡ ReadFault → ⊥) → (end ≡ WriteFault → ⊥) → IsServedToBye (Ran began front replies end)
  ran kept began front replies Bye visit at_end too_long no_read no_write = tt
  ran kept began front replies EndOfInput visit at_end too_long no_read no_write =
      absurd (let e : EndOfInput ≡ Bye = comes_to_bye kept began front replies EndOfInput visit at_end too_long no_read no_write (λ same. cc) in cc)
  ran kept began front replies LineTooLong visit at_end too_long no_read no_write =
      absurd (let e : LineTooLong ≡ Bye = comes_to_bye kept began front replies LineTooLong visit at_end too_long no_read no_write (λ same. cc) in cc)
  ran kept began front replies Messages visit at_end too_long no_read no_write =
      absurd (let e : Messages ≡ Bye = comes_to_bye kept began front replies Messages visit at_end too_long no_read no_write (λ same. cc) in cc)
  ran kept began front replies ReadFault visit at_end too_long no_read no_write = absurd (no_read refl)
  ran kept began front replies WriteFault visit at_end too_long no_read no_write = absurd (no_write refl)
  ran kept began front replies NoMemory visit at_end too_long no_read no_write = tt

  pub served_to_bye : (served : Served) (read read_then write write_then : ℕ)
      → IsServed definition (connection_view left written) (connection_view left_then written_then) served
      → CountsFaults (end_of_connection served ≡ Some ReadFault) read read_then → CountsFaults (end_of_connection served ≡ Some WriteFault) write write_then
      → ¬ (HasRisen read read_then) → ¬ (HasRisen write write_then) → IsServedToBye served
  served_to_bye (Refused word) read read_then write write_then h reads writes no_read no_write =
      absurd (not_refused word (prepend_known h.kept left_then) h.by.greets)
  served_to_bye (Early end) read read_then write write_then h reads writes no_read no_write =
      early h.kept end h.by (λ same. no_read (reads.rises (ap (λ (e : SessionEnd). Some e) same)))
      (λ same. no_write (writes.rises (ap (λ (e : SessionEnd). Some e) same)))
  served_to_bye (Ran began front replies end) read read_then write write_then h reads writes no_read no_write =
      ran h.kept began front replies end h.by (λ same. h.at_end (ap (λ (e : SessionEnd). Some e) same))
      (λ same. h.too_long (ap (λ (e : SessionEnd). Some e) same))
      (λ same. no_read (reads.rises (ap (λ (e : SessionEnd). Some e) same)))
      (λ same. no_write (writes.rises (ap (λ (e : SessionEnd). Some e) same)))
