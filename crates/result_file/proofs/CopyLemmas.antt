-- Why the copy of a result is the file of the same survey in the second format.
use Rattle.std.proofs.Common.{◌≡◌, ◌≢◌, ◌⊎◌, ℕ, ◌≤◌, List, [], ◌∷◌, ◌++◌, length, map, get_or, refl, sym, ap, subst, ◌∙◌, inl, inr, arith, append_assoc, append-nil}
use Rattle.std.specs.Prelude.{Option, Some, None, IfSome, All, Result, Ok, Err, Vec, OnOk, IfOk, IfErr}
use Rattle.std.specs.declared.alloc.Global.{Global}
use Rattle.std.specs.Io.KnownBytes.{prepend_known}
use Rattle.std.proofs.lemmas.List.Elements.{All-nil, All-cons, All-append}
use Rattle.edges.specs.Faults.{CountsFaults}
use Rattle.edges.specs.Line.{HasNoLineEnd, Splits, line_end, unlines}
use Rattle.edges.specs.Lines.{LinesView, ahead, GivesLine, GivesPiece, GivesEnd}
use Rattle.edges.specs.Told.{IsAtEnd}
use Rattle.edges.proofs.SplitLaws.{one_split_lem}
use Rattle.edges.proofs.ToldLemmas.{prepend_known-append, prepend_known-nil}
use Rattle.criteria_model.specs.Criteria.{Criteria}
use Rattle.survey_core.specs.Recorded.{Recorded}
use Rattle.result_file.specs.declared.entries.Entry.{Entry}
use Rattle.result_file.specs.declared.entries.Entry.TheVariants.{Eliminate, Issue, Commit, Close, Withdraw}
use Rattle.result_file.specs.declared.entries.Format.{Format}
use Rattle.result_file.specs.declared.entries.Format.TheVariants.{One, Two}
use Rattle.result_file.specs.declared.kinds.Kind.{Kind}
use Rattle.result_file.specs.declared.kinds.Kind.TheVariants as kinds
use Rattle.result_file.specs.declared.progress.Progress.{Progress}
use Rattle.result_file.specs.declared.progress.Progress.TheVariants as reached
use Rattle.result_file.specs.declared.verdicts.Checked.{Checked}
use Rattle.result_file.specs.declared.verdicts.Checked.TheVariants.{Valid, ValidComplete, Invalid, Unfinished, ReadFault, NoMemory}
use Rattle.result_file.specs.declared.verdicts.Part.{Part}
use Rattle.result_file.specs.declared.verdicts.Part.TheVariants.{Form}
use Rattle.result_file.specs.Checked.{Stage, blank, headed, begun, ended, HasEnded, Fails, IsFileOf, IsChecked, IsToldChecked}
use Rattle.result_file.specs.Contents.{Content, of_claims, of_events, lines_of}
use Rattle.result_file.specs.Entries.{HasEntryForm}
use Rattle.result_file.specs.Events.{event_line}
use Rattle.result_file.specs.Files.{file_text, result_of}
use Rattle.result_file.specs.Loaded.{IsStopped, IsNoResult}
use Rattle.result_file.specs.Migrated.{BeginsClaims, IsAccepted, IsRefused, IsCopyOf, IsMigrated, ended_piece, HasCopied}
use Rattle.result_file.specs.Progress.{IsAtStage, EndsAs, HasCome, HasEndLine, StopsAs, StopsThere, EndsWithPiece}
use Rattle.result_file.specs.RightEvents.{AreEvents}
use Rattle.result_file.specs.Texts.{heading, end_line, model_line}
use Rattle.result_file.proofs.FormLemmas.{file_is_right}
use Rattle.result_file.proofs.LineEndLaws.{HasNoLineEnd-heading, HasNoLineEnd-end_line}
use Rattle.result_file.proofs.OneVerdict.{lines_unbroken}
use Rattle.result_file.proofs.OutLemmas.{unlines-append}
use Rattle.result_file.proofs.SpelledLaws.{heading_once}
use Rattle.result_file.proofs.VerdictLaws.{for_told, told_now, line_checked, end_with_piece, end_without_piece}

-- ---- the first line

pub blank_come : (before : Option (List ℕ)) → HasCome before before 1 reached.Blank
blank_come before = record {
  lines = [];
  stage = blank;
  unbroken = All-nil HasNoLineEnd;
  told = sym (prepend_known-nil before);
  says = refl;
  stands = tt;
  number = refl;
}

-- a check that stops before the end line
stops_short : (progress : Progress) (bytes : List ℕ) (verdict : Checked) → ¬ HasEndLine progress → ¬ IsAccepted verdict → StopsAs progress bytes verdict
    → IsStopped bytes verdict
stops_short progress bytes Valid early other h = other tt
stops_short progress bytes ValidComplete early other h = other tt
stops_short progress bytes (Invalid line part) early other h = record {
  lines = h.lines;
  rest = h.rest;
  stage = h.stage;
  split = h.split;
  says = h.says;
  number = h.number;
  next = (λ ended. early (end_line_came progress h.stage ended h.next.0), h.next.1);
}
  where
    end_line_came : (progress : Progress) (stage : Stage) → HasEnded stage → IsAtStage progress stage → HasEndLine progress
    end_line_came reached.Blank (ended content) has stands = absurd stands
    end_line_came (reached.Headed kind) (ended content) has stands = absurd stands
    end_line_came (reached.Begun body) (ended content) has stands = absurd stands
    end_line_came (reached.Ended body) stage has stands = tt
    end_line_came progress blank has stands = absurd has
    end_line_came progress (headed kind) has stands = absurd has
    end_line_came progress (begun content) has stands = absurd has
stops_short progress bytes (Unfinished line) early other h = h
stops_short progress bytes ReadFault early other h = tt
stops_short progress bytes NoMemory early other h = tt

pub not_result : (progress : Progress) (bytes : List ℕ) (verdict : Checked) → ¬ HasEndLine progress → ¬ IsAccepted verdict → ¬ BeginsClaims bytes
    → StopsAs progress bytes verdict → IsNoResult bytes verdict
not_result progress bytes Valid early other no_claims h = other tt
not_result progress bytes ValidComplete early other no_claims h = other tt
not_result progress bytes (Invalid line part) early other no_claims h =
    (λ claims. absurd (no_claims claims), λ _. stops_short progress bytes (Invalid line part) early other h)
not_result progress bytes (Unfinished line) early other no_claims h = (no_claims, stops_short progress bytes (Unfinished line) early other h)
not_result progress bytes ReadFault early other no_claims h = tt
not_result progress bytes NoMemory early other no_claims h = tt

first_refused : (before : Option (List ℕ)) → StopsThere reached.Blank 1 before (Invalid 1 Form) → IfSome before (λ text. IsNoResult text (Invalid 1 Form))
first_refused None there = tt
first_refused (Some text) there =
    (λ claims. refl, λ no_claims. stops_short reached.Blank text (Invalid 1 Form) (λ no. no) (λ no. no) there.stops)

pub long_refused : (before : Option (List ℕ)) → StopsThere reached.Blank 1 before (Invalid 1 Form)
    → IfSome before (λ text. IsNoResult text (Invalid 1 Form))
long_refused before there = first_refused before there

fails_blank : (line : List ℕ) → ((kind : Kind) → line ≢ heading kind) → (stage : Stage) → IsAtStage reached.Blank stage → Fails stage line Form
fails_blank line other blank stands = other
fails_blank line other (headed kind) stands = absurd stands
fails_blank line other (begun content) stands = absurd stands
fails_blank line other (ended content) stands = absurd stands

-- the first line of a text that isn't a claims file's is no heading
no_heading : (bytes rest line : List ℕ) → bytes ≡ (line ++ line_end ∷ []) ++ rest → ¬ BeginsClaims bytes
    → ((format : Format) → line ≢ heading (kinds.Result format)) → (kind : Kind) → line ≢ heading kind
no_heading bytes rest line whole no_claims other kinds.Claims is =
    no_claims (rest, whole ∙ append_assoc line (line_end ∷ []) rest ∙ ap (λ (front : List ℕ). front ++ line_end ∷ rest) is)
no_heading bytes rest line whole no_claims other (kinds.Result format) is = other format is

pub other_refused : (before now : Option (List ℕ)) (new : LinesView) → GivesLine new before now → length new.line ≤ 4096
    → ((format : Format) → new.line ≢ heading (kinds.Result format)) → IfSome before (λ text. IsNoResult text (Invalid 1 Form))
other_refused before now new g short other =
    for_told before (λ text. IsNoResult text (Invalid 1 Form)) (λ bytes told.
    let t = told_now before now (new.line ++ line_end ∷ []) bytes g.told told in (
      λ claims. refl,
      λ no_claims.
          let there : StopsThere reached.Blank 1 before (Invalid 1 Form) =
          line_checked before before now 1 reached.Blank new Form (blank_come before) g short
          (fails_blank new.line (no_heading bytes t.0 new.line t.2 no_claims other)) in
          stops_short reached.Blank bytes (Invalid 1 Form) (λ no. no) (λ no. no)
          (subst (λ (text : Option (List ℕ)). IfSome text (λ b. StopsAs reached.Blank b (Invalid 1 Form))) told there.stops),
    ))

no_line_end : (piece : List ℕ) → HasNoLineEnd piece → ¬ BeginsClaims piece
no_line_end piece unbroken claims =
    let whole : HasNoLineEnd (heading kinds.Claims ++ line_end ∷ claims.0) = subst HasNoLineEnd claims.1 unbroken in
    whole 16 0 (omega arith) refl

open_blank : (piece : List ℕ) (stage : Stage) → IsAtStage reached.Blank stage → EndsAs stage piece 1 (Unfinished 1)
open_blank piece blank stands = (tt, refl)
open_blank piece (headed kind) stands = absurd stands
open_blank piece (begun content) stands = absurd stands
open_blank piece (ended content) stands = absurd stands

cut_refused : (before now : Option (List ℕ)) (piece : List ℕ) → before ≡ prepend_known piece now → IsAtEnd now → HasNoLineEnd piece
    → StopsThere reached.Blank 1 before (Unfinished 1) → IfSome before (λ text. IsNoResult text (Unfinished 1))
cut_refused before now piece told at_end unbroken there =
    for_told before (λ text. IsNoResult text (Unfinished 1)) (λ bytes is.
    let t = told_now before now piece bytes told is in
    let none : t.0 ≡ [] = subst (λ (left : Option (List ℕ)). IsAtEnd left) t.1 at_end in
    let same : bytes ≡ piece = t.2 ∙ ap (λ (rest : List ℕ). piece ++ rest) none ∙ append-nil piece in (
      no_line_end bytes (subst HasNoLineEnd (sym same) unbroken),
      subst (λ (text : Option (List ℕ)). IfSome text (λ b. StopsAs reached.Blank b (Unfinished 1))) is there.stops,
    ))

pub piece_refused : (before now : Option (List ℕ)) (new : LinesView) → new.longest ≡ 4096 → GivesPiece new before now
    → IfSome before (λ text. IsNoResult text (Unfinished 1))
piece_refused before now new longest g =
    cut_refused before now new.line g.told g.ended g.unbroken
    (end_with_piece before before now 1 reached.Blank new (Unfinished 1) (blank_come before) g longest (open_blank new.line))

pub end_refused : (before now : Option (List ℕ)) (new : LinesView) → GivesEnd new before now → IfSome before (λ text. IsNoResult text (Unfinished 1))
end_refused before now new g =
    cut_refused before now [] (sym g.same ∙ sym (prepend_known-nil now)) g.ended (All-nil _)
    (end_without_piece before before now 1 reached.Blank new (Unfinished 1) (blank_come before) g (open_blank new.line))

-- what is no result is refused
pub no_result_refused : (before : Option (List ℕ)) (verdict : Checked) → IfSome before (λ text. IsNoResult text verdict)
    → IfSome before (λ text. IsRefused text verdict)
no_result_refused None verdict h = tt
no_result_refused (Some text) Valid h = h
no_result_refused (Some text) ValidComplete h = h
no_result_refused (Some text) (Invalid line part) h = (h.0, λ no_claims. as_checked line part (h.1 no_claims))
  where
    as_checked : (line : ℕ) (part : Part) → IsStopped text (Invalid line part) → IsChecked text (Invalid line part)
    as_checked line part stopped = record {
      lines = stopped.lines;
      rest = stopped.rest;
      stage = stopped.stage;
      split = stopped.split;
      says = stopped.says;
      number = stopped.number;
      next = stopped.next.1;
    }
no_result_refused (Some text) (Unfinished line) h = h
no_result_refused (Some text) ReadFault h = tt
no_result_refused (Some text) NoMemory h = tt

-- ---- the lines after it

pub head_come : (format : Format) (first : Option (List ℕ))
    → HasCome (prepend_known (heading (kinds.Result format) ++ line_end ∷ []) first) first 2 (reached.Headed (kinds.Result format))
head_come format first = record {
  lines = heading (kinds.Result format) ∷ [];
  stage = headed (kinds.Result format);
  unbroken = All-cons HasNoLineEnd (heading (kinds.Result format)) [] (HasNoLineEnd-heading (kinds.Result format)) (All-nil HasNoLineEnd);
  told = refl;
  says = refl;
  stands = refl;
  number = refl;
}

pub copied_none : (first : Option (List ℕ)) (copy : List ℕ) → copy ≡ heading (kinds.Result Two) ++ line_end ∷ [] → HasCopied first first copy
copied_none first copy is = record { lines = []; unbroken = All-nil HasNoLineEnd; took = sym (prepend_known-nil first); copied = is }

pub copied_line : (first mid now : Option (List ℕ)) (copy more : List ℕ) (new : LinesView) → HasCopied first mid copy → GivesLine new mid now
    → more ≡ copy ++ (new.line ++ line_end ∷ []) → HasCopied first now more
copied_line first mid now copy more new h g is =
    let whole : unlines (h.lines ++ new.line ∷ []) ≡ unlines h.lines ++ (new.line ++ line_end ∷ []) = unlines-append h.lines (new.line ∷ []) in
    let took : first ≡ prepend_known (unlines h.lines) (prepend_known (new.line ++ line_end ∷ []) now) = h.took ∙ ap (prepend_known (unlines h.lines)) g.told in
    record {
      lines = h.lines ++ new.line ∷ [];
      unbroken = All-append HasNoLineEnd h.lines (new.line ∷ []) h.unbroken (All-cons HasNoLineEnd new.line [] g.unbroken (All-nil HasNoLineEnd));
      took = took ∙ sym (prepend_known-append (unlines h.lines) (new.line ++ line_end ∷ []) now) ∙ ap (λ (front : List ℕ). prepend_known front now) (sym whole);
      copied = is ∙ ap (λ (front : List ℕ). front ++ (new.line ++ line_end ∷ [])) h.copied ∙ sym (unlines-append (heading (kinds.Result Two) ∷ h.lines) (new.line ∷ []));
    }

-- ---- the whole copy

-- what may stand in a file of some format may stand in one of the second
second_form : (format : Format) (criteria : Criteria) (entry : Entry) → HasEntryForm format criteria entry → HasEntryForm Two criteria entry
second_form format criteria (Eliminate elimination) h = h
second_form format criteria (Issue desk pair plus minus) h = h
second_form format criteria (Commit desk question side plus minus point) h = h
second_form format criteria (Close desk question) h = h
second_form One criteria (Withdraw desk answer) h = absurd h
second_form Two criteria (Withdraw desk answer) h = h

in_second : (format : Format) (survey : Recorded) → AreEvents format survey → AreEvents Two (record { listed = survey.listed; history = survey.history })
in_second format survey h = record {
  listed = h.listed;
  legal = h.legal;
  forms = λ k d within. second_form format survey.listed.criteria _ (h.forms k d within);
}

-- the lines of a text that is the file of a content: the heading, and others that are the content's
record HasSameLines (format : Format) (lines : List (List ℕ)) (piece text : List ℕ) : Type 0 where
  survey : Recorded
  file : IsFileOf (of_events format survey) text
  copied : unlines (heading (kinds.Result Two) ∷ lines) ++ ended_piece piece ≡ file_text (result_of survey.listed survey.history)

other_kind : (format : Format) → kinds.Result format ≡ kinds.Claims → ⊥
other_kind format e = cc

same_lines_by : (format : Format) (lines : List (List ℕ)) (piece text : List ℕ) (content : Content) → IsFileOf content text
    → ((heading (kinds.Result format) ∷ lines ≡ lines_of content) × (piece ≡ end_line))
    ⊎ ((heading (kinds.Result format) ∷ lines ≡ lines_of content ++ end_line ∷ []) × (piece ≡ [])) → HasSameLines format lines piece text
same_lines_by format lines piece text (of_claims criteria claims) file same =
    elim same [
      | inl cut ↦ (let first : heading (kinds.Result format) ≡ heading kinds.Claims = cc in absurd (other_kind format (heading_once (kinds.Result format) kinds.Claims first)))
      | inr whole ↦ (let first : heading (kinds.Result format) ≡ heading kinds.Claims = cc in absurd (other_kind format (heading_once (kinds.Result format) kinds.Claims first)))
    ]
same_lines_by format lines piece text (of_events other survey) file same =
    let body : List (List ℕ) = model_line survey.listed.criteria ∷ map (event_line survey.listed.classes) survey.history in
    let top : List ℕ = heading (kinds.Result Two) in
    elim same [
      | inl cut ↦
          (let first : heading (kinds.Result format) ≡ heading (kinds.Result other) = cc in
          let kind : kinds.Result format ≡ kinds.Result other = heading_once (kinds.Result format) (kinds.Result other) first in
          let formats : other ≡ format = cc in
          let rest : lines ≡ body = cc in
          record {
            survey = survey;
            file = subst (λ (f : Format). IsFileOf (of_events f survey) text) formats file;
            copied =
                ap (λ (ls : List (List ℕ)). unlines (top ∷ ls) ++ ended_piece piece) rest
                ∙ ap (λ (p : List ℕ). unlines (top ∷ body) ++ ended_piece p) cut.1 ∙ sym (unlines-append (top ∷ body) (end_line ∷ []));
          })
      | inr whole ↦
          (let first : heading (kinds.Result format) ≡ heading (kinds.Result other) = cc in
          let kind : kinds.Result format ≡ kinds.Result other = heading_once (kinds.Result format) (kinds.Result other) first in
          let formats : other ≡ format = cc in
          let rest : lines ≡ body ++ end_line ∷ [] = cc in
          record {
            survey = survey;
            file = subst (λ (f : Format). IsFileOf (of_events f survey) text) formats file;
            copied =
                ap (λ (ls : List (List ℕ)). unlines (top ∷ ls) ++ ended_piece piece) rest
                ∙ ap (λ (p : List ℕ). unlines (top ∷ (body ++ end_line ∷ [])) ++ ended_piece p) whole.1 ∙ append-nil (unlines (top ∷ (body ++ end_line ∷ [])));
          })
    ]

same_lines : (format : Format) (lines : List (List ℕ)) (piece text : List ℕ) (content : Content) → text ≡ unlines (heading (kinds.Result format) ∷ lines) ++ piece
    → All HasNoLineEnd lines → HasNoLineEnd piece → IsFileOf content text → HasSameLines format lines piece text
same_lines format lines piece text content whole unbroken cut file =
    let all : List (List ℕ) = heading (kinds.Result format) ∷ lines in
    let split : Splits text all piece =
    record { whole = whole; unbroken = All-cons HasNoLineEnd (heading (kinds.Result format)) lines (HasNoLineEnd-heading (kinds.Result format)) unbroken } in
    let of_content : All HasNoLineEnd (lines_of content) = lines_unbroken content file.right in
    same_lines_by format lines piece text content file (elim file.lines [
      | inl unclosed ↦
          inl (one_split_lem text all (lines_of content) piece end_line split (record { whole = unclosed; unbroken = of_content }) cut HasNoLineEnd-end_line)
      | inr closed ↦
          inr (one_split_lem text all (lines_of content ++ end_line ∷ []) piece [] split (record {
            whole = closed ∙ sym (append-nil (unlines (lines_of content ++ end_line ∷ [])));
            unbroken = All-append HasNoLineEnd (lines_of content) (end_line ∷ []) of_content (All-cons HasNoLineEnd end_line [] HasNoLineEnd-end_line (All-nil HasNoLineEnd));
          }) cut (All-nil _))
    ])

accepted_file : (verdict : Checked) (text : List ℕ) → IsAccepted verdict → IsChecked text verdict → (content : Content) × IsFileOf content text
accepted_file Valid text accepted checked = (checked.0, checked.1)
accepted_file ValidComplete text accepted checked = (checked.0, checked.1)
accepted_file (Invalid line part) text accepted checked = absurd accepted
accepted_file (Unfinished line) text accepted checked = absurd accepted
accepted_file ReadFault text accepted checked = absurd accepted
accepted_file NoMemory text accepted checked = absurd accepted

refused_by : (verdict : Checked) (text : List ℕ) → ¬ IsAccepted verdict → ¬ BeginsClaims text → IsChecked text verdict → IsRefused text verdict
refused_by Valid text other no_claims checked = other tt
refused_by ValidComplete text other no_claims checked = other tt
refused_by (Invalid line part) text other no_claims checked = (λ claims. absurd (no_claims claims), λ other. checked)
refused_by (Unfinished line) text other no_claims checked = (no_claims, checked)
refused_by ReadFault text other no_claims checked = tt
refused_by NoMemory text other no_claims checked = tt

other_byte : (one other : ℕ) → one ≡ 114 → other ≡ 99 → one ≡ other → ⊥
other_byte one other is other_is same = omega (arith, is, other_is, same)

-- the headings differ in their ninth byte
pub begins_result : (format : Format) (rest text : List ℕ) → text ≡ (heading (kinds.Result format) ++ line_end ∷ []) ++ rest → ¬ BeginsClaims text
begins_result One rest text is claims =
    other_byte (get_or ((heading (kinds.Result One) ++ line_end ∷ []) ++ rest) 8 0) (get_or (heading kinds.Claims ++ line_end ∷ claims.0) 8 0) refl refl
    (ap (λ (bytes : List ℕ). get_or bytes 8 0) (sym is ∙ claims.1))
begins_result Two rest text is claims =
    other_byte (get_or ((heading (kinds.Result Two) ++ line_end ∷ []) ++ rest) 8 0) (get_or (heading kinds.Claims ++ line_end ∷ claims.0) 8 0) refl refl
    (ap (λ (bytes : List ℕ). get_or bytes 8 0) (sym is ∙ claims.1))

pub memory_refused : (text : Option (List ℕ)) → IfSome text (λ bytes. IsRefused bytes NoMemory)
memory_refused None = tt
memory_refused (Some bytes) = tt

pub finished : (format : Format) (text first mid left : Option (List ℕ)) (result : Result (Vec ℕ Global) Checked) (verdict : Checked) (copy piece : List ℕ)
    → text ≡ prepend_known (heading (kinds.Result format) ++ line_end ∷ []) first → HasCopied first mid copy
    → (progress next : Progress) (now : Option (List ℕ)) → (IsAccepted verdict → EndsWithPiece progress next verdict piece mid now left) → IsToldChecked text verdict
    → IfOk result (λ done. IsAccepted verdict × (done.items ≡ copy ++ ended_piece piece))
    → IfErr result (λ failed. ((failed ≡ NoMemory) × IsAccepted verdict) ⊎ ((failed ≡ verdict) × (¬ IsAccepted verdict)))
    → IsMigrated text result
finished format text first mid left (Ok done) verdict copy piece told h progress next now ends checked copied refused =
    for_told text (λ bytes. IsCopyOf bytes done.items) (λ bytes is.
    let t = told_now text first (heading (kinds.Result format) ++ line_end ∷ []) bytes told is in
    let u = told_now first mid (unlines h.lines) t.0 h.took t.1 in
    let end = ends copied.0 in
    let v = told_now mid now piece u.0 end.told u.1 in
    let none : v.0 ≡ [] = subst (λ (o : Option (List ℕ)). IsAtEnd o) v.1 end.none_ahead in
    let last : u.0 ≡ piece = v.2 ∙ ap (λ (p : List ℕ). piece ++ p) none ∙ append-nil piece in
    let whole : bytes ≡ unlines (heading (kinds.Result format) ∷ h.lines) ++ piece =
    t.2 ∙ ap (λ (rest : List ℕ). (heading (kinds.Result format) ++ line_end ∷ []) ++ rest) (u.2 ∙ ap (λ (rest : List ℕ). unlines h.lines ++ rest) last)
    ∙ simp (append_assoc) refl in
    let file = accepted_file verdict bytes copied.0 (subst (λ (o : Option (List ℕ)). IsToldChecked o verdict) is checked) in
    let same : HasSameLines format h.lines piece bytes = same_lines format h.lines piece bytes file.0 whole h.unbroken end.unbroken file.1 in
    record {
      format = format;
      survey = same.survey;
      file = same.file;
      copied = copied.1 ∙ ap (λ (front : List ℕ). front ++ ended_piece piece) h.copied ∙ same.copied;
      right = file_is_right same.survey.listed same.survey.history (in_second format same.survey same.file.right);
    })
finished format text first mid left (Err failed) verdict copy piece told h progress next now ends checked copied refused =
    for_told text (λ bytes. IsRefused bytes failed) (λ bytes is.
    let t = told_now text first (heading (kinds.Result format) ++ line_end ∷ []) bytes told is in
    elim refused [
      | inl memory ↦ subst (λ (v : Checked). IsRefused bytes v) (sym memory.0) tt
      | inr same ↦
          subst (λ (v : Checked). IsRefused bytes v) (sym same.0)
          (refused_by verdict bytes same.1 (begins_result format t.0 bytes t.2) (subst (λ (o : Option (List ℕ)). IsToldChecked o verdict) is checked))
    ])

-- ---- the end of input, and faults

no_fault : (verdict : Checked) → IsAccepted verdict → verdict ≡ ReadFault → ⊥
no_fault verdict accepted is = subst IsAccepted is accepted

pub ended_by : (result : Result (Vec ℕ Global) Checked) (verdict : Checked) (copy piece : List ℕ) (mid now left : Option (List ℕ))
    (progress next : Progress) → IfOk result (λ done. IsAccepted verdict × (done.items ≡ copy ++ ended_piece piece))
    → (IsAccepted verdict → EndsWithPiece progress next verdict piece mid now left) → OnOk result (IsAtEnd left)
ended_by (Ok done) verdict copy piece mid now left progress next copied ends = (ends copied.0).ended
ended_by (Err failed) verdict copy piece mid now left progress next copied ends = tt

pub quiet_by : (result : Result (Vec ℕ Global) Checked) (verdict : Checked) (copy piece : List ℕ) (before now : ℕ)
    → IfOk result (λ done. IsAccepted verdict × (done.items ≡ copy ++ ended_piece piece)) → CountsFaults (verdict ≡ ReadFault) before now
    → OnOk result (now ≡ before)
quiet_by (Ok done) verdict copy piece before now copied faults = faults.stays (no_fault verdict copied.0)
quiet_by (Err failed) verdict copy piece before now copied faults = tt

pub faults_by : (result : Result (Vec ℕ Global) Checked) (verdict : Checked) (before now : ℕ)
    → IfErr result (λ failed. ((failed ≡ NoMemory) × IsAccepted verdict) ⊎ ((failed ≡ verdict) × (¬ IsAccepted verdict)))
    → CountsFaults (verdict ≡ ReadFault) before now → IfErr result (λ failed. CountsFaults (failed ≡ ReadFault) before now)
faults_by (Ok done) verdict before now refused faults = tt
faults_by (Err failed) verdict before now refused faults =
    elim refused [
      | inl memory ↦ record { rises = λ is. (let both : NoMemory ≡ ReadFault = sym memory.0 ∙ is in absurd cc); stays = λ other. faults.stays (no_fault verdict memory.1) }
      | inr same ↦ record { rises = λ is. faults.rises (sym same.0 ∙ is); stays = λ other. faults.stays (λ is. other (same.0 ∙ is)) }
    ]

pub memory_faults : (before now : ℕ) → now ≡ before → CountsFaults (NoMemory ≡ ReadFault) before now
memory_faults before now same = record { rises = λ is. absurd cc; stays = λ other. same }

-- a reader that kept nothing
pub ahead_none : (lines : LinesView) (left : Option (List ℕ)) → lines.kept ≡ [] → ahead lines left ≡ left
ahead_none lines left none = rw none (prepend_known-nil left)

-- a result doesn't begin as claims do
pub result_begins : (format : Format) (survey : Recorded) (text : List ℕ) → IsFileOf (of_events format survey) text → ¬ BeginsClaims text
result_begins format survey text file =
    let top : List ℕ = heading (kinds.Result format) in
    let rest : List (List ℕ) = model_line survey.listed.criteria ∷ map (event_line survey.listed.classes) survey.history in
    elim file.lines [
      | inl unclosed ↦ begins_result format (unlines rest ++ end_line) text (unclosed ∙ append_assoc top (line_end ∷ unlines rest) end_line ∙ sym (append_assoc top (line_end ∷ []) (unlines rest ++ end_line)))
      | inr closed ↦ begins_result format (unlines (rest ++ end_line ∷ [])) text (closed ∙ sym (append_assoc top (line_end ∷ []) (unlines (rest ++ end_line ∷ []))))
    ]
