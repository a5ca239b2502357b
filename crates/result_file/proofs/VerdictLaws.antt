-- What each line, and the end of the text, says of a text.
use Rattle.std.proofs.Common.{◌≡◌, ℕ, ◌+◌, ◌<◌, ◌≤◌, List, [], ◌∷◌, ◌++◌, length, suc, take, drop, get_or, take-append-drop, drop-cons, length-take, refl, sym, ap, subst, ◌∙◌, arith, append-nil, length-append, inl, inr}
use Rattle.std.specs.Prelude.{Option, Some, None, IfSome, All}
use Rattle.std.specs.Io.KnownBytes.{prepend_known}
use Rattle.std.proofs.lemmas.List.Elements.{All-nil, All-cons, All-append}
use Rattle.edges.specs.Line.{HasNoLineEnd, first_line, line_end, unlines}
use Rattle.edges.specs.Lines.{LinesView, GivesLine, GivesPiece, GivesEnd, GivesTooLong, ahead}
use Rattle.edges.specs.Told.{IsAtEnd}
use Rattle.edges.proofs.ToldLemmas.{prepend_known-append, prepend_known-nil}
use Rattle.edges.proofs.LineLaws.{first_line-long, unlines-push}
use Rattle.std.proofs.lemmas.Bool.{cases_lt}
use Rattle.std.proofs.lemmas.List.{length-map}
use Rattle.criteria_model.specs.Criteria.{Criteria}
use Rattle.survey_core.proofs.ShortLemmas.{legal_is_short_lem}
use Rattle.survey_core.specs.declared.limits.TheConstants.{MAX_EVENTS}
use Rattle.result_file.specs.Claims.{Claim}
use Rattle.result_file.specs.declared.progress.Progress.{Progress}
use Rattle.result_file.specs.declared.progress.Progress.TheVariants as reached
use Rattle.result_file.specs.declared.verdicts.Part.{Part}
use Rattle.result_file.specs.declared.verdicts.Part.TheVariants.{Form}
use Rattle.result_file.specs.declared.verdicts.Checked.{Checked}
use Rattle.result_file.specs.declared.verdicts.Checked.TheVariants.{Valid, ValidComplete, Invalid, Unfinished, ReadFault, NoMemory}
use Rattle.result_file.specs.Bodies.{IsOfWhole}
use Rattle.result_file.specs.Checked.{Stage, blank, headed, begun, ended, Says, Fails, NextFails, ComesTo, IsFileOf, IsChecked, IsToldChecked}
use Rattle.result_file.specs.Contents.{Content, of_claims, of_events, lines_of, body_of, IsRightContent}
use Rattle.result_file.specs.Events.{event_line}
use Rattle.result_file.specs.Migrated.{IsAccepted}
use Rattle.result_file.specs.Progress.{IsAtStage, GoesOn, EndsWhole, EndsAs, HasCome, ComesFurther, IsAtLine, StopsAs, StopsThere, EndsWithPiece}
use Rattle.result_file.specs.RightClaims.{AreClaims}
use Rattle.result_file.specs.Texts.{end_line, claim_line}

pub for_told : (text : Option (List ℕ)) (P : List ℕ → Type 0) → ((bytes : List ℕ) → text ≡ Some bytes → P bytes) → IfSome text P
for_told None P f = tt
for_told (Some bytes) P f = f bytes refl

-- what is shown now, where it is shown what was before
pub told_now : (text now : Option (List ℕ)) (front bytes : List ℕ) → text ≡ prepend_known front now → text ≡ Some bytes
    → (rest : List ℕ) × (now ≡ Some rest) × (bytes ≡ front ++ rest)
told_now text None front bytes e is = absurd cc
told_now text (Some rest) front bytes e is = (rest, refl, cc)

pub one_unbroken : (line : List ℕ) → HasNoLineEnd line → All HasNoLineEnd (line ∷ [])
one_unbroken line h = All-cons HasNoLineEnd line [] h (All-nil HasNoLineEnd)

-- lines that have come, and what is next
come_to : (text before : Option (List ℕ)) (bytes rest : List ℕ) (number : ℕ) (progress : Progress) (P : Stage → List ℕ → Type 0)
    → (h : HasCome text before number progress) → bytes ≡ unlines h.lines ++ rest → P h.stage rest → ComesTo bytes number P
come_to text before bytes rest number progress P h whole next = record {
  lines = h.lines;
  rest = rest;
  stage = h.stage;
  split = record { whole = whole; unbroken = h.unbroken };
  says = h.says;
  number = h.number;
  next = next;
}

-- what the check says where it stops, of the whole text
stops_checked : (progress : Progress) (bytes : List ℕ) (verdict : Checked) → StopsAs progress bytes verdict → IsChecked bytes verdict
stops_checked progress bytes Valid h = h
stops_checked progress bytes ValidComplete h = h
stops_checked progress bytes (Invalid line part) h = record {
  lines = h.lines;
  rest = h.rest;
  stage = h.stage;
  split = h.split;
  says = h.says;
  number = h.number;
  next = h.next.1;
}
stops_checked progress bytes (Unfinished line) h = h
stops_checked progress bytes ReadFault h = tt
stops_checked progress bytes NoMemory h = tt

pub told_checked : (progress : Progress) (number : ℕ) (text : Option (List ℕ)) (verdict : Checked) → StopsThere progress number text verdict
    → IsToldChecked text verdict
told_checked progress number None verdict h = tt
told_checked progress number (Some bytes) verdict h = stops_checked progress bytes verdict h.stops

-- a whole line that fails
pub line_checked : (text before now : Option (List ℕ)) (number : ℕ) (progress : Progress) (new : LinesView) (part : Part)
    → HasCome text before number progress → GivesLine new before now → length new.line ≤ 4096
    → ((stage : Stage) → IsAtStage progress stage → Fails stage new.line part) → StopsThere progress number text (Invalid number part)
line_checked text before now number progress new part h g short fails = record {
  line = refl;
  stops =
      for_told text (λ bytes. StopsAs progress bytes (Invalid number part)) (λ bytes is.
      let t = told_now text before (unlines h.lines) bytes h.told is in
      let u = told_now before now (new.line ++ line_end ∷ []) t.0 g.told t.1 in
      come_to text before bytes t.0 number progress (λ stage rest. IsAtStage progress stage × NextFails stage rest part) h t.2 (
        h.stands,
        inr (inr (record {
          line = new.line;
          after = u.0;
          split = record { whole = u.2; unbroken = one_unbroken new.line g.unbroken };
          fits = short;
          fails = fails h.stage h.stands;
        })),
      ));
}

-- a whole line that is right
pub line_come : (text before now : Option (List ℕ)) (number : ℕ) (progress next : Progress) (new : LinesView) (h : HasCome text before number progress)
    → GivesLine new before now → ((lines : List (List ℕ)) (stage : Stage) → Says lines stage → IsAtStage progress stage → GoesOn lines new.line next)
    → ComesFurther h.lines new.line text now (number + 1) next
line_come text before now number progress next new h g goes =
    let go = goes h.lines h.stage h.says h.stands in
    let whole : unlines (h.lines ++ new.line ∷ []) ≡ unlines h.lines ++ (new.line ++ line_end ∷ []) =
    sym (append-nil (unlines (h.lines ++ new.line ∷ []))) ∙ unlines-push h.lines new.line [] in
    let told : text ≡ prepend_known (unlines h.lines) (prepend_known (new.line ++ line_end ∷ []) now) = h.told ∙ ap (prepend_known (unlines h.lines)) g.told in
    record {
      come = record {
        lines = h.lines ++ new.line ∷ [];
        stage = go.stage;
        unbroken = All-append HasNoLineEnd h.lines (new.line ∷ []) h.unbroken (one_unbroken new.line g.unbroken);
        told = told ∙ sym (prepend_known-append (unlines h.lines) (new.line ++ line_end ∷ []) now) ∙ ap (λ (front : List ℕ). prepend_known front now) (sym whole);
        says = go.says;
        stands = go.stands;
        number = omega (arith, h.number, length-append h.lines (new.line ∷ []));
      };
      one_more = refl;
    }

-- the last lines of a file, and a piece after them
ends_whole : (verdict : Checked) (bytes piece : List ℕ) (lines : List (List ℕ)) (stage : Stage) → bytes ≡ unlines lines ++ piece → Says lines stage
    → EndsWhole stage piece verdict → (content : Content) × IsFileOf content bytes × IsOfWhole content verdict
ends_whole verdict bytes piece lines blank whole says h = absurd h
ends_whole verdict bytes piece lines (headed kind) whole says h = absurd h
ends_whole verdict bytes piece lines (begun content) whole says h = (
  content,
  record {
    right = says.0;
    lines = inl (whole ∙ ap (λ (ls : List (List ℕ)). unlines ls ++ piece) says.1 ∙ ap (λ (p : List ℕ). unlines (lines_of content) ++ p) h.0);
  },
  h.1,
)
ends_whole verdict bytes piece lines (ended content) whole says h = (
  content,
  record {
    right = says.0;
    lines = inr (whole ∙ ap (λ (p : List ℕ). unlines lines ++ p) h.0 ∙ append-nil (unlines lines) ∙ ap unlines says.1);
  },
  h.1,
)

pub ends_checked : (verdict : Checked) (bytes piece : List ℕ) (lines : List (List ℕ)) (stage : Stage) (number : ℕ) → bytes ≡ unlines lines ++ piece
    → All HasNoLineEnd lines → HasNoLineEnd piece → length piece ≤ 4096 → Says lines stage → number ≡ length lines + 1
    → EndsAs stage piece number verdict → IsChecked bytes verdict
ends_checked Valid bytes piece lines stage number whole unbroken one short says count h = ends_whole Valid bytes piece lines stage whole says h
ends_checked ValidComplete bytes piece lines stage number whole unbroken one short says count h = ends_whole ValidComplete bytes piece lines stage whole says h
ends_checked (Invalid line part) bytes piece lines stage number whole unbroken one short says count h = record {
  lines = lines;
  rest = piece;
  stage = stage;
  split = record { whole = whole; unbroken = unbroken };
  says = says;
  number = h.2 ∙ count;
  next = inr (inl (h.0, h.1, h.3));
}
ends_checked (Unfinished line) bytes piece lines stage number whole unbroken one short says count h = record {
  lines = lines;
  rest = piece;
  stage = stage;
  split = record { whole = whole; unbroken = unbroken };
  says = says;
  number = h.1 ∙ count;
  next = (one, short, h.0);
}
ends_checked ReadFault bytes piece lines stage number whole unbroken one short says count h = absurd h
ends_checked NoMemory bytes piece lines stage number whole unbroken one short says count h = absurd h

ends_stop : (progress : Progress) (verdict : Checked) (bytes piece : List ℕ) (lines : List (List ℕ)) (stage : Stage) (number : ℕ)
    → bytes ≡ unlines lines ++ piece → All HasNoLineEnd lines → HasNoLineEnd piece → length piece ≤ 4096 → Says lines stage
    → IsAtStage progress stage → number ≡ length lines + 1 → EndsAs stage piece number verdict → StopsAs progress bytes verdict
ends_stop progress Valid bytes piece lines stage number whole unbroken one short says stands count h = ends_checked Valid bytes piece lines stage number whole unbroken one short says count h
ends_stop progress ValidComplete bytes piece lines stage number whole unbroken one short says stands count h = ends_checked ValidComplete bytes piece lines stage number whole unbroken one short says count h
ends_stop progress (Invalid line part) bytes piece lines stage number whole unbroken one short says stands count h = record {
  lines = lines;
  rest = piece;
  stage = stage;
  split = record { whole = whole; unbroken = unbroken };
  says = says;
  number = h.2 ∙ count;
  next = (stands, inr (inl (h.0, h.1, h.3)));
}
ends_stop progress (Unfinished line) bytes piece lines stage number whole unbroken one short says stands count h = ends_checked (Unfinished line) bytes piece lines stage number whole unbroken one short says count h
ends_stop progress ReadFault bytes piece lines stage number whole unbroken one short says stands count h = ends_checked ReadFault bytes piece lines stage number whole unbroken one short says count h
ends_stop progress NoMemory bytes piece lines stage number whole unbroken one short says stands count h = ends_checked NoMemory bytes piece lines stage number whole unbroken one short says count h

ends_line : (stage : Stage) (piece : List ℕ) (number : ℕ) (verdict : Checked) → EndsAs stage piece number verdict → IsAtLine number verdict
ends_line stage piece number Valid h = tt
ends_line stage piece number ValidComplete h = tt
ends_line stage piece number (Invalid line part) h = h.2
ends_line stage piece number (Unfinished line) h = h.1
ends_line stage piece number ReadFault h = tt
ends_line stage piece number NoMemory h = tt

-- the end of the text, after a piece of a line
piece_checked : (text before now : Option (List ℕ)) (number : ℕ) (progress : Progress) (piece : List ℕ) (verdict : Checked)
    → HasCome text before number progress → before ≡ prepend_known piece now → IsAtEnd now → HasNoLineEnd piece → length piece ≤ 4096
    → ((stage : Stage) → IsAtStage progress stage → EndsAs stage piece number verdict) → StopsThere progress number text verdict
piece_checked text before now number progress piece verdict h told at_end one short ends = record {
  line = ends_line h.stage piece number verdict (ends h.stage h.stands);
  stops =
      for_told text (λ bytes. StopsAs progress bytes verdict) (λ bytes is.
      let t = told_now text before (unlines h.lines) bytes h.told is in
      let u = told_now before now piece t.0 told t.1 in
      let none : u.0 ≡ [] = subst (λ (left : Option (List ℕ)). IsAtEnd left) u.1 at_end in
      let rest : t.0 ≡ piece = u.2 ∙ ap (λ (p : List ℕ). piece ++ p) none ∙ append-nil piece in
      ends_stop progress verdict bytes piece h.lines h.stage number (t.2 ∙ ap (λ (p : List ℕ). unlines h.lines ++ p) rest) h.unbroken one short h.says h.stands h.number (ends h.stage h.stands));
}

pub end_with_piece : (text before now : Option (List ℕ)) (number : ℕ) (progress : Progress) (new : LinesView) (verdict : Checked)
    → HasCome text before number progress → GivesPiece new before now → new.longest ≡ 4096
    → ((stage : Stage) → IsAtStage progress stage → EndsAs stage new.line number verdict) → StopsThere progress number text verdict
end_with_piece text before now number progress new verdict h g longest ends =
    piece_checked text before now number progress new.line verdict h g.told g.ended g.unbroken (omega (arith, g.fits, longest)) ends

pub end_without_piece : (text before now : Option (List ℕ)) (number : ℕ) (progress : Progress) (new : LinesView) (verdict : Checked)
    → HasCome text before number progress → GivesEnd new before now
    → ((stage : Stage) → IsAtStage progress stage → EndsAs stage new.line number verdict) → StopsThere progress number text verdict
end_without_piece text before now number progress new verdict h g ends =
    piece_checked text before now number progress [] verdict h (sym g.same ∙ sym (prepend_known-nil now)) g.ended (All-nil _) (omega arith) (rw g.no_line at ends)

-- more bytes than the longest line's without a line end
pub long_checked : (text before now left : Option (List ℕ)) (number : ℕ) (progress : Progress) (new : LinesView)
    → HasCome text before number progress → GivesTooLong new before now → now ≡ prepend_known new.kept left → new.longest ≡ 4096
    → StopsThere progress number text (Invalid number Form)
long_checked text before now left number progress new h g ahead longest = record {
  line = refl;
  stops =
      for_told text (λ bytes. StopsAs progress bytes (Invalid number Form)) (λ bytes is.
      let t = told_now text before (unlines h.lines) bytes h.told is in
      let u = told_now before left new.kept t.0 (sym g.same ∙ ahead) t.1 in
      let long : 4096 < length (first_line (new.kept ++ u.0)) = first_line-long new.kept u.0 4096 (omega (arith, g.too_many)) (rw longest at g.unbroken) in
      come_to text before bytes t.0 number progress (λ stage rest. IsAtStage progress stage × NextFails stage rest Form) h t.2 (h.stands, inl (rw u.2 long, refl)));
}

-- what is known where the file is whole after a piece
accepted_whole : (stage : Stage) (piece : List ℕ) (number : ℕ) (verdict : Checked) → IsAccepted verdict → EndsAs stage piece number verdict
    → EndsWhole stage piece verdict
accepted_whole stage piece number Valid accepted h = h
accepted_whole stage piece number ValidComplete accepted h = h
accepted_whole stage piece number (Invalid line part) accepted h = absurd accepted
accepted_whole stage piece number (Unfinished line) accepted h = absurd accepted
accepted_whole stage piece number ReadFault accepted h = absurd accepted
accepted_whole stage piece number NoMemory accepted h = absurd accepted

at_end_left : (kept : List ℕ) (left : Option (List ℕ)) → kept ≡ [] → IsAtEnd (prepend_known kept left) → IsAtEnd left
at_end_left kept left none h =
    subst (λ (o : Option (List ℕ)). IsAtEnd o) (ap (λ (bytes : List ℕ). prepend_known bytes left) none ∙ prepend_known-nil left) h

pub whole_with_piece : (before left : Option (List ℕ)) (number : ℕ) (progress : Progress) (new : LinesView) (verdict : Checked)
    → GivesPiece new before (ahead new left) → ((stage : Stage) → IsAtStage progress stage → EndsAs stage new.line number verdict)
    → IsAccepted verdict → EndsWithPiece progress progress verdict new.line before (ahead new left) left
whole_with_piece before left number progress new verdict g ends accepted = record {
  same = refl;
  whole = λ stage stands. accepted_whole stage new.line number verdict accepted (ends stage stands);
  unbroken = g.unbroken;
  told = g.told;
  none_ahead = g.ended;
  ended = at_end_left new.kept left g.none_kept g.ended;
}

pub whole_without_piece : (before left : Option (List ℕ)) (number : ℕ) (progress : Progress) (new : LinesView) (verdict : Checked)
    → GivesEnd new before (ahead new left) → ((stage : Stage) → IsAtStage progress stage → EndsAs stage new.line number verdict)
    → IsAccepted verdict → EndsWithPiece progress progress verdict new.line before (ahead new left) left
whole_without_piece before left number progress new verdict g ends accepted = record {
  same = refl;
  whole = λ stage stands. accepted_whole stage new.line number verdict accepted (ends stage stands);
  unbroken = rw g.no_line (All-nil _);
  told = rw g.no_line (sym g.same ∙ sym (prepend_known-nil (ahead new left)));
  none_ahead = g.ended;
  ended = at_end_left new.kept left g.none_kept g.ended;
}

-- ---- the loop over the lines

-- each claim's number is below the most
claim_number : (n : ℕ) (criteria : Criteria) (claims : List Claim) → AreClaims criteria claims → n < length claims → n < MAX_EVENTS
claim_number n criteria [] h lt = absurd (omega arith)
claim_number n criteria (claim ∷ claims) h lt =
    let e : claim ∷ claims ≡ take n (claim ∷ claims) ++ get_or (claim ∷ claims) n claim ∷ drop (suc n) (claim ∷ claims) =
    sym (take-append-drop n (claim ∷ claims)) ∙ ap (λ (rest : List Claim). take n (claim ∷ claims) ++ rest) (drop-cons (claim ∷ claims) n claim lt) in
    let room = (h.each (take n (claim ∷ claims)) (get_or (claim ∷ claims) n claim) (drop (suc n) (claim ∷ claims)) e).room in
    let len : length (take n (claim ∷ claims)) ≡ n = simp length-take (omega arith) in
    omega (arith, room, len)

few_claims : (criteria : Criteria) (claims : List Claim) → AreClaims criteria claims → length claims ≤ MAX_EVENTS
few_claims criteria claims h =
    elim (cases_lt MAX_EVENTS (length claims)) [
      | inl lt ↦ let same = claim_number MAX_EVENTS criteria claims h lt in absurd (omega arith)
      | inr le ↦ le
    ]

few_in_body : (content : Content) → IsRightContent content → length (body_of content) ≤ MAX_EVENTS
few_in_body (of_claims criteria claims) h = omega (arith, few_claims criteria claims h, length-map claims claim_line)
few_in_body (of_events format survey) h = omega (arith, legal_is_short_lem survey.listed survey.history h.listed h.legal, length-map survey.history (event_line survey.listed.classes))

few_lines : (lines : List (List ℕ)) (stage : Stage) → Says lines stage → length lines ≤ 131075
few_lines lines blank h = rw h (omega arith)
few_lines lines (headed kind) h = rw h (omega arith)
few_lines lines (begun content) h = rw h.1 (omega (arith, few_in_body content h.0))
few_lines lines (ended content) h = rw h.1 (omega (arith, few_in_body content h.0, length-append (lines_of content) (end_line ∷ [])))

pub few_come : (text now : Option (List ℕ)) (number : ℕ) (progress : Progress) → HasCome text now number progress → number ≤ 131076
few_come text now number progress h = omega (arith, few_lines h.lines h.stage h.says, h.number)

-- no line yet
pub none_come : (lines : LinesView) (left : Option (List ℕ)) → lines.kept ≡ [] → HasCome left (ahead lines left) 1 reached.Blank
none_come lines left none = record {
  lines = [];
  stage = blank;
  unbroken = All-nil HasNoLineEnd;
  told = sym (prepend_known-nil (ahead lines left) ∙ rw none (prepend_known-nil left));
  says = refl;
  stands = tt;
  number = refl;
}
