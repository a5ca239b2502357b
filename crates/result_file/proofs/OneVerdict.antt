-- A text is the file of one content at most, and deserves one verdict at most.
use Rattle.std.proofs.Common.{◌≡◌, ◌≢◌, ℕ, zero, suc, ◌+◌, ◌<◌, List, [], ◌∷◌, ◌++◌, length, refl, sym, ap, ap₂, subst, ◌∙◌, inl, inr, arith, append-nil, append_assoc, length-append}
use Rattle.std.specs.List.{All}
use Rattle.std.proofs.lemmas.List.Elements.{All-nil, All-cons, All-append}
use Rattle.edges.specs.Line.{Splits, line_end, HasNoLineEnd, HasLineEnd, unlines, first_line}
use Rattle.edges.proofs.LineLaws.{first_line-line, first_line-piece, HasLineEnd-line, HasNoLineEnd-not}
use Rattle.result_file.specs.declared.limits.TheConstants.{MAX_LINE}
use Rattle.result_file.specs.declared.verdicts.Checked.{Checked}
use Rattle.result_file.specs.declared.verdicts.Checked.TheVariants.{Valid, ValidComplete, Invalid, Unfinished, ReadFault, NoMemory}
use Rattle.result_file.specs.declared.verdicts.Part.{Part}
use Rattle.result_file.specs.declared.verdicts.Part.TheVariants.{Form}
use Rattle.result_file.specs.Contents.{Content, of_claims, of_events, lines_of, kind_of, criteria_of, IsRightContent, IsCompleteContent}
use Rattle.result_file.specs.Checked.{Stage, blank, headed, begun, ended, Says, Fails, HasEnded, NextLineFails, NextFails, LeavesOpen, IsCut, ComesTo, IsFileOf, IsChecked}
use Rattle.result_file.specs.Events.{as_entry}
use Rattle.result_file.specs.Laws.{OneContent, IsOnText, OneVerdict}
use Rattle.result_file.specs.Texts.{heading, end_line, model_line}
use Rattle.edges.proofs.SplitLaws.{line_once, GoesOnTo, one_goes_on}
use Rattle.result_file.proofs.LengthLaws.{model_form}
use Rattle.result_file.proofs.LineEndLaws.{HasNoLineEnd-heading, HasNoLineEnd-model_line, HasNoLineEnd-claim_line, HasNoLineEnd-entry_line, HasNoLineEnd-end_line}
use Rattle.result_file.proofs.StepLaws.{AddsRight, Steps, last_or_none, empty_lines, says_once, next_steps}
use Rattle.result_file.proofs.FailLaws.{IsFine, step_fine, fails_once, content_model}

-- ---- the lines of a file have no line end within

adds_unbroken : (content : Content) (line : List ℕ) (next : Content) → AddsRight content line next → HasNoLineEnd line
adds_unbroken (of_claims criteria claims) line next adds =
    subst HasNoLineEnd (sym adds.spelled) (HasNoLineEnd-claim_line criteria adds.claim adds.right.form)
adds_unbroken (of_events format survey) line next adds =
    subst HasNoLineEnd (sym adds.spelled)
    (HasNoLineEnd-entry_line format survey.listed.criteria (as_entry survey.listed.classes adds.event) adds.form)

first_lines_unbroken : (content : Content) → IsRightContent content
    → All HasNoLineEnd ((heading (kind_of content) ∷ []) ++ model_line (criteria_of content) ∷ [])
first_lines_unbroken content h =
    All-cons HasNoLineEnd (heading (kind_of content)) (model_line (criteria_of content) ∷ []) (HasNoLineEnd-heading (kind_of content))
    (All-cons HasNoLineEnd (model_line (criteria_of content)) []
    (HasNoLineEnd-model_line (criteria_of content) (model_form (criteria_of content) (content_model content h))) (All-nil HasNoLineEnd))

lines_unbroken_by : (n : ℕ) (content : Content) → length (lines_of content) ≡ n → IsRightContent content → All HasNoLineEnd (lines_of content)
lines_unbroken_by zero content count h = absurd (omega arith)
lines_unbroken_by (suc n) content count h =
    elim (last_or_none content h) [
      | inl empty ↦ subst (All HasNoLineEnd) (sym (empty_lines content empty)) (first_lines_unbroken content h)
      | inr last ↦
          (let shorter : length (lines_of last.before) ≡ n =
          omega (arith, count, ap length last.lines, length-append (lines_of last.before) (last.line ∷ [])) in
          subst (All HasNoLineEnd) (sym last.lines)
          (All-append HasNoLineEnd (lines_of last.before) (last.line ∷ []) (lines_unbroken_by n last.before shorter last.right)
          (All-cons HasNoLineEnd last.line [] (adds_unbroken last.before last.line content last.adds) (All-nil HasNoLineEnd))))
    ]

pub lines_unbroken : (content : Content) → IsRightContent content → All HasNoLineEnd (lines_of content)
lines_unbroken content h = lines_unbroken_by (length (lines_of content)) content refl h

-- ---- a stage at which a text stops

-- the stage doesn't go on in the text that is left: no whole line that is fine comes next
abbrev pub Stops : Stage → List ℕ → Type 0
Stops stage rest = (line after : List ℕ) → IsFine stage line → HasNoLineEnd line → rest ≢ line ++ line_end ∷ after

-- right lines of a text, and where they stop
pub record StopsAt (text : List ℕ) : Type 0 where
  pub lines : List (List ℕ)
  pub rest : List ℕ
  pub stage : Stage
  pub split : Splits text lines rest
  pub says : Says lines stage
  pub stops : Stops stage rest

pub record AreSame (text : List ℕ) (one other : StopsAt text) : Type 0 where
  pub lines : one.lines ≡ other.lines
  pub rest : one.rest ≡ other.rest
  pub stage : one.stage ≡ other.stage

back_unbroken : (lines more : List (List ℕ)) → All HasNoLineEnd (lines ++ more) → All HasNoLineEnd more
back_unbroken [] more h = h
back_unbroken (line ∷ lines) more h = back_unbroken lines more (λ k d within. h (suc k) d (omega arith))

-- lines that stop don't go on
no_more : (lines : List (List ℕ)) (rest : List ℕ) (others : List (List ℕ)) (other_rest : List ℕ) (stage last : Stage) (more : List (List ℕ))
    → Says lines stage → Stops stage rest → All HasNoLineEnd others → Says others last → others ≡ lines ++ more → rest ≡ unlines more ++ other_rest → more ≡ []
no_more lines rest others other_rest stage last [] says stops unbroken says_last longer left = refl
no_more lines rest others other_rest stage last (line ∷ more) says stops unbroken says_last longer left =
    let next : (next : Stage) × Steps stage line next =
    next_steps lines line more stage last says (subst (λ (l : List (List ℕ)). Says l last) longer says_last) in
    let here : HasNoLineEnd line =
    back_unbroken lines (line ∷ more) (subst (All HasNoLineEnd) longer unbroken) 0 line (omega arith) in
    absurd (stops line (unlines more ++ other_rest) (step_fine stage line next.0 next.1) here (left ∙ append_assoc line (line_end ∷ unlines more) other_rest))

same_if_on : (text : List ℕ) (one other : StopsAt text) → GoesOnTo one.lines one.rest other.lines other.rest → AreSame text one other
same_if_on text one other goes =
    let none : goes.more ≡ [] =
    no_more one.lines one.rest other.lines other.rest one.stage other.stage goes.more one.says one.stops other.split.unbroken other.says goes.longer goes.left in
    let lines : one.lines ≡ other.lines =
    sym (goes.longer ∙ ap (λ (more : List (List ℕ)). one.lines ++ more) none ∙ append-nil one.lines) in
    record {
      lines = lines;
      rest = goes.left ∙ ap (λ (more : List (List ℕ)). unlines more ++ other.rest) none;
      stage = says_once other.lines one.stage other.stage (subst (λ (l : List (List ℕ)). Says l one.stage) lines one.says) other.says;
    }

-- the right lines of a text stop at one place
pub stops_once : (text : List ℕ) (one other : StopsAt text) → AreSame text one other
stops_once text one other =
    elim (one_goes_on one.lines one.rest other.lines other.rest one.split.unbroken other.split.unbroken (sym one.split.whole ∙ other.split.whole)) [
      | inl goes ↦ same_if_on text one other goes
      | inr goes ↦
          (let same : AreSame text other one = same_if_on text other one goes in
          record { lines = sym same.lines; rest = sym same.rest; stage = sym same.stage })
    ]

-- ---- what a verdict says of the place

-- the file is whole there, and its content is such
abbrev pub IsWhole : Stage → List ℕ → (Content → Type 0) → Type 0
IsWhole (begun content) rest P = (rest ≡ end_line) × P content
IsWhole (ended content) rest P = (rest ≡ []) × P content
IsWhole _ rest P = ⊥

abbrev Ends : Checked → ℕ → Stage → List ℕ → Type 0
Ends Valid number stage rest = IsWhole stage rest (λ content. ¬ IsCompleteContent content)
Ends ValidComplete number stage rest = IsWhole stage rest IsCompleteContent
Ends (Invalid line part) number stage rest = (line ≡ number) × NextFails stage rest part
Ends (Unfinished line) number stage rest = (line ≡ number) × IsCut stage rest
Ends _ number stage rest = ⊥

pub no_line_end : (text line after : List ℕ) → HasNoLineEnd text → text ≢ line ++ line_end ∷ after
no_line_end text line after unbroken is = HasNoLineEnd-not text unbroken (subst HasLineEnd (sym is) (HasLineEnd-line line after))

-- a line that a text begins with, put together
one_line : (rest line after : List ℕ) → Splits rest (line ∷ []) after → rest ≡ line ++ line_end ∷ after
one_line rest line after split = split.whole ∙ append_assoc line (line_end ∷ []) after

whole_unbroken : (stage : Stage) (rest : List ℕ) (P : Content → Type 0) → IsWhole stage rest P → HasNoLineEnd rest
whole_unbroken blank rest P h = absurd h
whole_unbroken (headed kind) rest P h = absurd h
whole_unbroken (begun content) rest P h = subst HasNoLineEnd (sym h.0) HasNoLineEnd-end_line
whole_unbroken (ended content) rest P h = subst HasNoLineEnd (sym h.0) (λ k d within. absurd (omega arith))

pub whole_stops : (stage : Stage) (rest : List ℕ) (P : Content → Type 0) → IsWhole stage rest P → Stops stage rest
whole_stops stage rest P h = λ line after fine unbroken. no_line_end rest line after (whole_unbroken stage rest P h)

pub next_stops : (stage : Stage) (rest : List ℕ) (part : Part) → NextFails stage rest part → Stops stage rest
next_stops stage rest part h = λ line after fine unbroken is.
    elim h [
      | inl long ↦
          (let same : first_line rest ≡ line = ap first_line is ∙ first_line-line line after unbroken in
          omega (arith, long.0, fine.fits, ap length same))
      | inr other ↦ elim other [
        | inl over ↦ fine.going over.0
        | inr next ↦
            (let same : next.line ≡ line =
            (line_once next.line line next.after after (next.split.unbroken 0 next.line (omega arith)) unbroken (sym (one_line rest next.line next.after next.split) ∙ is)).0 in
            fine.right part (subst (λ (l : List ℕ). Fails stage l part) same next.fails))
      ]
    ]

ends_stops : (verdict : Checked) (number : ℕ) (stage : Stage) (rest : List ℕ) → Ends verdict number stage rest → Stops stage rest
ends_stops Valid number stage rest h = whole_stops stage rest (λ content. ¬ IsCompleteContent content) h
ends_stops ValidComplete number stage rest h = whole_stops stage rest IsCompleteContent h
ends_stops (Invalid line part) number stage rest h = next_stops stage rest part h.1
ends_stops (Unfinished line) number stage rest h = λ next after fine unbroken. no_line_end rest next after h.1.0
ends_stops ReadFault number stage rest h = absurd h
ends_stops NoMemory number stage rest h = absurd h

-- a file of a content stops where it is whole
record IsWholeAt (text : List ℕ) (P : Content → Type 0) : Type 0 where
  place : StopsAt text
  whole : IsWhole place.stage place.rest P

file_whole : (text : List ℕ) (content : Content) (P : Content → Type 0) → IsFileOf content text → P content → IsWholeAt text P
file_whole text content P file h =
    elim file.lines [
      | inl cut ↦
          (let whole : IsWhole (begun content) end_line P = (refl, h) in
          record {
            place = record {
              lines = lines_of content;
              rest = end_line;
              stage = begun content;
              split = record { whole = cut; unbroken = lines_unbroken content file.right };
              says = (file.right, refl);
              stops = whole_stops (begun content) end_line P whole;
            };
            whole = whole;
          })
      | inr all ↦
          (let whole : IsWhole (ended content) [] P = (refl, h) in
          record {
            place = record {
              lines = lines_of content ++ end_line ∷ [];
              rest = [];
              stage = ended content;
              split = record {
                whole = all ∙ sym (append-nil (unlines (lines_of content ++ end_line ∷ [])));
                unbroken =
                    All-append HasNoLineEnd (lines_of content) (end_line ∷ []) (lines_unbroken content file.right)
                    (All-cons HasNoLineEnd end_line [] HasNoLineEnd-end_line (All-nil HasNoLineEnd));
              };
              says = (file.right, refl);
              stops = whole_stops (ended content) [] P whole;
            };
            whole = whole;
          })
    ]

-- the place at which a text has such a verdict
record EndsAt (text : List ℕ) (verdict : Checked) : Type 0 where
  place : StopsAt text
  ends : Ends verdict (length place.lines + 1) place.stage place.rest

-- right lines that come to an end stop there
ends_there : (text : List ℕ) (line : ℕ) (verdict : Checked) (P : Stage → List ℕ → Type 0) → (h : ComesTo text line P)
    → Ends verdict (length h.lines + 1) h.stage h.rest → EndsAt text verdict
ends_there text line verdict P h ends = record {
  place = record {
    lines = h.lines;
    rest = h.rest;
    stage = h.stage;
    split = h.split;
    says = h.says;
    stops = ends_stops verdict (length h.lines + 1) h.stage h.rest ends;
  };
  ends = ends;
}

ends_at : (text : List ℕ) (verdict : Checked) → IsOnText verdict → IsChecked text verdict → EndsAt text verdict
ends_at text Valid on h =
    let at : IsWholeAt text (λ content. ¬ IsCompleteContent content) = file_whole text h.0 (λ content. ¬ IsCompleteContent content) h.1 h.2 in
    record { place = at.place; ends = at.whole }
ends_at text ValidComplete on h =
    let at : IsWholeAt text IsCompleteContent = file_whole text h.0 IsCompleteContent h.1 h.2 in
    record { place = at.place; ends = at.whole }
ends_at text (Invalid line part) on h = ends_there text line (Invalid line part) (λ stage rest. NextFails stage rest part) h (h.number, h.next)
ends_at text (Unfinished line) on h = ends_there text line (Unfinished line) IsCut h (h.number, h.next)
ends_at text ReadFault on h = absurd on
ends_at text NoMemory on h = absurd on

-- ---- one place has one verdict

-- a file that is whole has one content
whole_both : (stage : Stage) (rest : List ℕ) (P Q : Content → Type 0) → IsWhole stage rest P → IsWhole stage rest Q
    → (content : Content) × P content × Q content
whole_both blank rest P Q h k = absurd h
whole_both (headed kind) rest P Q h k = absurd h
whole_both (begun content) rest P Q h k = (content, h.1, k.1)
whole_both (ended content) rest P Q h k = (content, h.1, k.1)

not_complete_and_not : (stage : Stage) (rest : List ℕ) → IsWhole stage rest (λ content. ¬ IsCompleteContent content) → ¬ IsWhole stage rest IsCompleteContent
not_complete_and_not stage rest h k =
    let both = whole_both stage rest (λ content. ¬ IsCompleteContent content) IsCompleteContent h k in
    both.1 both.2

whole_not_long : (stage : Stage) (rest : List ℕ) (P : Content → Type 0) → IsWhole stage rest P → ¬ (MAX_LINE < length (first_line rest))
whole_not_long blank rest P h long = h
whole_not_long (headed kind) rest P h long = h
whole_not_long (begun content) rest P h long = let short : length (first_line rest) ≡ 3 = ap (λ (t : List ℕ). length (first_line t)) h.0 in omega (arith, long, short)
whole_not_long (ended content) rest P h long = let short : length (first_line rest) ≡ 0 = ap (λ (t : List ℕ). length (first_line t)) h.0 in omega (arith, long, short)

whole_not_over : (stage : Stage) (rest : List ℕ) (P : Content → Type 0) → IsWhole stage rest P → HasEnded stage → ¬ (rest ≢ [])
whole_not_over blank rest P h over some = h
whole_not_over (headed kind) rest P h over some = h
whole_not_over (begun content) rest P h over some = over
whole_not_over (ended content) rest P h over some = some h.0

pub whole_not_next : (stage : Stage) (rest : List ℕ) (P : Content → Type 0) (part : Part) → IsWhole stage rest P → ¬ NextFails stage rest part
whole_not_next stage rest P part h k =
    elim k [
      | inl long ↦ whole_not_long stage rest P h long.0
      | inr other ↦ elim other [
        | inl over ↦ whole_not_over stage rest P h over.0 over.1
        | inr next ↦ no_line_end rest next.line next.after (whole_unbroken stage rest P h) (one_line rest next.line next.after next.split)
      ]
    ]

pub whole_not_cut : (stage : Stage) (rest : List ℕ) (P : Content → Type 0) → IsWhole stage rest P → ¬ IsCut stage rest
whole_not_cut blank rest P h cut = h
whole_not_cut (headed kind) rest P h cut = h
whole_not_cut (begun content) rest P h cut = cut.2 h.0
whole_not_cut (ended content) rest P h cut = cut.2

pub over_not_open : (stage : Stage) (rest : List ℕ) → HasEnded stage → ¬ LeavesOpen stage rest
over_not_open blank rest over leaves = over
over_not_open (headed kind) rest over leaves = over
over_not_open (begun content) rest over leaves = over
over_not_open (ended content) rest over leaves = leaves

next_not_cut : (stage : Stage) (rest : List ℕ) (part : Part) → NextFails stage rest part → ¬ IsCut stage rest
next_not_cut stage rest part h cut =
    elim h [
      | inl long ↦ omega (arith, long.0, cut.1, ap length (first_line-piece rest cut.0))
      | inr other ↦ elim other [
        | inl over ↦ over_not_open stage rest over.0 cut.2
        | inr next ↦ no_line_end rest next.line next.after cut.0 (one_line rest next.line next.after next.split)
      ]
    ]

-- a line that comes next isn't too long
next_not_long : (stage : Stage) (rest : List ℕ) (part : Part) → NextLineFails stage rest part → ¬ (MAX_LINE < length (first_line rest))
next_not_long stage rest part next long =
    let same : first_line rest ≡ next.line =
    ap first_line (one_line rest next.line next.after next.split) ∙ first_line-line next.line next.after (next.split.unbroken 0 next.line (omega arith)) in
    omega (arith, long, next.fits, ap length same)

-- after the end each line fails by its form
over_is_form : (lines : List (List ℕ)) (stage : Stage) (line : List ℕ) (part : Part) → Says lines stage → HasEnded stage → Fails stage line part → part ≡ Form
over_is_form lines blank line part says over h = absurd over
over_is_form lines (headed kind) line part says over h = absurd over
over_is_form lines (begun content) line part says over h = absurd over
over_is_form lines (ended content) line part says over h = fails_once lines (ended content) line part Form says h tt

next_line_once : (lines : List (List ℕ)) (stage : Stage) (rest : List ℕ) (one other : Part) → Says lines stage → NextLineFails stage rest one
    → NextLineFails stage rest other → one ≡ other
next_line_once lines stage rest one other says h k =
    let same : h.line ≡ k.line =
    (line_once h.line k.line h.after k.after (h.split.unbroken 0 h.line (omega arith)) (k.split.unbroken 0 k.line (omega arith))
    (sym (one_line rest h.line h.after h.split) ∙ one_line rest k.line k.after k.split)).0 in
    fails_once lines stage k.line one other says (subst (λ (l : List ℕ). Fails stage l one) same h.fails) k.fails

next_once : (lines : List (List ℕ)) (stage : Stage) (rest : List ℕ) (one other : Part) → Says lines stage → NextFails stage rest one
    → NextFails stage rest other → one ≡ other
next_once lines stage rest one other says h k =
    elim h [
      | inl long ↦ elim k [
        | inl also ↦ long.1 ∙ sym also.1
        | inr later ↦ elim later [ inl over ↦ long.1 ∙ sym over.2 | inr next ↦ absurd (next_not_long stage rest other next long.0) ]
      ]
      | inr past ↦ elim past [
        | inl over ↦ elim k [
          | inl long ↦ over.2 ∙ sym long.1
          | inr later ↦ elim later [
            | inl also ↦ over.2 ∙ sym also.2
            | inr next ↦ over.2 ∙ sym (over_is_form lines stage next.line other says over.0 next.fails)
          ]
        ]
        | inr next ↦ elim k [
          | inl long ↦ absurd (next_not_long stage rest one next long.0)
          | inr later ↦ elim later [
            | inl over ↦ over_is_form lines stage next.line one says over.0 next.fails ∙ sym over.2
            | inr also ↦ next_line_once lines stage rest one other says next also
          ]
        ]
      ]
    ]

ends_once : (one other : Checked) (number : ℕ) (lines : List (List ℕ)) (stage : Stage) (rest : List ℕ) → Says lines stage
    → Ends one number stage rest → Ends other number stage rest → one ≡ other
ends_once Valid Valid number lines stage rest says h k = refl
ends_once Valid ValidComplete number lines stage rest says h k = absurd (not_complete_and_not stage rest h k)
ends_once Valid (Invalid line part) number lines stage rest says h k =
    absurd (whole_not_next stage rest (λ content. ¬ IsCompleteContent content) part h k.1)
ends_once Valid (Unfinished line) number lines stage rest says h k =
    absurd (whole_not_cut stage rest (λ content. ¬ IsCompleteContent content) h k.1)
ends_once ValidComplete Valid number lines stage rest says h k = absurd (not_complete_and_not stage rest k h)
ends_once ValidComplete ValidComplete number lines stage rest says h k = refl
ends_once ValidComplete (Invalid line part) number lines stage rest says h k = absurd (whole_not_next stage rest IsCompleteContent part h k.1)
ends_once ValidComplete (Unfinished line) number lines stage rest says h k = absurd (whole_not_cut stage rest IsCompleteContent h k.1)
ends_once (Invalid line part) Valid number lines stage rest says h k =
    absurd (whole_not_next stage rest (λ content. ¬ IsCompleteContent content) part k h.1)
ends_once (Invalid line part) ValidComplete number lines stage rest says h k = absurd (whole_not_next stage rest IsCompleteContent part k h.1)
ends_once (Invalid line part) (Invalid other_line other_part) number lines stage rest says h k =
    ap₂ (λ (l : ℕ) (p : Part). Invalid l p) (h.0 ∙ sym k.0) (next_once lines stage rest part other_part says h.1 k.1)
ends_once (Invalid line part) (Unfinished other_line) number lines stage rest says h k = absurd (next_not_cut stage rest part h.1 k.1)
ends_once (Unfinished line) Valid number lines stage rest says h k =
    absurd (whole_not_cut stage rest (λ content. ¬ IsCompleteContent content) k h.1)
ends_once (Unfinished line) ValidComplete number lines stage rest says h k = absurd (whole_not_cut stage rest IsCompleteContent k h.1)
ends_once (Unfinished line) (Invalid other_line part) number lines stage rest says h k = absurd (next_not_cut stage rest part k.1 h.1)
ends_once (Unfinished line) (Unfinished other_line) number lines stage rest says h k = ap Unfinished (h.0 ∙ sym k.0)
ends_once ReadFault other number lines stage rest says h k = absurd h
ends_once NoMemory other number lines stage rest says h k = absurd h
ends_once one ReadFault number lines stage rest says h k = absurd k
ends_once one NoMemory number lines stage rest says h k = absurd k

-- ---- the laws

pub one_content_lem : OneContent
one_content_lem text one other h k =
    let a : IsWholeAt text (λ content. content ≡ one) = file_whole text one (λ content. content ≡ one) h refl in
    let b : IsWholeAt text (λ content. content ≡ other) = file_whole text other (λ content. content ≡ other) k refl in
    let same : AreSame text a.place b.place = stops_once text a.place b.place in
    let there : IsWhole b.place.stage b.place.rest (λ content. content ≡ one) =
    subst (λ (rest : List ℕ). IsWhole b.place.stage rest (λ content. content ≡ one)) same.rest
    (subst (λ (stage : Stage). IsWhole stage a.place.rest (λ content. content ≡ one)) same.stage a.whole) in
    let both = whole_both b.place.stage b.place.rest (λ content. content ≡ one) (λ content. content ≡ other) there b.whole in
    sym both.1 ∙ both.2

pub one_verdict_lem : OneVerdict
one_verdict_lem text one other on_one on_other h k =
    let a : EndsAt text one = ends_at text one on_one h in
    let b : EndsAt text other = ends_at text other on_other k in
    let same : AreSame text a.place b.place = stops_once text a.place b.place in
    let there : Ends one (length b.place.lines + 1) b.place.stage b.place.rest =
    subst (λ (rest : List ℕ). Ends one (length b.place.lines + 1) b.place.stage rest) same.rest
    (subst (λ (stage : Stage). Ends one (length b.place.lines + 1) stage a.place.rest) same.stage
    (subst (λ (lines : List (List ℕ)). Ends one (length lines + 1) a.place.stage a.place.rest) same.lines a.ends)) in
    ends_once one other (length b.place.lines + 1) b.place.lines b.place.stage b.place.rest b.place.says there b.ends
