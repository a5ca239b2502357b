-- Why a text has one result at its front, and isn't refused then.
use Rattle.std.specs.Prelude.{◌≡◌, ◌⊎◌, ℕ, ◌+◌, List, [], ◌∷◌, ◌++◌, length, Some}
use Rattle.std.proofs.Common.{refl, sym, ap, ap₂, subst, ◌∙◌, inl, inr, arith, append_assoc, append-nil}
use Rattle.std.specs.Io.KnownBytes.{prepend_known}
use Rattle.std.proofs.lemmas.List.Elements.{All-nil, All-cons, All-append}
use Rattle.edges.specs.Line.{HasNoLineEnd, line_end, unlines}
use Rattle.survey_core.specs.Recorded.{Recorded}
use Rattle.result_file.specs.declared.entries.Format.{Format}
use Rattle.result_file.specs.declared.kinds.Kind.TheVariants as kinds
use Rattle.result_file.specs.declared.verdicts.Checked.{Checked}
use Rattle.result_file.specs.declared.verdicts.Checked.TheVariants.{Valid, ValidComplete, Invalid, Unfinished, ReadFault, NoMemory}
use Rattle.result_file.specs.declared.verdicts.Part.{Part}
use Rattle.result_file.specs.Checked.{Stage, begun, ended, HasEnded, NextFails, ComesTo, IsCut, IsChecked}
use Rattle.result_file.specs.Contents.{Content, of_events, lines_of}
use Rattle.result_file.specs.Files.{file_text}
use Rattle.result_file.specs.Laws.{IsOnText}
use Rattle.result_file.specs.LoadLaws.{OneLoading, LoadsAsChecked}
use Rattle.result_file.specs.Loaded.{IsNoResult, IsAtFront}
use Rattle.result_file.specs.LoadedResults.{LoadedResult}
use Rattle.result_file.specs.Migrated.{BeginsClaims, IsResultFile}
use Rattle.result_file.specs.Texts.{heading, end_line}
use Rattle.result_file.proofs.CopyLemmas.{begins_result, no_result_refused}
use Rattle.result_file.proofs.LineEndLaws.{HasNoLineEnd-end_line}
use Rattle.result_file.proofs.OneVerdict.{StopsAt, AreSame, stops_once, IsWhole, no_line_end, next_stops, whole_stops, whole_not_next, whole_not_cut, over_not_open, lines_unbroken}

-- the right lines of a text stop behind the end line of a result, or before one without its line end, and then all is read
abbrev IsBehind : Content → List ℕ → Stage → List ℕ → Type 0
IsBehind content rest stage left = ((stage ≡ ended content) × (left ≡ rest)) ⊎ ((stage ≡ begun content) × (left ≡ end_line) × (rest ≡ []))

record FrontPlace (text rest : List ℕ) (skipped : ℕ) (file : LoadedResult) : Type 0 where
  format : Format
  place : StopsAt text
  behind : IsBehind (of_events format file.survey) rest place.stage place.rest
  others : List (List ℕ)
  first : place.lines ≡ heading (kinds.Result format) ∷ others
  lines : file.lines + skipped ≡ length (lines_of (of_events format file.survey)) + 1

-- all lines, and a rest
whole_place : (text rest : List ℕ) (skipped : ℕ) (file : LoadedResult) (h : IsAtFront (Some text) (Some rest) skipped file)
    → text ≡ file_text (of_events h.format file.survey) ++ rest → FrontPlace text rest skipped file
whole_place text rest skipped file h whole =
    let content : Content = of_events h.format file.survey in
    record {
      format = h.format;
      place = record {
        lines = lines_of content ++ end_line ∷ [];
        rest = rest;
        stage = ended content;
        split = record {
          whole = whole;
          unbroken =
              All-append HasNoLineEnd (lines_of content) (end_line ∷ []) (lines_unbroken content h.is_file.right)
              (All-cons HasNoLineEnd end_line [] HasNoLineEnd-end_line (All-nil HasNoLineEnd));
        };
        says = (h.is_file.right, refl);
        stops = λ line after fine unbroken is. fine.going tt;
      };
      behind = inl (refl, refl);
      others = _;
      first = refl;
      lines = h.lines;
    }

-- all lines, the last without its line end, and nothing more
cut_place : (text : List ℕ) (skipped : ℕ) (file : LoadedResult) (h : IsAtFront (Some text) (Some []) skipped file)
    → text ≡ unlines (lines_of (of_events h.format file.survey)) ++ end_line → FrontPlace text [] skipped file
cut_place text skipped file h whole =
    let content : Content = of_events h.format file.survey in
    record {
      format = h.format;
      place = record {
        lines = lines_of content;
        rest = end_line;
        stage = begun content;
        split = record { whole = whole; unbroken = lines_unbroken content h.is_file.right };
        says = (h.is_file.right, refl);
        stops = whole_stops (begun content) end_line (λ other. Unit {0}) (refl, tt);
      };
      behind = inr (refl, refl, refl);
      others = _;
      first = refl;
      lines = h.lines;
    }

front_place : (text rest : List ℕ) (skipped : ℕ) (file : LoadedResult) → IsAtFront (Some text) (Some rest) skipped file → FrontPlace text rest skipped file
front_place text rest skipped file h =
    let told : text ≡ h.taken ++ rest = told_whole text rest h.taken h.told in
    elim h.ends [
      | inl all ↦ whole_place text rest skipped file h (told ∙ ap (λ (front : List ℕ). front ++ rest) all)
      | inr none ↦ elim h.is_file.lines [
        | inl cut ↦
            subst (λ (left : List ℕ). FrontPlace text left skipped file) (sym none)
            (cut_place text skipped file (subst (λ (left : List ℕ). IsAtFront (Some text) (Some left) skipped file) none h)
            (told ∙ ap (λ (left : List ℕ). h.taken ++ left) none ∙ append-nil h.taken ∙ cut))
        | inr all ↦ whole_place text rest skipped file h (told ∙ ap (λ (front : List ℕ). front ++ rest) all)
      ]
    ]
  where
    told_whole : (text rest taken : List ℕ) → Some text ≡ prepend_known taken (Some rest) → text ≡ taken ++ rest
    told_whole text rest taken told = let same : Some text ≡ Some (taken ++ rest) = told in cc

no_claims : (text rest : List ℕ) (skipped : ℕ) (file : LoadedResult) → FrontPlace text rest skipped file → ¬ BeginsClaims text
no_claims text rest skipped file at =
    let top : List ℕ = heading (kinds.Result at.format) in
    let whole : text ≡ (top ++ line_end ∷ unlines at.others) ++ at.place.rest =
    at.place.split.whole ∙ ap (λ (lines : List (List ℕ)). unlines lines ++ at.place.rest) at.first in
    begins_result at.format (unlines at.others ++ at.place.rest) text (whole ∙ simp (append_assoc) refl)

not_stopped : (text rest : List ℕ) (skipped line : ℕ) (part : Part) (file : LoadedResult) → FrontPlace text rest skipped file
    → ¬ ComesTo text line (λ stage rest. (¬ HasEnded stage) × NextFails stage rest part)
not_stopped text rest skipped line part file at h =
    let there : StopsAt text =
    record { lines = h.lines; rest = h.rest; stage = h.stage; split = h.split; says = h.says; stops = next_stops h.stage h.rest part h.next.1 } in
    let same : AreSame text at.place there = stops_once text at.place there in
    elim at.behind [
      | inl behind ↦ h.next.0 (subst HasEnded (sym behind.0 ∙ same.stage) tt)
      | inr before ↦
          whole_not_next h.stage h.rest (λ other. Unit {0}) part
          (subst (λ (stage : Stage). IsWhole stage h.rest (λ other. Unit {0})) (sym before.0 ∙ same.stage) (sym same.rest ∙ before.1, tt)) h.next.1
    ]

not_cut : (text rest : List ℕ) (skipped line : ℕ) (file : LoadedResult) → FrontPlace text rest skipped file → ¬ ComesTo text line IsCut
not_cut text rest skipped line file at h =
    let there : StopsAt text =
    record { lines = h.lines; rest = h.rest; stage = h.stage; split = h.split; says = h.says; stops = λ next after fine unbroken. no_line_end h.rest next after h.next.0 } in
    let same : AreSame text at.place there = stops_once text at.place there in
    elim at.behind [
      | inl behind ↦ over_not_open h.stage h.rest (subst HasEnded (sym behind.0 ∙ same.stage) tt) h.next.2
      | inr before ↦
          whole_not_cut h.stage h.rest (λ other. Unit {0})
          (subst (λ (stage : Stage). IsWhole stage h.rest (λ other. Unit {0})) (sym before.0 ∙ same.stage) (sym same.rest ∙ before.1, tt)) h.next
    ]

not_refused : (text rest : List ℕ) (skipped : ℕ) (file : LoadedResult) (verdict : Checked) → IsAtFront (Some text) (Some rest) skipped file
    → IsOnText verdict → ¬ IsNoResult text verdict
not_refused text rest skipped file Valid h on refused = refused
not_refused text rest skipped file ValidComplete h on refused = refused
not_refused text rest skipped file (Invalid line part) h on refused =
    let at : FrontPlace text rest skipped file = front_place text rest skipped file h in
    not_stopped text rest skipped line part file at (refused.1 (no_claims text rest skipped file at))
not_refused text rest skipped file (Unfinished line) h on refused =
    not_cut text rest skipped line file (front_place text rest skipped file h) refused.1
not_refused text rest skipped file ReadFault h on refused = on
not_refused text rest skipped file NoMemory h on refused = on

same_survey : (one other : Format) (survey others : Recorded) → of_events one survey ≡ of_events other others → survey ≡ others
same_survey one other survey others same = cc

same_result : (one other : LoadedResult) → one.survey ≡ other.survey → one.lines ≡ other.lines → one ≡ other
same_result one other survey lines =
    ap₂ (λ (s : Recorded) (n : ℕ). let file : LoadedResult = record { survey = s; lines = n } in file) survey lines

ended_once : (one other : Content) → ended one ≡ ended other → one ≡ other
ended_once one other same = cc

begun_once : (one other : Content) → begun one ≡ begun other → one ≡ other
begun_once one other same = cc

not_both : (one other : Content) → ended one ≡ begun other → ⊥
not_both one other same = cc

by_content : (skipped : ℕ) (one other : LoadedResult) (f g : Format) → one.lines + skipped ≡ length (lines_of (of_events f one.survey)) + 1
    → other.lines + skipped ≡ length (lines_of (of_events g other.survey)) + 1 → of_events f one.survey ≡ of_events g other.survey → one ≡ other
by_content skipped one other f g lines others same =
    same_result one other (same_survey f g one.survey other.survey same)
    (omega (arith, lines, others, ap (λ (content : Content). length (lines_of content)) same))

one_result : (text one_rest other_rest : List ℕ) (skipped : ℕ) (one other : LoadedResult) → IsAtFront (Some text) (Some one_rest) skipped one
    → IsAtFront (Some text) (Some other_rest) skipped other → (one ≡ other) × (one_rest ≡ other_rest)
one_result text one_rest other_rest skipped one other h k =
    let at : FrontPlace text one_rest skipped one = front_place text one_rest skipped one h in
    let there : FrontPlace text other_rest skipped other = front_place text other_rest skipped other k in
    let same : AreSame text at.place there.place = stops_once text at.place there.place in
    let c : Content = of_events at.format one.survey in
    let d : Content = of_events there.format other.survey in
    elim at.behind [
      | inl ends ↦ elim there.behind [
        | inl also ↦ (
          by_content skipped one other at.format there.format at.lines there.lines (ended_once c d (sym ends.0 ∙ same.stage ∙ also.0)),
          sym ends.1 ∙ same.rest ∙ also.1,
        )
        | inr cut ↦ absurd (not_both c d (sym ends.0 ∙ same.stage ∙ cut.0))
      ]
      | inr cut ↦ elim there.behind [
        | inl ends ↦ absurd (not_both d c (sym ends.0 ∙ sym same.stage ∙ cut.0))
        | inr also ↦ (
          by_content skipped one other at.format there.format at.lines there.lines (begun_once c d (sym cut.0 ∙ same.stage ∙ also.0)),
          cut.2 ∙ sym also.2,
        )
      ]
    ]

pub one_loading_lem : OneLoading
one_loading_lem = record { one_result = one_result; not_refused = not_refused }

valid : (text : List ℕ) → IsResultFile text → (file : LoadedResult) × IsAtFront (Some text) (Some []) 0 file
valid text h = (
  record { survey = h.survey; lines = length (lines_of (of_events h.format h.survey)) + 1 },
  record {
    format = h.format;
    taken = text;
    is_file = h.file;
    told = ap Some (sym (append-nil text));
    ends = inr refl;
    lines = omega arith;
  },
)

refused : (text : List ℕ) (verdict : Checked) → IsNoResult text verdict → ¬ BeginsClaims text → IsChecked text verdict
refused text Valid h other = absurd h
refused text ValidComplete h other = absurd h
refused text (Invalid line part) h other = (no_result_refused (Some text) (Invalid line part) h).1 other
refused text (Unfinished line) h other = h.1
refused text ReadFault h other = tt
refused text NoMemory h other = tt

pub loads_as_checked_lem : LoadsAsChecked
loads_as_checked_lem = record { valid = valid; refused = refused }
