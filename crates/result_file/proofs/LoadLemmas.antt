-- Results that are read up to their end line.
use Rattle.std.specs.Prelude.{◌≡◌, ℕ, ◌+◌, ◌-◌, ◌≤◌, List, [], ◌∷◌, ◌++◌, length, Option, IfSome}
use Rattle.std.proofs.Common.{refl, sym, ap, ap₂, subst, ◌∙◌, inl, inr, arith, append-nil, length-append}
use Rattle.std.specs.Io.KnownBytes.{prepend_known}
use Rattle.std.proofs.lemmas.List.Elements.{All-nil, All-cons}
use Rattle.edges.specs.Faults.{CountsFaults}
use Rattle.edges.specs.Line.{HasNoLineEnd, line_end, unlines}
use Rattle.edges.proofs.ToldLemmas.{prepend_known-append}
use Rattle.survey_core.specs.Recorded.{Recorded}
use Rattle.result_file.specs.declared.bodies.Body.TheVariants as bodies
use Rattle.result_file.specs.declared.entries.Format.{Format}
use Rattle.result_file.specs.declared.kinds.Kind.TheVariants as kinds
use Rattle.result_file.specs.declared.loading.Loaded.{Loaded}
use Rattle.result_file.specs.declared.loading.Loaded.TheVariants.{File, Refused}
use Rattle.result_file.specs.declared.progress.Progress.{Progress}
use Rattle.result_file.specs.declared.progress.Progress.TheVariants as reached
use Rattle.result_file.specs.declared.verdicts.Checked.{Checked}
use Rattle.result_file.specs.declared.verdicts.Checked.TheVariants.{Valid, ValidComplete, Invalid, Unfinished, ReadFault, NoMemory}
use Rattle.result_file.specs.Checked.{Stage, blank, headed, begun, ended, Says}
use Rattle.result_file.specs.Contents.{Content, of_claims, of_events, lines_of}
use Rattle.result_file.specs.Kept.{KeptSurvey}
use Rattle.result_file.specs.Loaded.{IsNoResult, IsAtFront, counted_after, IsRefusedAfter, IsLoaded, EndsLoading}
use Rattle.result_file.specs.LoadedResults.{LoadedResult}
use Rattle.result_file.specs.Migrated.{IsAccepted}
use Rattle.result_file.specs.Progress.{IsAtStage, HasCome, ComesFurther, StopsThere, StopsAs, EndsWhole, EndsWithPiece, HasEndLine, IsSurveyOf}
use Rattle.result_file.specs.RightEvents.{AreEvents}
use Rattle.result_file.specs.Texts.{heading, end_line}
use Rattle.result_file.proofs.CopyLemmas.{begins_result, not_result}
use Rattle.result_file.proofs.LineEndLaws.{HasNoLineEnd-heading}
use Rattle.result_file.proofs.SpelledLaws.{heading_once}
use Rattle.result_file.proofs.VerdictLaws.{for_told, told_now}

-- right lines of a result have come, and not its end line
pub record HasComeIn (format : Format) (text now : Option (List ℕ)) (number : ℕ) (progress : Progress) : Type 0 where
  pub come : HasCome text now number progress
  pub rest : List (List ℕ)
  pub first : come.lines ≡ heading (kinds.Result format) ∷ rest
  pub early : ¬ HasEndLine progress

pub head_in : (format : Format) (first : Option (List ℕ))
    → HasComeIn format (prepend_known (heading (kinds.Result format) ++ line_end ∷ []) first) first 2 (reached.Headed (kinds.Result format))
head_in format first = record {
  come = record {
    lines = heading (kinds.Result format) ∷ [];
    stage = headed (kinds.Result format);
    unbroken = All-cons HasNoLineEnd (heading (kinds.Result format)) [] (HasNoLineEnd-heading (kinds.Result format)) (All-nil HasNoLineEnd);
    told = refl;
    says = refl;
    stands = refl;
    number = refl;
  };
  rest = [];
  first = refl;
  early = λ no. no;
}

pub next_in : (format : Format) (text before now : Option (List ℕ)) (number : ℕ) (progress next : Progress) (line : List ℕ)
    (h : HasComeIn format text before number progress) → ComesFurther h.come.lines line text now (number + 1) next → ¬ HasEndLine next
    → HasComeIn format text now (number + 1) next
next_in format text before now number progress next line h further early = record {
  come = further.come;
  rest = h.rest ++ line ∷ [];
  first = further.one_more ∙ ap (λ (lines : List (List ℕ)). lines ++ line ∷ []) h.first;
  early = early;
}

-- the lines so far are those of a survey, and then these
pub record IsResultSoFar (progress : Progress) (lines last : List (List ℕ)) : Type 0 where
  pub kept : KeptSurvey
  pub is : IsSurveyOf progress kept
  pub right : AreEvents kept.format kept.survey
  pub all : lines ≡ lines_of (of_events kept.format kept.survey) ++ last

no_claims_line : (format : Format) (rest others : List (List ℕ)) → heading (kinds.Result format) ∷ rest ≡ heading kinds.Claims ∷ others → ⊥
no_claims_line format rest others same =
    let first : heading (kinds.Result format) ≡ heading kinds.Claims = cc in
    let kind : kinds.Result format ≡ kinds.Claims = heading_once (kinds.Result format) kinds.Claims first in
    absurd cc

pub so_far_ended : (format : Format) (progress : Progress) (lines rest : List (List ℕ)) (stage : Stage) → lines ≡ heading (kinds.Result format) ∷ rest
    → HasEndLine progress → Says lines stage → IsAtStage progress stage → IsResultSoFar progress lines (end_line ∷ [])
so_far_ended format (reached.Ended (bodies.Survey kept)) lines rest (ended (of_events other survey)) first has says stands = record {
  kept = kept;
  is = refl;
  right = rw (stands.0, stands.1) says.0;
  all = says.1 ∙ ap (λ (content : Content). lines_of content ++ end_line ∷ []) (ap₂ of_events (sym stands.0) (sym stands.1));
}
so_far_ended format (reached.Ended (bodies.Survey kept)) lines rest (ended (of_claims criteria claims)) first has says stands = absurd stands
so_far_ended format (reached.Ended (bodies.Claims kept)) lines rest (ended (of_claims criteria claims)) first has says stands =
    absurd (no_claims_line format rest _ (sym first ∙ says.1))
so_far_ended format (reached.Ended (bodies.Claims kept)) lines rest (ended (of_events other survey)) first has says stands = absurd stands
so_far_ended format (reached.Ended body) lines rest blank first has says stands = absurd stands
so_far_ended format (reached.Ended body) lines rest (headed kind) first has says stands = absurd stands
so_far_ended format (reached.Ended body) lines rest (begun content) first has says stands = absurd stands
so_far_ended format (reached.Begun body) lines rest stage first has says stands = absurd has
so_far_ended format (reached.Headed kind) lines rest stage first has says stands = absurd has
so_far_ended format reached.Blank lines rest stage first has says stands = absurd has

-- the lines so far are those of a survey, and the piece after them is the end line
pub so_far_whole : (format : Format) (progress : Progress) (lines rest : List (List ℕ)) (stage : Stage) (piece : List ℕ) (verdict : Checked)
    → lines ≡ heading (kinds.Result format) ∷ rest → ¬ HasEndLine progress → Says lines stage → IsAtStage progress stage
    → EndsWhole stage piece verdict → IsResultSoFar progress lines [] × (piece ≡ end_line)
so_far_whole format (reached.Begun (bodies.Survey kept)) lines rest (begun (of_events other survey)) piece verdict first early says stands whole = (
  record {
    kept = kept;
    is = refl;
    right = rw (stands.0, stands.1) says.0;
    all = says.1 ∙ ap lines_of (ap₂ of_events (sym stands.0) (sym stands.1)) ∙ sym (append-nil (lines_of (of_events kept.format kept.survey)));
  },
  whole.0,
)
so_far_whole format (reached.Begun (bodies.Survey kept)) lines rest (begun (of_claims criteria claims)) piece verdict first early says stands whole = absurd stands
so_far_whole format (reached.Begun (bodies.Claims kept)) lines rest (begun (of_claims criteria claims)) piece verdict first early says stands whole =
    absurd (no_claims_line format rest _ (sym first ∙ says.1))
so_far_whole format (reached.Begun (bodies.Claims kept)) lines rest (begun (of_events other survey)) piece verdict first early says stands whole = absurd stands
so_far_whole format (reached.Begun body) lines rest blank piece verdict first early says stands whole = absurd stands
so_far_whole format (reached.Begun body) lines rest (headed kind) piece verdict first early says stands whole = absurd stands
so_far_whole format (reached.Begun body) lines rest (ended content) piece verdict first early says stands whole = absurd stands
so_far_whole format (reached.Ended body) lines rest stage piece verdict first early says stands whole = absurd (early tt)
so_far_whole format (reached.Headed kind) lines rest blank piece verdict first early says stands whole = absurd stands
so_far_whole format (reached.Headed kind) lines rest (headed other) piece verdict first early says stands whole = absurd whole
so_far_whole format (reached.Headed kind) lines rest (begun content) piece verdict first early says stands whole = absurd stands
so_far_whole format (reached.Headed kind) lines rest (ended content) piece verdict first early says stands whole = absurd stands
so_far_whole format reached.Blank lines rest blank piece verdict first early says stands whole = absurd whole
so_far_whole format reached.Blank lines rest (headed kind) piece verdict first early says stands whole = absurd stands
so_far_whole format reached.Blank lines rest (begun content) piece verdict first early says stands whole = absurd stands
so_far_whole format reached.Blank lines rest (ended content) piece verdict first early says stands whole = absurd stands

-- the end line came, with its line end
module _ (format : Format) (text before now : Option (List ℕ)) (number : ℕ) (progress next : Progress) (line : List ℕ)
    (h : HasComeIn format text before number progress) (further : ComesFurther h.come.lines line text now (number + 1) next) (has : HasEndLine next) where
  pub ended_so_far : IsResultSoFar next further.come.lines (end_line ∷ [])
  ended_so_far =
      so_far_ended format next further.come.lines (h.rest ++ line ∷ []) further.come.stage
      (further.one_more ∙ ap (λ (lines : List (List ℕ)). lines ++ line ∷ []) h.first) has further.come.says further.come.stands

  pub ended_survey : (survey : KeptSurvey) × IsSurveyOf next survey
  ended_survey = (ended_so_far.kept, ended_so_far.is)

  pub ended_at_front : (skipped : ℕ) (file : LoadedResult) → skipped ≤ 1 → file.lines ≡ number - skipped
      → ((survey : KeptSurvey) → IsSurveyOf next survey → file.survey ≡ survey.survey) → IsAtFront text now skipped file
  ended_at_front skipped file few lines same =
      let so_far : IsResultSoFar next further.come.lines (end_line ∷ []) = ended_so_far in
      let survey : file.survey ≡ so_far.kept.survey = same so_far.kept so_far.is in
      let content : Content = of_events so_far.kept.format so_far.kept.survey in
      subst (λ (s : Recorded). IsAtFront text now skipped (record { survey = s; lines = file.lines })) (sym survey)
      (record {
        format = so_far.kept.format;
        taken = unlines further.come.lines;
        is_file = record { right = so_far.right; lines = inr (ap unlines so_far.all) };
        told = further.come.told;
        ends = inl (ap unlines so_far.all);
        lines = omega (arith, lines, few, further.come.number, ap (λ (l : List (List ℕ)). length l) so_far.all, length-append (lines_of content) (end_line ∷ []));
      })

-- the end line came without its line end, at the end of input
module _ (format : Format) (text before now left : Option (List ℕ)) (number : ℕ) (progress next : Progress) (piece : List ℕ) (verdict : Checked)
    (h : HasComeIn format text before number progress) (e : EndsWithPiece progress next verdict piece before now left) where
  pub whole_so_far : IsResultSoFar progress h.come.lines [] × (piece ≡ end_line)
  whole_so_far =
      so_far_whole format progress h.come.lines h.rest h.come.stage piece verdict h.first h.early h.come.says h.come.stands
      (e.whole h.come.stage h.come.stands)

  pub whole_survey : (survey : KeptSurvey) × IsSurveyOf next survey
  whole_survey = subst (λ (p : Progress). (survey : KeptSurvey) × IsSurveyOf p survey) (sym e.same) (whole_so_far.0.kept, whole_so_far.0.is)

  pub whole_at_front : (skipped : ℕ) (file : LoadedResult) → skipped ≤ 1 → file.lines ≡ number - skipped
      → ((survey : KeptSurvey) → IsSurveyOf next survey → file.survey ≡ survey.survey) → IsAtFront text now skipped file
  whole_at_front skipped file few lines same =
      let so_far : IsResultSoFar progress h.come.lines [] = whole_so_far.0 in
      let survey : file.survey ≡ so_far.kept.survey =
      same so_far.kept (subst (λ (p : Progress). IsSurveyOf p so_far.kept) (sym e.same) so_far.is) in
      let content : Content = of_events so_far.kept.format so_far.kept.survey in
      let all : h.come.lines ≡ lines_of content = so_far.all ∙ append-nil (lines_of content) in
      subst (λ (s : Recorded). IsAtFront text now skipped (record { survey = s; lines = file.lines })) (sym survey)
      (record {
        format = so_far.kept.format;
        taken = unlines h.come.lines ++ piece;
        is_file = record {
          right = so_far.right;
          lines = inl (ap (λ (l : List (List ℕ)). unlines l ++ piece) all ∙ ap (λ (p : List ℕ). unlines (lines_of content) ++ p) whole_so_far.1);
        };
        told = h.come.told ∙ ap (prepend_known (unlines h.come.lines)) e.told ∙ sym (prepend_known-append (unlines h.come.lines) piece now);
        ends = inr e.none_ahead;
        lines = omega (arith, lines, few, h.come.number, ap (λ (l : List (List ℕ)). length l) all);
      })

-- the check stops before the end line
stopped_after : (format : Format) (text first : Option (List ℕ)) (number lines skipped : ℕ) (progress : Progress) (verdict : Checked)
    → text ≡ prepend_known (heading (kinds.Result format) ++ line_end ∷ []) first → ¬ HasEndLine progress → ¬ IsAccepted verdict
    → StopsThere progress number text verdict → IsRefusedAfter text lines skipped (counted_after lines skipped verdict)
stopped_after format text first number lines skipped progress verdict told early other there = record {
  own = verdict;
  refuses = other;
  counted = refl;
  no_result =
      for_told text (λ bytes. IsNoResult bytes verdict) (λ bytes is.
      let t = told_now text first (heading (kinds.Result format) ++ line_end ∷ []) bytes told is in
      not_result progress bytes verdict early other (begins_result format t.0 bytes t.2)
      (subst (λ (o : Option (List ℕ)). IfSome o (λ b. StopsAs progress b verdict)) is there.stops));
}

-- ---- faults

counts_fault : (lines skipped : ℕ) (verdict : Checked) → counted_after lines skipped verdict ≡ ReadFault → verdict ≡ ReadFault
counts_fault lines skipped Valid is = is
counts_fault lines skipped ValidComplete is = is
counts_fault lines skipped (Invalid line part) is = absurd cc
counts_fault lines skipped (Unfinished line) is = absurd cc
counts_fault lines skipped ReadFault is = refl
counts_fault lines skipped NoMemory is = is

fault_counted : (lines skipped : ℕ) (verdict : Checked) → verdict ≡ ReadFault → counted_after lines skipped verdict ≡ ReadFault
fault_counted lines skipped verdict is = ap (counted_after lines skipped) is

same_refusal : (one other : Checked) → Refused one ≡ Refused other → one ≡ other
same_refusal one other is = cc

no_fault : (verdict : Checked) → IsAccepted verdict → verdict ≡ ReadFault → ⊥
no_fault verdict accepted is = subst IsAccepted is accepted

pub ending_faults : (next : Progress) (lines skipped number before now : ℕ) (verdict : Checked) (loaded : Loaded)
    → EndsLoading next lines skipped number verdict loaded → CountsFaults (verdict ≡ ReadFault) before now
    → CountsFaults (loaded ≡ Refused ReadFault) before now
ending_faults next lines skipped number before now verdict (File file) e faults = record {
  rises = λ is. absurd cc;
  stays = λ other. faults.stays (no_fault verdict e.0);
}
ending_faults next lines skipped number before now verdict (Refused given) e faults = record {
  rises = λ refused. faults.rises (counts_fault lines skipped verdict (sym e.1 ∙ same_refusal given ReadFault refused));
  stays = λ other. faults.stays (λ fault. other (ap Refused (e.1 ∙ fault_counted lines skipped verdict fault)));
}

-- ---- what was read, at the end of input or where the check stops

pub ending_loaded : (format : Format) (text first before now left : Option (List ℕ)) (number lines skipped : ℕ) (progress next : Progress)
    (piece : List ℕ) (verdict : Checked) (loaded : Loaded) → text ≡ prepend_known (heading (kinds.Result format) ++ line_end ∷ []) first
    → skipped ≤ 1 → HasComeIn format text before number progress → StopsThere progress number text verdict
    → (IsAccepted verdict → EndsWithPiece progress next verdict piece before now left) → EndsLoading next lines skipped number verdict loaded
    → IsLoaded text now lines skipped loaded
ending_loaded format text first before now left number lines skipped progress next piece verdict (File file) told few h there ends e =
    whole_at_front format text before now left number progress next piece verdict h (ends e.0) skipped file few e.1 e.2
ending_loaded format text first before now left number lines skipped progress next piece verdict (Refused given) told few h there ends e =
    subst (λ (v : Checked). IsRefusedAfter text lines skipped v) (sym e.1)
    (stopped_after format text first number lines skipped progress verdict told h.early e.0 there)
