-- The first wrong part of a line is one, and a line that is right has none.
use Rattle.std.proofs.Common.{◌≡◌, ◌≢◌, ◌⊎◌, ℕ, ◌<◌, ◌≤◌, false, nat_lt, ◌==◌, List, length, get_or, None, refl, sym, ap, subst, ◌∙◌, inl, inr, arith}
use Rattle.std.specs.List.{All}
use Rattle.std.proofs.lemmas.Bool.Decides.{nat_tests}
use Rattle.std.proofs.lemmas.List.Sums.{position_or_len_is}
use Rattle.criteria_model.specs.Criteria.{Criteria, IsModel}
use Rattle.criteria_model.specs.Classes.{IsClass}
use Rattle.criteria_model.specs.Counts.{class_count}
use Rattle.criteria_model.specs.Faults.{first_low, model_fault}
use Rattle.criteria_model.specs.Worth.{increments}
use Rattle.pair_enumeration.specs.Listed.{Listed, IsListed}
use Rattle.survey_core.specs.declared.events.Event.{Event}
use Rattle.survey_core.specs.declared.events.Event.TheVariants as events
use Rattle.survey_core.specs.Recorded.{Recorded}
use Rattle.survey_core.specs.Legal.{FailsFirst}
use Rattle.survey_core.proofs.PartLemmas.{first_flaw_once, proved_has_no_flaw, one_first_part_lem, allowed_lacks_none_lem}
use Rattle.survey_core.specs.declared.limits.TheConstants.{MAX_EVENTS}
use Rattle.result_file.specs.declared.limits.TheConstants.{MAX_LINE}
use Rattle.result_file.specs.declared.entries.Entry.{Entry}
use Rattle.result_file.specs.declared.entries.Format.{Format}
use Rattle.result_file.specs.declared.kinds.Kind.{Kind}
use Rattle.result_file.specs.declared.verdicts.Part.{Part}
use Rattle.result_file.specs.declared.verdicts.Part.TheVariants.{Form, Model, Limit, Class}
use Rattle.result_file.specs.Claims.{Claim, answered, eliminated, pair_of, answers_of}
use Rattle.result_file.specs.Contents.{Content, of_claims, of_events, criteria_of, IsRightContent}
use Rattle.result_file.specs.Checked.{Stage, blank, headed, begun, ended, Says, HasNoForm, HasWrongPart, Fails, HasEnded}
use Rattle.result_file.specs.Events.{as_entry, NamesClass, Tells}
use Rattle.result_file.specs.Forms.{HasModelForm}
use Rattle.result_file.specs.Parts.{part_of}
use Rattle.farkas_check.specs.declared.flaws.Flaw.{Flaw}
use Rattle.survey_core.specs.declared.broken.Broken.TheVariants as broken
use Rattle.result_file.specs.RightClaims.{IsRight, HasFlaw, FailsAs}
use Rattle.result_file.specs.RightEvents.{NamesNoClass, BreaksRule, EntryFailsAs}
use Rattle.result_file.specs.Texts.{heading, end_line, model_line}
use Rattle.result_file.proofs.LengthLaws.{model_form, model_line_fits, claim_line_fits, entry_line_fits}
use Rattle.result_file.proofs.SpelledLaws.{heading_fits, model_line_once, claim_line_once, claim_line-is_not_end, entry_line_once}
use Rattle.result_file.proofs.EntryLaws.{entry_line-is_not_end}
use Rattle.result_file.proofs.EventOnce.{names_a_class, names_class, event_once}
use Rattle.result_file.proofs.StepLaws.{Begins, AddsRightEvent, AddsRight, Steps}

-- ---- what a part that fails says

abbrev HasNoModel : List ℕ → Type 0
HasNoModel line = (criteria : Criteria) → HasModelForm criteria → line ≢ model_line criteria

abbrev HasFaultyModel : List ℕ → Type 0
HasFaultyModel line =
    (criteria : Criteria) × HasModelForm criteria × (line ≡ model_line criteria) × (model_fault criteria.levels criteria.degree ≢ None)

fails_blank : (line : List ℕ) (part : Part) → Fails blank line part → (part ≡ Form) × ((kind : Kind) → line ≢ heading kind)
fails_blank line Form h = (refl, h)
fails_blank line part h = absurd h

fails_headed : (kind : Kind) (line : List ℕ) (part : Part) → Fails (headed kind) line part
    → ((part ≡ Form) × HasNoModel line) ⊎ ((part ≡ Model) × HasFaultyModel line)
fails_headed kind line Form h = inl (refl, h)
fails_headed kind line Model h = inr (refl, h)
fails_headed kind line part h = absurd h

fails_begun : (content : Content) (line : List ℕ) (part : Part) → Fails (begun content) line part
    → ((part ≡ Form) × (line ≢ end_line) × HasNoForm content line) ⊎ HasWrongPart content line part
fails_begun content line Form h = inl (refl, h.0, h.1)
fails_begun content line part h = inr h

fails_ended : (content : Content) (line : List ℕ) (part : Part) → Fails (ended content) line part → part ≡ Form
fails_ended content line Form h = refl
fails_ended content line part h = absurd h

fails_claim : (criteria : Criteria) (before : List Claim) (claim : Claim) (part : Part) → FailsAs criteria before claim part
    → ((part ≡ Limit) × (MAX_EVENTS ≤ length before))
    ⊎ (((part ≡ Class) × (length before < MAX_EVENTS) × (¬ IsClass criteria (pair_of claim)))
    ⊎ ((length before < MAX_EVENTS) × IsClass criteria (pair_of claim) × HasFlaw criteria before claim part))
fails_claim criteria before claim Form h = absurd h
fails_claim criteria before claim Limit h = inl (refl, h)
fails_claim criteria before claim Class h = inr (inl (refl, h.0, h.1))
fails_claim criteria before claim part h = inr (inr h)

fails_entry : (survey : Recorded) (entry : Entry) (part : Part) → EntryFailsAs survey entry part
    → ((part ≡ Limit) × (MAX_EVENTS ≤ length survey.history))
    ⊎ (((part ≡ Class) × (length survey.history < MAX_EVENTS) × NamesNoClass survey.listed.criteria entry)
    ⊎ ((length survey.history < MAX_EVENTS) × BreaksRule survey entry part))
fails_entry survey entry Form h = absurd h
fails_entry survey entry Limit h = inl (refl, h)
fails_entry survey entry Class h = inr (inl (refl, h.0, h.1))
fails_entry survey entry part h = inr (inr h)

-- ---- a claim

flaw_once : (criteria : Criteria) (before : List Claim) (claim : Claim) (one other : Part) → HasFlaw criteria before claim one
    → HasFlaw criteria before claim other → one ≡ other
flaw_once criteria before (answered a) one other h k = absurd h
flaw_once criteria before (eliminated e) one other h k =
    h.1 ∙ ap (λ (flaw : Flaw). part_of (broken.Flaw flaw)) (first_flaw_once criteria.levels (answers_of before) e.combination e.pair e.verdict h.0 k.0 h.2 k.2) ∙ sym k.1

claim_fails_once : (criteria : Criteria) (before : List Claim) (claim : Claim) (one other : Part) → FailsAs criteria before claim one
    → FailsAs criteria before claim other → one ≡ other
claim_fails_once criteria before claim one other h k =
    elim (fails_claim criteria before claim one h) [
      | inl limit ↦ elim (fails_claim criteria before claim other k) [
        | inl also ↦ limit.0 ∙ sym also.0
        | inr later ↦ elim later [ inl class ↦ absurd (omega (arith, limit.1, class.1)) | inr flaw ↦ absurd (omega (arith, limit.1, flaw.0)) ]
      ]
      | inr past ↦ elim past [
        | inl class ↦ elim (fails_claim criteria before claim other k) [
          | inl limit ↦ absurd (omega (arith, limit.1, class.1))
          | inr later ↦ elim later [ inl also ↦ class.0 ∙ sym also.0 | inr flaw ↦ absurd (class.2 flaw.1) ]
        ]
        | inr flaw ↦ elim (fails_claim criteria before claim other k) [
          | inl limit ↦ absurd (omega (arith, limit.1, flaw.0))
          | inr later ↦ elim later [ inl class ↦ absurd (class.2 flaw.1) | inr also ↦ flaw_once criteria before claim one other flaw.2 also.2 ]
        ]
      ]
    ]

right_has_no_flaw : (criteria : Criteria) (before : List Claim) (claim : Claim) (part : Part) → IsRight criteria before claim
    → ¬ HasFlaw criteria before claim part
right_has_no_flaw criteria before (answered a) part right h = h
right_has_no_flaw criteria before (eliminated e) part right h =
    proved_has_no_flaw criteria.levels (answers_of before) e.combination e.pair e.verdict h.0 right.proof h.2

right_claim_holds : (criteria : Criteria) (before : List Claim) (claim : Claim) (part : Part) → IsRight criteria before claim
    → ¬ FailsAs criteria before claim part
right_claim_holds criteria before claim part right h =
    elim (fails_claim criteria before claim part h) [
      | inl limit ↦ omega (arith, limit.1, right.room)
      | inr past ↦ elim past [ inl class ↦ class.2 right.class | inr flaw ↦ right_has_no_flaw criteria before claim part right flaw.2 ]
    ]

-- ---- an entry

breaks_names : (survey : Recorded) (entry : Entry) (part : Part) → IsListed survey.listed → BreaksRule survey entry part
    → ¬ NamesNoClass survey.listed.criteria entry
breaks_names survey entry part list breaks none =
    names_a_class survey.listed breaks.event list breaks.tells.class
    (subst (λ (e : Entry). NamesNoClass survey.listed.criteria e) breaks.tells.told none)

tells_once : (listed : Listed) (entry : Entry) (one other : Event) → IsListed listed → Tells listed entry one → Tells listed entry other → one ≡ other
tells_once listed entry one other list h k = event_once listed one other list h.class k.class (sym h.told ∙ k.told)

breaks_once : (survey : Recorded) (entry : Entry) (one other : Part) → IsListed survey.listed → BreaksRule survey entry one
    → BreaksRule survey entry other → one ≡ other
breaks_once survey entry one other list h k =
    let same : h.event ≡ k.event = tells_once survey.listed entry h.event k.event list h.tells k.tells in
    let parts : h.broken ≡ k.broken =
    one_first_part_lem survey.listed survey.history k.event h.broken k.broken
    (subst (λ (event : Event). FailsFirst survey.listed survey.history event h.broken) same h.fails) k.fails in
    h.named ∙ ap part_of parts ∙ sym k.named

entry_fails_once : (survey : Recorded) (entry : Entry) (one other : Part) → IsListed survey.listed → EntryFailsAs survey entry one
    → EntryFailsAs survey entry other → one ≡ other
entry_fails_once survey entry one other list h k =
    elim (fails_entry survey entry one h) [
      | inl limit ↦ elim (fails_entry survey entry other k) [
        | inl also ↦ limit.0 ∙ sym also.0
        | inr later ↦ elim later [ inl class ↦ absurd (omega (arith, limit.1, class.1)) | inr breaks ↦ absurd (omega (arith, limit.1, breaks.0)) ]
      ]
      | inr past ↦ elim past [
        | inl class ↦ elim (fails_entry survey entry other k) [
          | inl limit ↦ absurd (omega (arith, limit.1, class.1))
          | inr later ↦ elim later [ inl also ↦ class.0 ∙ sym also.0 | inr breaks ↦ absurd (breaks_names survey entry other list breaks.1 class.2) ]
        ]
        | inr breaks ↦ elim (fails_entry survey entry other k) [
          | inl limit ↦ absurd (omega (arith, limit.1, breaks.0))
          | inr later ↦ elim later [
            | inl class ↦ absurd (breaks_names survey entry one list breaks.1 class.2)
            | inr also ↦ breaks_once survey entry one other list breaks.1 also.1
          ]
        ]
      ]
    ]

right_event_holds : (format : Format) (survey : Recorded) (line : List ℕ) (next : Content) (part : Part) → (adds : AddsRightEvent format survey line next)
    → ¬ EntryFailsAs survey (as_entry survey.listed.classes adds.event) part
right_event_holds format survey line next part adds h =
    let named : NamesClass survey.listed adds.event = names_class survey.listed survey.history adds.event adds.may in
    elim (fails_entry survey (as_entry survey.listed.classes adds.event) part h) [
      | inl limit ↦ omega (arith, limit.1, adds.room)
      | inr past ↦ elim past [
        | inl class ↦ names_a_class survey.listed adds.event adds.listed named class.2
        | inr breaks ↦
            (let told : Tells survey.listed (as_entry survey.listed.classes adds.event) adds.event = record { class = named; told = refl } in
            let same : breaks.1.event ≡ adds.event =
            tells_once survey.listed (as_entry survey.listed.classes adds.event) breaks.1.event adds.event adds.listed breaks.1.tells told in
            allowed_lacks_none_lem survey.listed survey.history adds.event breaks.1.broken adds.may
            (subst (λ (event : Event). FailsFirst survey.listed survey.history event breaks.1.broken) same breaks.1.fails))
      ]
    ]

-- ---- a model

not_less : (a b : ℕ) → b ≤ a → nat_lt a b ≡ false
not_less a b h = grind (arith, nat_tests)

not_empty : (n : ℕ) → 1 ≤ n → (n == 0) ≡ false
not_empty n h = grind (arith, nat_tests)

none_low : (levels : List ℕ) → All (λ n. 2 ≤ n) levels → first_low levels ≡ length levels
none_low levels h =
    position_or_len_is (λ n. nat_lt n 2) levels (length levels) 0 (omega arith) (λ k within. not_less (get_or levels k 0) 2 (h k 0 within)) (λ less. absurd (omega arith))

model_has_no_fault : (criteria : Criteria) → IsModel criteria → model_fault criteria.levels criteria.degree ≡ None
model_has_no_fault criteria m =
    let some = not_empty (length criteria.levels) m.some in
    let low = not_less (first_low criteria.levels) (length criteria.levels) (omega (arith, none_low criteria.levels m.two_levels)) in
    let few = not_less 24 (increments criteria.levels) m.few_increments in
    let from_one = not_less criteria.degree 1 m.degree_from_one in
    let within = not_less (length criteria.levels) criteria.degree m.degree_within in
    let classes = not_less 16384 (class_count criteria.levels criteria.degree) m.few_classes in
    rw (some, low, few, from_one, within, classes) refl

-- ---- a line that is right

-- it isn't too long, the file hasn't ended, and no part of it is wrong
pub record IsFine (stage : Stage) (line : List ℕ) : Type 0 where
  pub fits : length line ≤ MAX_LINE
  pub going : ¬ HasEnded stage
  pub right : (part : Part) → ¬ Fails stage line part

fine_heading : (line : List ℕ) (kind : Kind) → line ≡ heading kind → IsFine blank line
fine_heading line kind spelled = record {
  fits = subst (λ (l : List ℕ). length l ≤ MAX_LINE) (sym spelled) (heading_fits kind);
  going = λ over. over;
  right = λ part h. (fails_blank line part h).1 kind spelled;
}

pub content_model : (content : Content) → IsRightContent content → IsModel (criteria_of content)
content_model (of_claims criteria claims) h = h.model
content_model (of_events format survey) h = h.listed.model

fine_model : (kind : Kind) (line : List ℕ) (content : Content) → Begins kind line content → IsFine (headed kind) line
fine_model kind line content begins =
    let criteria : Criteria = criteria_of content in
    let m : IsModel criteria = content_model content begins.right in
    record {
      fits = subst (λ (l : List ℕ). length l ≤ MAX_LINE) (sym begins.spelled) (model_line_fits criteria m);
      going = λ over. over;
      right = λ part h. elim (fails_headed kind line part h) [
        | inl none ↦ none.1 criteria (model_form criteria m) begins.spelled
        | inr faulty ↦
            (let same : criteria ≡ faulty.1.0 =
            model_line_once criteria faulty.1.0 (model_form criteria m) faulty.1.1 (model_line_fits criteria m) (sym begins.spelled ∙ faulty.1.2) in
            faulty.1.3 (subst (λ (c : Criteria). model_fault c.levels c.degree ≡ None) same (model_has_no_fault criteria m)))
      ];
    }

-- the line of a right claim or event has a form, and no wrong part
adds_has_form : (content : Content) (line : List ℕ) (next : Content) → AddsRight content line next → ¬ HasNoForm content line
adds_has_form (of_claims criteria claims) line next adds none = none adds.claim adds.right.form adds.spelled
adds_has_form (of_events format survey) line next adds none = none (as_entry survey.listed.classes adds.event) adds.form adds.spelled

adds_holds : (content : Content) (line : List ℕ) (next : Content) (part : Part) → AddsRight content line next → ¬ HasWrongPart content line part
adds_holds (of_claims criteria claims) line next part adds wrong =
    let same : wrong.0 ≡ adds.claim =
    claim_line_once criteria wrong.0 adds.claim adds.model wrong.1 adds.right.form (sym wrong.2 ∙ adds.spelled) in
    right_claim_holds criteria claims adds.claim part adds.right (subst (λ (claim : Claim). FailsAs criteria claims claim part) same wrong.3)
adds_holds (of_events format survey) line next part adds wrong =
    let entry : Entry = as_entry survey.listed.classes adds.event in
    let same : wrong.0 ≡ entry =
    entry_line_once format survey.listed.criteria wrong.0 entry adds.listed.model wrong.1 adds.form (sym wrong.2 ∙ adds.spelled) in
    right_event_holds format survey line next part adds (subst (λ (e : Entry). EntryFailsAs survey e part) same wrong.3)

adds_fits : (content : Content) (line : List ℕ) (next : Content) → AddsRight content line next → length line ≤ MAX_LINE
adds_fits (of_claims criteria claims) line next adds =
    subst (λ (l : List ℕ). length l ≤ MAX_LINE) (sym adds.spelled) (claim_line_fits criteria adds.claim adds.model adds.right.form)
adds_fits (of_events format survey) line next adds =
    subst (λ (l : List ℕ). length l ≤ MAX_LINE) (sym adds.spelled)
    (entry_line_fits format survey.listed.criteria (as_entry survey.listed.classes adds.event) adds.listed.model adds.form)

fine_next : (content : Content) (line : List ℕ) (next : Content) → AddsRight content line next → IsFine (begun content) line
fine_next content line next adds = record {
  fits = adds_fits content line next adds;
  going = λ over. over;
  right = λ part h. elim (fails_begun content line part h) [
    | inl none ↦ adds_has_form content line next adds none.2
    | inr wrong ↦ adds_holds content line next part adds wrong
  ];
}

-- the end line has no wrong part of another line
end_holds : (content : Content) (line : List ℕ) (part : Part) → line ≡ end_line → ¬ HasWrongPart content line part
end_holds (of_claims criteria claims) line part is wrong = claim_line-is_not_end wrong.0 (sym wrong.2 ∙ is)
end_holds (of_events format survey) line part is wrong = entry_line-is_not_end wrong.0 (sym wrong.2 ∙ is)

fine_end : (content : Content) (line : List ℕ) → line ≡ end_line → IsFine (begun content) line
fine_end content line is = record {
  fits = subst (λ (l : List ℕ). length l ≤ MAX_LINE) (sym is) (omega arith);
  going = λ over. over;
  right = λ part h. elim (fails_begun content line part h) [ inl none ↦ none.1 is | inr wrong ↦ end_holds content line part is wrong ];
}

-- a line that takes a stage on is fine
pub step_fine : (stage : Stage) (line : List ℕ) (next : Stage) → Steps stage line next → IsFine stage line
step_fine blank line next h = fine_heading line h.0 h.1
step_fine (headed kind) line next h = fine_model kind line h.0 h.1
step_fine (begun content) line next h =
    elim h [ inl adds ↦ fine_next content line adds.0 adds.1 | inr over ↦ fine_end content line over.0 ]
step_fine (ended content) line next h = absurd h

-- ---- a line that fails

has_form_of_wrong : (content : Content) (line : List ℕ) (part : Part) → HasWrongPart content line part → ¬ HasNoForm content line
has_form_of_wrong (of_claims criteria claims) line part wrong none = none wrong.0 wrong.1 wrong.2
has_form_of_wrong (of_events format survey) line part wrong none = none wrong.0 wrong.1 wrong.2

wrong_once : (content : Content) (line : List ℕ) (one other : Part) → IsRightContent content → HasWrongPart content line one
    → HasWrongPart content line other → one ≡ other
wrong_once (of_claims criteria claims) line one other right h k =
    let same : h.0 ≡ k.0 = claim_line_once criteria h.0 k.0 right.model h.1 k.1 (sym h.2 ∙ k.2) in
    claim_fails_once criteria claims k.0 one other (subst (λ (claim : Claim). FailsAs criteria claims claim one) same h.3) k.3
wrong_once (of_events format survey) line one other right h k =
    let same : h.0 ≡ k.0 = entry_line_once format survey.listed.criteria h.0 k.0 right.listed.model h.1 k.1 (sym h.2 ∙ k.2) in
    entry_fails_once survey k.0 one other right.listed (subst (λ (entry : Entry). EntryFailsAs survey entry one) same h.3) k.3

-- the first wrong part of a line after a stage is one
pub fails_once : (lines : List (List ℕ)) (stage : Stage) (line : List ℕ) (one other : Part) → Says lines stage → Fails stage line one
    → Fails stage line other → one ≡ other
fails_once lines blank line one other says h k = (fails_blank line one h).0 ∙ sym (fails_blank line other k).0
fails_once lines (headed kind) line one other says h k =
    elim (fails_headed kind line one h) [
      | inl none ↦ elim (fails_headed kind line other k) [
        | inl also ↦ none.0 ∙ sym also.0
        | inr faulty ↦ absurd (none.1 faulty.1.0 faulty.1.1 faulty.1.2)
      ]
      | inr faulty ↦ elim (fails_headed kind line other k) [
        | inl none ↦ absurd (none.1 faulty.1.0 faulty.1.1 faulty.1.2)
        | inr also ↦ faulty.0 ∙ sym also.0
      ]
    ]
fails_once lines (begun content) line one other says h k =
    elim (fails_begun content line one h) [
      | inl none ↦ elim (fails_begun content line other k) [
        | inl also ↦ none.0 ∙ sym also.0
        | inr wrong ↦ absurd (has_form_of_wrong content line other wrong none.2)
      ]
      | inr wrong ↦ elim (fails_begun content line other k) [
        | inl none ↦ absurd (has_form_of_wrong content line one wrong none.2)
        | inr also ↦ wrong_once content line one other says.0 wrong also
      ]
    ]
fails_once lines (ended content) line one other says h k = fails_ended content line one h ∙ sym (fails_ended content line other k)
