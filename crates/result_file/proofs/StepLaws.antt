-- How far a file has come, line by line: each stage is one line more than another.
use Rattle.std.proofs.Common.{◌≡◌, ◌≢◌, ◌⊎◌, ℕ, zero, suc, ◌<◌, List, [], ◌∷◌, ◌++◌, length, map, refl, sym, ap, ap₂, subst, ◌∙◌, inl, inr, arith, append_assoc, append-nil, length-append}
use Rattle.std.specs.List.{All}
use Rattle.std.proofs.Math.Seq.{take-append_seam}
use Rattle.std.proofs.lemmas.List.{map_push}
use Rattle.std.proofs.Math.ListN.{get_or-append}
use Rattle.std.proofs.Math.Seq.{get_or-append_seam}
use Rattle.criteria_model.specs.Criteria.{Criteria, IsModel}
use Rattle.pair_enumeration.specs.Listed.{Listed, IsListed}
use Rattle.pair_enumeration.proofs.OneList.{one_listed}
use Rattle.survey_core.specs.declared.events.Event.{Event}
use Rattle.survey_core.specs.Legal.{MayFollow, IsLegal}
use Rattle.survey_core.specs.Recorded.{Recorded}
use Rattle.survey_core.proofs.ListSteps.{slice_get-last}
use Rattle.survey_core.proofs.FollowLemmas.{legal_front}
use Rattle.survey_core.proofs.ShortLemmas.{legal_is_short_lem}
use Rattle.survey_core.specs.declared.limits.TheConstants.{MAX_EVENTS}
use Rattle.result_file.specs.declared.entries.Format.{Format}
use Rattle.result_file.specs.declared.kinds.Kind.{Kind}
use Rattle.result_file.specs.declared.kinds.Kind.TheVariants as kinds
use Rattle.result_file.specs.Claims.{Claim}
use Rattle.result_file.specs.Contents.{Content, of_claims, of_events, kind_of, criteria_of, body_of, lines_of, IsRightContent}
use Rattle.result_file.specs.Checked.{Stage, blank, headed, begun, ended, Says}
use Rattle.result_file.specs.Entries.{HasEntryForm}
use Rattle.result_file.specs.Events.{as_entry, event_line}
use Rattle.result_file.specs.RightClaims.{IsRight, AreClaims}
use Rattle.result_file.specs.RightEvents.{AreEvents}
use Rattle.result_file.specs.Texts.{heading, end_line, model_line, claim_line}
use Rattle.result_file.proofs.ListEnds.{snoc_once, snoc_cases}
use Rattle.result_file.proofs.SpelledLaws.{heading_once, model_line_once, claim_line_once, claim_line-is_not_end, entry_line_once}
use Rattle.result_file.proofs.LengthLaws.{model_form, model_line_fits}
use Rattle.result_file.proofs.EntryLaws.{entry_line-is_not_end}
use Rattle.result_file.proofs.EventOnce.{names_class, event_once}

-- ---- one line more

-- the line begins this content, which has no other yet
pub record Begins (kind : Kind) (line : List ℕ) (content : Content) : Type 0 where
  pub right : IsRightContent content
  pub same_kind : kind_of content ≡ kind
  pub empty : body_of content ≡ []
  pub spelled : line ≡ model_line (criteria_of content)

-- the line is a claim that is right after these
pub record AddsRightClaim (criteria : Criteria) (claims : List Claim) (line : List ℕ) (next : Content) : Type 0 where
  pub claim : Claim
  pub model : IsModel criteria
  pub right : IsRight criteria claims claim
  pub spelled : line ≡ claim_line claim
  pub is : next ≡ of_claims criteria (claims ++ claim ∷ [])

-- the line is that of an event that may follow these
pub record AddsRightEvent (format : Format) (survey : Recorded) (line : List ℕ) (next : Content) : Type 0 where
  pub event : Event
  pub listed : IsListed survey.listed
  pub may : MayFollow survey.listed survey.history event
  pub form : HasEntryForm format survey.listed.criteria (as_entry survey.listed.classes event)
  pub room : length survey.history < MAX_EVENTS
  pub spelled : line ≡ event_line survey.listed.classes event
  pub is : next ≡ of_events format (record { listed = survey.listed; history = survey.history ++ event ∷ [] })

abbrev pub AddsRight : Content → List ℕ → Content → Type 0
AddsRight (of_claims criteria claims) line next = AddsRightClaim criteria claims line next
AddsRight (of_events format survey) line next = AddsRightEvent format survey line next

-- the line takes one stage to the next
abbrev pub Steps : Stage → List ℕ → Stage → Type 0
Steps blank line next = (kind : Kind) × (line ≡ heading kind) × (next ≡ headed kind)
Steps (headed kind) line next = (content : Content) × Begins kind line content × (next ≡ begun content)
Steps (begun content) line next =
    ((more : Content) × AddsRight content line more × (next ≡ begun more)) ⊎ ((line ≡ end_line) × (next ≡ ended content))
Steps (ended content) line next = ⊥

-- ---- a line takes a stage to one next stage

no_lines : {X : Type 0} (f : X → List ℕ) (xs : List X) → map f xs ≡ [] → xs ≡ []
no_lines f [] none = refl
no_lines f (x ∷ xs) none = absurd cc

same_claims : (one other : Criteria) (claims others : List Claim) → one ≡ other → claims ≡ others → of_claims one claims ≡ of_claims other others
same_claims one other claims others p q = ap₂ of_claims p q

same_events : (one other : Format) (survey survey' : Recorded) → one ≡ other → survey ≡ survey' → of_events one survey ≡ of_events other survey'
same_events one other survey survey' p q = ap₂ of_events p q

same_survey : (one other : Recorded) → one.listed ≡ other.listed → one.history ≡ other.history → one ≡ other
same_survey one other p q =
    ap₂ (λ (listed : Listed) (history : List Event). let survey : Recorded = record { listed = listed; history = history } in survey) p q

same_model : (one other : Criteria) (line : List ℕ) → IsModel one → IsModel other → line ≡ model_line one → line ≡ model_line other → one ≡ other
same_model one other line m n p q = model_line_once one other (model_form one m) (model_form other n) (model_line_fits one m) (sym p ∙ q)

begins_once : (kind : Kind) (line : List ℕ) (one other : Content) → Begins kind line one → Begins kind line other → one ≡ other
begins_once kind line (of_claims c cs) (of_claims d ds) h k =
    same_claims c d cs ds (same_model c d line h.right.model k.right.model h.spelled k.spelled)
    (no_lines claim_line cs h.empty ∙ sym (no_lines claim_line ds k.empty))
begins_once kind line (of_claims c cs) (of_events g t) h k = let both : kinds.Claims ≡ kinds.Result g = h.same_kind ∙ sym k.same_kind in absurd cc
begins_once kind line (of_events f s) (of_claims d ds) h k = let both : kinds.Result f ≡ kinds.Claims = h.same_kind ∙ sym k.same_kind in absurd cc
begins_once kind line (of_events f s) (of_events g t) h k =
    let both : kinds.Result f ≡ kinds.Result g = h.same_kind ∙ sym k.same_kind in
    let formats : f ≡ g = cc in
    let models : s.listed.criteria ≡ t.listed.criteria =
    same_model s.listed.criteria t.listed.criteria line h.right.listed.model k.right.listed.model h.spelled k.spelled in
    let lists : s.listed ≡ t.listed = one_listed s.listed t.listed h.right.listed k.right.listed models in
    same_events f g s t formats
    (same_survey s t lists (no_lines (event_line s.listed.classes) s.history h.empty ∙ sym (no_lines (event_line t.listed.classes) t.history k.empty)))

adds_once : (content : Content) (line : List ℕ) (one other : Content) → AddsRight content line one → AddsRight content line other → one ≡ other
adds_once (of_claims criteria claims) line one other h k =
    let same : h.claim ≡ k.claim =
    claim_line_once criteria h.claim k.claim h.model h.right.form k.right.form (sym h.spelled ∙ k.spelled) in
    h.is ∙ ap (λ (claim : Claim). of_claims criteria (claims ++ claim ∷ [])) same ∙ sym k.is
adds_once (of_events format survey) line one other h k =
    let listed : Listed = survey.listed in
    let entries : as_entry listed.classes h.event ≡ as_entry listed.classes k.event =
    entry_line_once format listed.criteria (as_entry listed.classes h.event) (as_entry listed.classes k.event) h.listed.model h.form k.form (sym h.spelled ∙ k.spelled) in
    let same : h.event ≡ k.event =
    event_once listed h.event k.event h.listed (names_class listed survey.history h.event h.may) (names_class listed survey.history k.event k.may) entries in
    h.is ∙ ap (λ (event : Event). of_events format (record { listed = listed; history = survey.history ++ event ∷ [] })) same ∙ sym k.is

pub adds_no_end : (content : Content) (line : List ℕ) (next : Content) → AddsRight content line next → line ≢ end_line
adds_no_end (of_claims criteria claims) line next h same = claim_line-is_not_end h.claim (sym h.spelled ∙ same)
adds_no_end (of_events format survey) line next h same =
    entry_line-is_not_end (as_entry survey.listed.classes h.event) (sym h.spelled ∙ same)

pub steps_once : (stage : Stage) (line : List ℕ) (one other : Stage) → Steps stage line one → Steps stage line other → one ≡ other
steps_once blank line one other h k = h.2 ∙ ap headed (heading_once h.0 k.0 (sym h.1 ∙ k.1)) ∙ sym k.2
steps_once (headed kind) line one other h k = h.2 ∙ ap begun (begins_once kind line h.0 k.0 h.1 k.1) ∙ sym k.2
steps_once (begun content) line one other h k =
    elim h [
      | inl adds ↦ elim k [
        | inl also ↦ adds.2 ∙ ap begun (adds_once content line adds.0 also.0 adds.1 also.1) ∙ sym also.2
        | inr ends ↦ absurd (adds_no_end content line adds.0 adds.1 ends.0)
      ]
      | inr ends ↦ elim k [
        | inl adds ↦ absurd (adds_no_end content line adds.0 adds.1 ends.0)
        | inr also ↦ ends.1 ∙ sym also.1
      ]
    ]
steps_once (ended content) line one other h k = absurd h

-- ---- the last line of a stage

-- all but the last claim
front_claims : (criteria : Criteria) (before : List Claim) (claim : Claim) → AreClaims criteria (before ++ claim ∷ []) → AreClaims criteria before
front_claims criteria before claim h = record {
  model = h.model;
  each = λ first one after e. h.each first one (after ++ claim ∷ [])
      (ap (λ (claims : List Claim). claims ++ claim ∷ []) e ∙ append_assoc first (one ∷ after) (claim ∷ []));
}

front_holds : {X : Type 0} (P : X → Type 0) (xs : List X) (x : X) → All P (xs ++ x ∷ []) → All P xs
front_holds P xs x h =
    λ k d within.
    subst P (get_or-append xs (x ∷ []) d k within) (h k d (omega (arith, within, length-append xs (x ∷ []))))

last_holds : {X : Type 0} (P : X → Type 0) (xs : List X) (x : X) → All P (xs ++ x ∷ []) → P x
last_holds P xs x h =
    subst P (get_or-append_seam xs x [] x) (h (length xs) x (omega (arith, length-append xs (x ∷ []))))

last_legal : (listed : Listed) (before : List Event) (event : Event) → IsLegal listed (before ++ event ∷ []) → MayFollow listed before event
last_legal listed before event legal =
    let here = legal (length before) event (slice_get-last before event) in
    subst (λ (events : List Event). MayFollow listed events event) (take-append_seam before (event ∷ [])) here.1

abbrev without_last : Recorded → List Event → Recorded
without_last survey before = record { listed = survey.listed; history = before }

front_events : (format : Format) (survey : Recorded) (before : List Event) (event : Event) → survey.history ≡ before ++ event ∷ [] → AreEvents format survey
    → AreEvents format (without_last survey before)
front_events format survey before event whole h =
    let P : Event → Type 0 = λ e. HasEntryForm format survey.listed.criteria (as_entry survey.listed.classes e) in
    record {
      listed = h.listed;
      legal = legal_front survey.listed before (event ∷ []) (subst (λ (events : List Event). IsLegal survey.listed events) whole h.legal);
      forms = front_holds P before event (subst (λ (events : List Event). All P events) whole h.forms);
    }

adds_last : (format : Format) (survey : Recorded) (before : List Event) (event : Event) → survey.history ≡ before ++ event ∷ [] → AreEvents format survey
    → AddsRightEvent format (without_last survey before) (event_line survey.listed.classes event) (of_events format survey)
adds_last format survey before event whole h =
    let P : Event → Type 0 = λ e. HasEntryForm format survey.listed.criteria (as_entry survey.listed.classes e) in
    record {
      event = event;
      listed = h.listed;
      may = last_legal survey.listed before event (subst (λ (events : List Event). IsLegal survey.listed events) whole h.legal);
      form = last_holds P before event (subst (λ (events : List Event). All P events) whole h.forms);
      room = omega (arith, legal_is_short_lem survey.listed survey.history h.listed h.legal, ap length whole, length-append before (event ∷ []));
      spelled = refl;
      is = ap (of_events format) (same_survey survey (record { listed = survey.listed; history = before ++ event ∷ [] }) refl whole);
    }

-- a content without the last line of its body
pub record HasLast (content : Content) : Type 0 where
  pub before : Content
  pub line : List ℕ
  pub right : IsRightContent before
  pub adds : AddsRight before line content
  pub lines : lines_of content ≡ lines_of before ++ line ∷ []

pub lines_push : (kind : Kind) (criteria : Criteria) (body others : List (List ℕ)) (line : List ℕ) → body ≡ others ++ line ∷ []
    → heading kind ∷ model_line criteria ∷ body ≡ (heading kind ∷ model_line criteria ∷ others) ++ line ∷ []
lines_push kind criteria body others line e = ap (λ (rest : List (List ℕ)). heading kind ∷ model_line criteria ∷ rest) e

pub last_or_none : (content : Content) → IsRightContent content → (body_of content ≡ []) ⊎ HasLast content
last_or_none (of_claims criteria claims) h =
    elim (snoc_cases claims) [
      | inl none ↦ inl (ap (map claim_line) none)
      | inr some ↦
          (let right : AreClaims criteria (some.0 ++ some.1 ∷ []) = subst (AreClaims criteria) some.2 h in
          inr (record {
            before = of_claims criteria some.0;
            line = claim_line some.1;
            right = front_claims criteria some.0 some.1 right;
            adds = record {
              claim = some.1;
              model = h.model;
              right = right.each some.0 some.1 [] refl;
              spelled = refl;
              is = ap (of_claims criteria) some.2;
            };
            lines =
                lines_push kinds.Claims criteria (map claim_line claims) (map claim_line some.0) (claim_line some.1)
                (ap (map claim_line) some.2 ∙ map_push claim_line some.0 some.1);
          }))
    ]
last_or_none (of_events format survey) h =
    elim (snoc_cases survey.history) [
      | inl none ↦ inl (ap (map (event_line survey.listed.classes)) none)
      | inr some ↦
          (let line : Event → List ℕ = event_line survey.listed.classes in
          inr (record {
            before = of_events format (without_last survey some.0);
            line = line some.1;
            right = front_events format survey some.0 some.1 some.2 h;
            adds = adds_last format survey some.0 some.1 some.2 h;
            lines =
                lines_push (kinds.Result format) survey.listed.criteria (map line survey.history) (map line some.0) (line some.1)
                (ap (map line) some.2 ∙ map_push line some.0 some.1);
          }))
    ]

pub empty_lines : (content : Content) → body_of content ≡ [] → lines_of content ≡ (heading (kind_of content) ∷ []) ++ model_line (criteria_of content) ∷ []
empty_lines content empty = ap (λ (rest : List (List ℕ)). heading (kind_of content) ∷ model_line (criteria_of content) ∷ rest) empty

-- the lines before the last say a stage, which the last line takes to the next
pub record ComesFrom (lines : List (List ℕ)) (line : List ℕ) (next : Stage) : Type 0 where
  pub stage : Stage
  pub says : Says lines stage
  pub steps : Steps stage line next

pub says_push : (lines : List (List ℕ)) (line : List ℕ) (next : Stage) → Says (lines ++ line ∷ []) next → ComesFrom lines line next
says_push lines line blank says = absurd (no_push lines line says)
  where
    no_push : (lines : List (List ℕ)) (line : List ℕ) → lines ++ line ∷ [] ≡ [] → ⊥
    no_push [] line e = cc
    no_push (first ∷ lines) line e = cc
says_push lines line (headed kind) says =
    let both = snoc_once lines line [] (heading kind) says in
    record { stage = blank; says = both.0; steps = (kind, both.1, refl) }
says_push lines line (begun content) says =
    elim (last_or_none content says.0) [
      | inl empty ↦
          (let both = snoc_once lines line (heading (kind_of content) ∷ []) (model_line (criteria_of content)) (says.1 ∙ empty_lines content empty) in
          record {
            stage = headed (kind_of content);
            says = both.0;
            steps = (content, record { right = says.0; same_kind = refl; empty = empty; spelled = both.1 }, refl);
          })
      | inr last ↦
          (let both = snoc_once lines line (lines_of last.before) last.line (says.1 ∙ last.lines) in
          record {
            stage = begun last.before;
            says = (last.right, both.0);
            steps = inl (content, subst (λ (l : List ℕ). AddsRight last.before l content) (sym both.1) last.adds, refl);
          })
    ]
says_push lines line (ended content) says =
    let both = snoc_once lines line (lines_of content) end_line says.1 in
    record { stage = begun content; says = (says.0, both.0); steps = inr (both.1, refl) }

-- ---- lines say one stage

none_says : (one other : Stage) → Says [] one → Says [] other → one ≡ other
none_says blank blank h k = refl
none_says blank (headed kind) h k = absurd cc
none_says blank (begun content) h k = let e = k.1 in absurd cc
none_says blank (ended content) h k = let e = k.1 in absurd cc
none_says (headed kind) other h k = absurd cc
none_says (begun content) other h k = let e = h.1 in absurd cc
none_says (ended content) other h k = let e = h.1 in absurd cc

says_once_by : (n : ℕ) (lines : List (List ℕ)) (one other : Stage) → length lines ≡ n → Says lines one → Says lines other → one ≡ other
says_once_by zero lines one other count h k =
    elim (snoc_cases lines) [
      | inl none ↦ none_says one other (subst (λ (l : List (List ℕ)). Says l one) none h) (subst (λ (l : List (List ℕ)). Says l other) none k)
      | inr some ↦ absurd (omega (arith, count, ap length some.2, length-append some.0 (some.1 ∷ [])))
    ]
says_once_by (suc n) lines one other count h k =
    elim (snoc_cases lines) [
      | inl none ↦ none_says one other (subst (λ (l : List (List ℕ)). Says l one) none h) (subst (λ (l : List (List ℕ)). Says l other) none k)
      | inr some ↦
          (let a : ComesFrom some.0 some.1 one = says_push some.0 some.1 one (subst (λ (l : List (List ℕ)). Says l one) some.2 h) in
          let b : ComesFrom some.0 some.1 other = says_push some.0 some.1 other (subst (λ (l : List (List ℕ)). Says l other) some.2 k) in
          let shorter : length some.0 ≡ n = omega (arith, count, ap length some.2, length-append some.0 (some.1 ∷ [])) in
          let same : a.stage ≡ b.stage = says_once_by n some.0 a.stage b.stage shorter a.says b.says in
          steps_once a.stage some.1 one other a.steps (subst (λ (s : Stage). Steps s some.1 other) (sym same) b.steps))
    ]

pub says_once : (lines : List (List ℕ)) (one other : Stage) → Says lines one → Says lines other → one ≡ other
says_once lines one other h k = says_once_by (length lines) lines one other refl h k

-- the first lines of a stage say a stage too
front_says : (n : ℕ) (lines more : List (List ℕ)) (next : Stage) → length more ≡ n → Says (lines ++ more) next → (stage : Stage) × Says lines stage
front_says zero lines more next count h =
    elim (snoc_cases more) [
      | inl none ↦ (next, subst (λ (l : List (List ℕ)). Says l next) (ap (λ (m : List (List ℕ)). lines ++ m) none ∙ append-nil lines) h)
      | inr some ↦ absurd (omega (arith, count, ap length some.2, length-append some.0 (some.1 ∷ [])))
    ]
front_says (suc n) lines more next count h =
    elim (snoc_cases more) [
      | inl none ↦ (next, subst (λ (l : List (List ℕ)). Says l next) (ap (λ (m : List (List ℕ)). lines ++ m) none ∙ append-nil lines) h)
      | inr some ↦
          (let whole : lines ++ more ≡ (lines ++ some.0) ++ some.1 ∷ [] =
          ap (λ (m : List (List ℕ)). lines ++ m) some.2 ∙ sym (append_assoc lines some.0 (some.1 ∷ [])) in
          let from : ComesFrom (lines ++ some.0) some.1 next = says_push (lines ++ some.0) some.1 next (subst (λ (l : List (List ℕ)). Says l next) whole h) in
          let shorter : length some.0 ≡ n = omega (arith, count, ap length some.2, length-append some.0 (some.1 ∷ [])) in
          front_says n lines some.0 from.stage shorter from.says)
    ]

-- where more lines stand after those of a stage, the next takes it on
pub next_steps : (lines : List (List ℕ)) (line : List ℕ) (more : List (List ℕ)) (stage last : Stage) → Says lines stage → Says (lines ++ line ∷ more) last
    → (next : Stage) × Steps stage line next
next_steps lines line more stage last h k =
    let whole : (lines ++ line ∷ []) ++ more ≡ lines ++ line ∷ more = append_assoc lines (line ∷ []) more in
    let front : (next : Stage) × Says (lines ++ line ∷ []) next =
    front_says (length more) (lines ++ line ∷ []) more last refl (subst (λ (l : List (List ℕ)). Says l last) (sym whole) k) in
    let from : ComesFrom lines line front.0 = says_push lines line front.0 front.1 in
    let same : from.stage ≡ stage = says_once lines from.stage stage from.says h in
    (front.0, subst (λ (s : Stage). Steps s line front.0) same from.steps)
