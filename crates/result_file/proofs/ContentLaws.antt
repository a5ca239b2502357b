-- What one more line does to the content of a file.
use Rattle.std.proofs.Common.{◌≡◌, ◌≢◌, ℕ, List, [], ◌∷◌, ◌++◌, refl, sym, ap, subst, ◌∙◌, Some, ◌⊎◌, inl, inr}
use Rattle.std.specs.Prelude.{slice_get}
use Rattle.std.proofs.lemmas.List.{map_push}
use Rattle.std.proofs.lemmas.List.Elements.{All-nil}
use Rattle.criteria_model.specs.Criteria.{Criteria, IsModel}
use Rattle.survey_core.specs.declared.events.Event.{Event}
use Rattle.survey_core.specs.Laws.{RanksEachClass}
use Rattle.survey_core.specs.Recorded.{Recorded}
use Rattle.result_file.specs.declared.bodies.Body.TheVariants as bodies
use Rattle.result_file.specs.declared.entries.Format.{Format}
use Rattle.result_file.specs.declared.kinds.Kind.TheVariants as kinds
use Rattle.result_file.specs.declared.stops.Stop.{Stop}
use Rattle.result_file.specs.Bodies.{Keeps, Starts, Adds}
use Rattle.result_file.specs.Checked.{begun}
use Rattle.result_file.specs.Claims.{Claim}
use Rattle.result_file.specs.Contents.{Content, of_claims, of_events, IsCompleteContent}
use Rattle.result_file.specs.Events.{event_line}
use Rattle.result_file.specs.Kept.{KeptClaims, KeepsClaims, AddsClaim, KeptSurvey, StartsSurvey, AddsEvent}
use Rattle.result_file.specs.RightClaims.{IsRight, AreClaims}
use Rattle.result_file.specs.RightEvents.{AreEvents}
use Rattle.result_file.specs.Stops.{StopsAt}
use Rattle.result_file.specs.Texts.{claim_line, end_line}

-- ---- claims that grow

-- a claim of a list with one more: the new one, or one of the list
pushed : {X : Type 0} (xs : List X) (x : X) (before : List X) (y : X) (after : List X) → xs ++ x ∷ [] ≡ before ++ y ∷ after
    → ((before ≡ xs) × (y ≡ x)) ⊎ ((others : List X) × (xs ≡ before ++ y ∷ others))
pushed [] x [] y after e = inl (refl, cc)
pushed [] x (b ∷ []) y after e = absurd cc
pushed [] x (b ∷ c ∷ before) y after e = absurd cc
pushed (z ∷ xs) x [] y after e = let same : z ≡ y = cc in inr (xs, ap (λ w. w ∷ xs) same)
pushed (z ∷ xs) x (b ∷ before) y after e =
    let same : z ≡ b = cc in
    let rest : xs ++ x ∷ [] ≡ before ++ y ∷ after = cc in
    elim (pushed xs x before y after rest) [
      | inl last ↦ inl (rw (same, last.0) refl, last.1)
      | inr within ↦ inr (within.0, rw same (ap (λ w. b ∷ w) within.1))
    ]

pub more_claims : (criteria : Criteria) (claims : List Claim) (claim : Claim) → AreClaims criteria claims → IsRight criteria claims claim
    → AreClaims criteria (claims ++ claim ∷ [])
more_claims criteria claims claim h right = record {
  model = h.model;
  each = λ before other after e. elim (pushed claims claim before other after e) [
    | inl last ↦ rw (last.0, last.1) right
    | inr within ↦ h.each before other within.0 within.1
  ];
}

pub no_claims : (criteria : Criteria) → IsModel criteria → AreClaims criteria []
no_claims criteria m = record { model = m; each = λ before claim after e. absurd (none before claim after e) }
  where
    none : (before : List Claim) (claim : Claim) (after : List Claim) → [] ≡ before ++ claim ∷ after → ⊥
    none [] claim after e = cc
    none (b ∷ before) claim after e = cc

-- ---- bodies of claims

pub starts_claims : (kept : KeptClaims) (criteria : Criteria) → IsModel criteria → KeepsClaims kept criteria []
    → Starts (bodies.Claims kept) kinds.Claims criteria
starts_claims kept criteria m h = record {
  content = of_claims criteria [];
  kept = h;
  right = no_claims criteria m;
  same_kind = refl;
  same_model = refl;
  empty = refl;
}

pub adds_claims : (old new : KeptClaims) (line : List ℕ)
    → ((criteria : Criteria) (claims : List Claim) → KeepsClaims old criteria claims → AddsClaim new line criteria claims) → (content : Content)
    → Keeps (bodies.Claims old) content → Adds (bodies.Claims new) line content
adds_claims old new line added (of_claims criteria claims) h =
    let a = added criteria claims h in
    record {
      next = of_claims criteria (claims ++ a.claim ∷ []);
      kept = a.kept;
      right = λ right. more_claims criteria claims a.claim right a.right;
      lines = rw (a.spelled, map_push claim_line claims a.claim) refl;
    }
adds_claims old new line added (of_events format survey) h = absurd h

pub stops_claims : (old : KeptClaims) (line : List ℕ) (stop : Stop)
    → ((criteria : Criteria) (claims : List Claim) → line ≢ end_line → KeepsClaims old criteria claims → StopsAt (begun (of_claims criteria claims)) line stop)
    → (content : Content) → line ≢ end_line → Keeps (bodies.Claims old) content → StopsAt (begun content) line stop
stops_claims old line stop failed (of_claims criteria claims) no_end h = failed criteria claims no_end h
stops_claims old line stop failed (of_events format survey) no_end h = absurd h

-- ---- bodies of surveys

pub starts_survey : (kept : KeptSurvey) (format : Format) (criteria : Criteria) → StartsSurvey kept format criteria
    → Starts (bodies.Survey kept) (kinds.Result format) criteria
starts_survey kept format criteria h = record {
  content = of_events format kept.survey;
  kept = (h.same_format, refl);
  right = record {
    listed = h.listed;
    legal = λ k event at. absurd (none k event (rw h.empty at at));
    forms = rw h.empty (All-nil _);
  };
  same_kind = refl;
  same_model = h.same_model;
  empty = rw h.empty refl;
}
  where
    none : (k : ℕ) (event : Event) → slice_get {X = Event} [] k ≡ Some event → ⊥
    none k event at = cc

pub adds_events : (old new : KeptSurvey) (line : List ℕ) → AddsEvent old new line → (content : Content) → Keeps (bodies.Survey old) content
    → Adds (bodies.Survey new) line content
adds_events old new line a (of_claims criteria claims) h = absurd h
adds_events old new line a (of_events format survey) h = record {
  next = of_events format new.survey;
  kept = (a.same_format ∙ h.0, refl);
  right = λ right.
      let before : AreEvents old.format old.survey = subst (λ (s : Recorded). AreEvents old.format s) (sym h.1) (subst (λ (f : Format). AreEvents f survey) (sym h.0) right) in
      subst (λ (f : Format). AreEvents f new.survey) (a.same_format ∙ h.0) (a.right before);
  lines = rw (a.history, a.same_listed, a.spelled, h.1, map_push (event_line survey.listed.classes) survey.history a.event) refl;
}

pub stops_events : (old : KeptSurvey) (line : List ℕ) (stop : Stop) → (line ≢ end_line → StopsAt (begun (of_events old.format old.survey)) line stop)
    → (content : Content)
    → line ≢ end_line → Keeps (bodies.Survey old) content → StopsAt (begun content) line stop
stops_events old line stop failed (of_claims criteria claims) no_end h = absurd h
stops_events old line stop failed (of_events format survey) no_end h =
    subst (λ (s : Recorded). StopsAt (begun (of_events format s)) line stop) h.1 (subst (λ (f : Format). StopsAt (begun (of_events f old.survey)) line stop) h.0 (failed no_end))

-- ---- whole bodies

pub whole_complete : (kept : KeptSurvey) → RanksEachClass kept.survey.listed kept.survey.history → (content : Content)
    → Keeps (bodies.Survey kept) content → IsCompleteContent content
whole_complete kept complete (of_claims criteria claims) h = absurd h
whole_complete kept complete (of_events format survey) h = subst (λ (s : Recorded). RanksEachClass s.listed s.history) h.1 complete

pub whole_incomplete : (kept : KeptSurvey) → (¬ RanksEachClass kept.survey.listed kept.survey.history) → (content : Content)
    → Keeps (bodies.Survey kept) content → ¬ IsCompleteContent content
whole_incomplete kept incomplete (of_claims criteria claims) h complete = absurd h
whole_incomplete kept incomplete (of_events format survey) h complete = incomplete (subst (λ (s : Recorded). RanksEachClass s.listed s.history) (sym h.1) complete)
