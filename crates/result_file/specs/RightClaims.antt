-- When a claim is right after those before it, and which part of it is wrong first.
use Rattle.std.specs.Prelude.{◌≡◌, ◌<◌, ◌≤◌, List, ◌∷◌, ◌++◌, length, Some}
use Rattle.criteria_model.specs.Criteria.{Criteria, IsModel}
use Rattle.criteria_model.specs.Classes.{IsClass}
use Rattle.farkas_check.specs.declared.flaws.Flaw.{Flaw}
use Rattle.farkas_check.specs.Flaws.{IsFirstFlaw}
use Rattle.farkas_check.specs.Proof.{Proves}
use Rattle.survey_core.specs.declared.broken.Broken.TheVariants as broken
use Rattle.survey_core.specs.declared.limits.TheConstants.{MAX_EVENTS}
use Rattle.result_file.specs.declared.verdicts.Part.{Part}
use Rattle.result_file.specs.declared.verdicts.Part.TheVariants.{Form, Limit, Class}
use Rattle.result_file.specs.Claims.{Claim, answered, eliminated, pair_of, answers_of}
use Rattle.result_file.specs.Forms.{HasPairForm, HasEliminationForm}
use Rattle.result_file.specs.Parts.{part_of}

-- a claim that may stand in a file of this model
abbrev pub HasForm : Criteria → Claim → Type 0
HasForm criteria (answered answer) = HasPairForm criteria answer.pair
HasForm criteria (eliminated elimination) = HasEliminationForm criteria elimination

-- the combination of an elimination proves its verdict from the answers above it
abbrev pub Holds : Criteria → List Claim → Claim → Type 0
Holds criteria before (answered answer) = Unit {0}
Holds criteria before (eliminated e) = Proves criteria.levels (answers_of before) e.combination e.pair e.verdict

-- a claim that is right after the claims before it
pub record IsRight (criteria : Criteria) (before : List Claim) (claim : Claim) : Type 0 where
  pub form : HasForm criteria claim
  pub room : length before < MAX_EVENTS
  pub class : IsClass criteria (pair_of claim)
  pub proof : Holds criteria before claim

-- a model and claims, each right after those before it
pub record AreClaims (criteria : Criteria) (claims : List Claim) : Type 0 where
  pub model : IsModel criteria
  pub each : (before : List Claim) (claim : Claim) (after : List Claim) → claims ≡ before ++ claim ∷ after → IsRight criteria before claim

-- the first flaw of an elimination's combination is of this part
abbrev pub HasFlaw : Criteria → List Claim → Claim → Part → Type 0
HasFlaw criteria before (answered answer) part = ⊥
HasFlaw criteria before (eliminated e) part =
    (flaw : Flaw) × (part ≡ part_of (broken.Flaw flaw)) × IsFirstFlaw criteria.levels (answers_of before) e.combination e.pair e.verdict (Some flaw)

-- the first part of a claim's line that is wrong after the claims before it, where its form is right
abbrev pub FailsAs : Criteria → List Claim → Claim → Part → Type 0
FailsAs criteria before claim Form = ⊥
FailsAs criteria before claim Limit = MAX_EVENTS ≤ length before
FailsAs criteria before claim Class = (length before < MAX_EVENTS) × (¬ IsClass criteria (pair_of claim))
FailsAs criteria before claim part = (length before < MAX_EVENTS) × IsClass criteria (pair_of claim) × HasFlaw criteria before claim part
