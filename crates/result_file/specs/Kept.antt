-- What a reader keeps of the claims or events that came.
use Rattle.std.specs.Prelude.{◌≡◌, ℕ, ◌<◌, List, [], ◌∷◌, ◌++◌, length}
use Rattle.criteria_model.specs.declared.pairs.Answer.{Answer}
use Rattle.criteria_model.specs.Criteria.{Criteria}
use Rattle.criteria_model.specs.Classes.{IsClass}
use Rattle.pair_enumeration.specs.Listed.{IsListed}
use Rattle.survey_core.specs.declared.events.Event.{Event}
use Rattle.survey_core.specs.Recorded.{Recorded}
use Rattle.survey_core.specs.declared.limits.TheConstants.{MAX_EVENTS}
use Rattle.result_file.specs.declared.entries.Format.{Format}
use Rattle.result_file.specs.Claims.{Claim, answers_of, pair_of}
use Rattle.result_file.specs.Events.{event_line}
use Rattle.result_file.specs.RightClaims.{Holds, IsRight}
use Rattle.result_file.specs.RightEvents.{AreEvents}
use Rattle.result_file.specs.Texts.{claim_line}

-- what a reader keeps of claims: the model, how many came, and the answers among them
pub record KeptClaims : Type 0 where
  pub model : Criteria
  pub count : ℕ
  pub answers : List Answer

-- that is kept of these claims about this model
pub record KeepsClaims (kept : KeptClaims) (criteria : Criteria) (claims : List Claim) : Type 0 where
  pub model : kept.model ≡ criteria
  pub count : kept.count ≡ length claims
  pub answers : kept.answers ≡ answers_of claims

-- the claim is right after these, apart from its form, and is kept
pub record AcceptsClaim (new : KeptClaims) (criteria : Criteria) (claims : List Claim) (claim : Claim) : Type 0 where
  pub room : length claims < MAX_EVENTS
  pub class : IsClass criteria (pair_of claim)
  pub proof : Holds criteria claims claim
  pub kept : KeepsClaims new criteria (claims ++ claim ∷ [])

-- the line is a claim that is right after these, and is kept
pub record AddsClaim (new : KeptClaims) (line : List ℕ) (criteria : Criteria) (claims : List Claim) : Type 0 where
  pub claim : Claim
  pub spelled : line ≡ claim_line claim
  pub right : IsRight criteria claims claim
  pub kept : KeepsClaims new criteria (claims ++ claim ∷ [])

-- what a reader keeps of events, by what contracts see: all of them
pub record KeptSurvey : Type 0 where
  pub format : Format
  pub survey : Recorded

-- no event of this model yet
pub record StartsSurvey (kept : KeptSurvey) (format : Format) (criteria : Criteria) : Type 0 where
  pub same_format : kept.format ≡ format
  pub same_model : kept.survey.listed.criteria ≡ criteria
  pub listed : IsListed kept.survey.listed
  pub empty : kept.survey.history ≡ []

-- the line is that of an event that is right after these, and is kept
pub record AddsEvent (old new : KeptSurvey) (line : List ℕ) : Type 0 where
  pub event : Event
  pub same_format : new.format ≡ old.format
  pub same_listed : new.survey.listed ≡ old.survey.listed
  pub history : new.survey.history ≡ old.survey.history ++ event ∷ []
  pub spelled : line ≡ event_line old.survey.listed.classes event
  pub right : AreEvents old.format old.survey → AreEvents new.format new.survey
