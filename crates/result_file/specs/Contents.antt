-- What a checked file contains, and its lines.
use Rattle.std.specs.Prelude.{ℕ, List, ◌∷◌, map}
use Rattle.criteria_model.specs.Criteria.{Criteria}
use Rattle.survey_core.specs.Laws.{RanksEachClass}
use Rattle.survey_core.specs.Recorded.{Recorded}
use Rattle.result_file.specs.declared.entries.Format.{Format}
use Rattle.result_file.specs.declared.kinds.Kind.{Kind}
use Rattle.result_file.specs.declared.kinds.Kind.TheVariants.{Claims, Result}
use Rattle.result_file.specs.Claims.{Claim}
use Rattle.result_file.specs.Events.{event_line}
use Rattle.result_file.specs.RightClaims.{AreClaims}
use Rattle.result_file.specs.RightEvents.{AreEvents}
use Rattle.result_file.specs.Texts.{heading, model_line, claim_line}

-- a model and claims; or a model with its class list, and the history of a survey, written in a format
pub data Content : Type 0 where
  of_claims : Criteria → List Claim → Content
  of_events : Format → Recorded → Content

-- the kind of file that has this content
abbrev pub kind_of : Content → Kind
kind_of (of_claims criteria claims) = Claims
kind_of (of_events format survey) = Result format

-- the model that it is about
abbrev pub criteria_of : Content → Criteria
criteria_of (of_claims criteria claims) = criteria
criteria_of (of_events format survey) = survey.listed.criteria

-- the lines of its claims or events
abbrev pub body_of : Content → List (List ℕ)
body_of (of_claims criteria claims) = map claim_line claims
body_of (of_events format survey) = map (event_line survey.listed.classes) survey.history

-- all its lines but the last
abbrev pub lines_of : Content → List (List ℕ)
lines_of content = heading (kind_of content) ∷ model_line (criteria_of content) ∷ body_of content

-- each of its claims or events is right after those before it
abbrev pub IsRightContent : Content → Type 0
IsRightContent (of_claims criteria claims) = AreClaims criteria claims
IsRightContent (of_events format survey) = AreEvents format survey

-- it is a survey in which an event that stands ranks each class; claims never are
abbrev pub IsCompleteContent : Content → Type 0
IsCompleteContent (of_claims criteria claims) = ⊥
IsCompleteContent (of_events format survey) = RanksEachClass survey.listed survey.history
