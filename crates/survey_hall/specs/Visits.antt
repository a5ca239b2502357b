-- What becomes of a connection at its desk.
use Rattle.std.specs.Prelude.{◌≡◌, ◌⊎◌, ℕ, ◌<◌, List, length, All, Option}
use Rattle.edges.specs.Told.{Appends, AppendsPrefix}
use Rattle.criteria_model.specs.Counts.{class_count}
use Rattle.criteria_model.specs.Criteria.{Criteria}
use Rattle.pair_enumeration.specs.Listed.{Listed, IsListed}
use Rattle.survey_core.specs.Legal.{IsLegal}
use Rattle.survey_replies.specs.Calls.{Seen}
use Rattle.json_forms.specs.Replies.{json_line, welcome_json}
use Rattle.session_protocol.specs.declared.sessions.CountedEnd.{CountedEnd}
use Rattle.session_protocol.specs.declared.sessions.SessionEnd.TheVariants.{WriteFault}
use Rattle.session_protocol.specs.declared.sessions.TheConstants.{MAX_MESSAGES}
use Rattle.session_protocol.specs.Sessions.{IsCountedSession, session_view}
use Rattle.shared_survey.specs.declared.pass.Front.{Front}
use Rattle.shared_survey.specs.Passes.{front_journal, front_seen}
use Rattle.survey_hall.specs.ConnectionViews.{ConnectionView}

-- the line of a welcome: how many classes the model has, and the desk
abbrev pub welcome_text : Criteria → ℕ → List ℕ
welcome_text criteria desk = json_line (welcome_json (class_count criteria.levels criteria.degree) desk)

-- each of its own places is one of the journal seen
abbrev pub OwnsSeenPlaces : Seen → Type 0
OwnsSeenPlaces seen = All (λ place. place < length seen.journal) seen.own

-- the welcome was written, and then there was a session
pub record IsWelcomed (listed : Listed) (desk : ℕ) (seen last : Seen) (before after : ConnectionView) (counted : CountedEnd) : Type 0 where
  pub written : Option (List ℕ)
  pub welcome : Appends before.written written (welcome_text listed.criteria desk)
  pub session : IsCountedSession listed desk (session_view seen before.ahead written) (session_view last after.ahead after.written) MAX_MESSAGES counted

-- the sink failed at the welcome: nothing was read or asked
pub record IsUnwelcomed (listed : Listed) (desk : ℕ) (seen last : Seen) (before after : ConnectionView) (counted : CountedEnd) : Type 0 where
  pub welcome : AppendsPrefix before.written after.written (welcome_text listed.criteria desk)
  pub ahead : after.ahead ≡ before.ahead
  pub unchanged : last ≡ seen
  pub none : counted ≡ record { end = WriteFault; replies = 0 }

-- a connection at a desk of a survey of this model. The desk had seen `began` events when its pass was got, and at the end all of
-- the front, whose events are legal. What its pass has made after the first ones are the places of these replies' turns
pub record IsVisit (criteria : Criteria) (desk : ℕ) (before after : ConnectionView) (began : ℕ) (front : Front) (counted : CountedEnd) : Type 0 where
  pub listed : Listed
  pub model : listed.criteria ≡ criteria
  pub lists : IsListed listed
  pub seen : Seen
  pub from : began ≡ length seen.journal
  pub owned : OwnsSeenPlaces seen
  pub legal : IsLegal listed (front_journal front)
  pub run : IsWelcomed listed desk seen (front_seen front) before after counted ⊎ IsUnwelcomed listed desk seen (front_seen front) before after counted
