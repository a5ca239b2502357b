-- What contracts see of a survey and of its passes.
use Rattle.std.specs.Prelude.{◌≡◌, ℕ, List, Option, Some, None}
use Rattle.std.specs.Option.{ForSome}
use Rattle.decider.specs.Reserved.{IsReserved}
use Rattle.pair_enumeration.specs.Listed.{Listed}
use Rattle.survey_core.specs.declared.events.Event.{Event}
use Rattle.survey_core.specs.Legal.{IsDesk}
use Rattle.survey_replies.specs.Calls.{Seen}
use Rattle.turn_lock.specs.Seats.{opening, whole_weight}
use Rattle.shared_survey.specs.declared.pass.DeskTools.{DeskTools}
use Rattle.shared_survey.specs.declared.pass.Pass.{Pass}
use Rattle.shared_survey.specs.declared.pass.Front.{Front}
use Rattle.shared_survey.specs.declared.survey.Survey.{Survey}
use Rattle.shared_survey.specs.LockSeats.{IsAtLock, journal_out, seat_seen}

-- the model of a survey, with its classes
abbrev pub survey_listed : Survey → Listed
survey_listed survey = (opening survey.turn).state.listed

-- the weight of all its passes
abbrev pub survey_weight : Survey → ℕ
survey_weight survey = whole_weight survey.turn

-- the weight of a pass: how many passes it can be split into
abbrev pub pass_weight : Pass → ℕ
pass_weight pass = pass.seat.knows.weight

-- the journal that a pass has seen, and its own places: those of the events that were put there in its turns, or in the
-- turns of passes joined into it
abbrev pub pass_seen : Pass → Seen
pass_seen pass = seat_seen pass.seat

abbrev pub desk_number : Option DeskTools → ℕ
desk_number None = 0
desk_number (Some tools) = tools.desk

-- the desk of a pass, or 0 where it is of no desk
abbrev pub desk_of : Pass → ℕ
desk_of pass = desk_number pass.desk

-- a desk, and tools that were reserved for the model
pub record AreDeskTools (listed : Listed) (of : DeskTools) : Type 0 where
  pub desk : IsDesk of.desk
  pub reserved : IsReserved listed.criteria of.tools

-- the pass is one of this survey, whether or not a turn is taken by it
pub record BelongsTo (survey : Survey) (pass : Pass) : Type 0 where
  pub seat : IsAtLock survey.turn pass.seat
  pub tools : ForSome pass.desk (AreDeskTools (survey_listed survey))

-- the pass is one of this survey, and no turn is taken by it
pub record IsPassOf (survey : Survey) (pass : Pass) : Type 0 where
  pub belongs : BelongsTo survey pass
  pub free : journal_out pass.seat ≡ None

-- what a call leaves of a pass: one of the survey, of the same weight and desk
pub record StaysPass (survey : Survey) (old new : Pass) : Type 0 where
  pub of : IsPassOf survey new
  pub weight : pass_weight new ≡ pass_weight old
  pub desk : desk_of new ≡ desk_of old

-- what a front stands for: the journal that the pass had seen, and the places of it that were its own
abbrev pub front_seen : Front → Seen
front_seen front = pass_seen front.of.value

-- the journal alone
abbrev pub front_journal : Front → List Event
front_journal front = (front_seen front).journal
