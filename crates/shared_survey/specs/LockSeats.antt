-- A pass's seat at the lock of its survey.
use Rattle.std.specs.Prelude.{◌≡◌, ℕ, List, Option, Some, None, length}
use mathlib.Core.List.{IsPrefix}
use Rattle.atomic_table.specs.Seated.{TableId}
use Rattle.pair_enumeration.specs.Listed.{Listed, IsListed}
use Rattle.survey_core.specs.declared.events.Event.{Event}
use Rattle.survey_core.specs.Legal.{IsLegal}
use Rattle.survey_replies.specs.Calls.{Seen}
use Rattle.turn_lock.specs.declared.rule.View.{View}
use Rattle.turn_lock.specs.declared.rule.Stage.{Stage}
use Rattle.turn_lock.specs.declared.rule.Stage.TheVariants.{Outside, Waiting, Served}
use Rattle.turn_lock.specs.declared.turn.Turn.{Turn}
use Rattle.turn_lock.specs.Seats.{opening}
use Rattle.shared_survey.specs.declared.shared_state.SharedState.{SharedState}

-- of which lock it is, and what it knows
pub record LockSeat : Type 0 where
  pub lock : TableId
  pub knows : View Event Listed

-- the journal that it has seen, and its own places: those of the events that were put there in its turns, or in the turns
-- of seats joined into it
abbrev pub seat_seen : LockSeat → Seen
seat_seen seat = record { journal = seat.knows.front; own = seat.knows.own }

-- the journal with which the state was given out
abbrev pub stage_journal : Stage Event → Option (List Event)
stage_journal Outside = None
stage_journal (Waiting ticket) = None
stage_journal (Served ticket journal) = Some journal

-- the same, while the state is out by the seat
abbrev pub journal_out : LockSeat → Option (List Event)
journal_out seat = stage_journal seat.knows.stage

-- the seat is one of this lock
pub record IsAtLock (turn : Turn SharedState Event Listed) (seat : LockSeat) : Type 0 where
  pub lock : seat.lock ≡ turn.table.shared.table_id
  pub kind : seat.knows.kind ≡ Some (opening turn).state.listed

-- what a seat keeps: it has seen a legal journal, and what it is given begins with that
pub record KeepsSeat (count : ℕ) (knows : View Event Listed) : Type 0 where
  pub counts : count ≡ length knows.front
  pub legal : (listed : Listed) → knows.kind ≡ Some listed → IsListed listed × IsLegal listed knows.front
  pub begins : (journal : List Event) → stage_journal knows.stage ≡ Some journal → IsPrefix knows.front journal
