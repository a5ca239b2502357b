-- What contracts see of a turn and of its seats.
use Rattle.std.specs.Prelude.{◌≡◌, ℕ, true, List, Some}
use Rattle.turn_lock.specs.declared.journal.Journalled.{Ghosts}
use Rattle.turn_lock.specs.declared.rule.Stage.TheVariants.{Outside}
use Rattle.turn_lock.specs.declared.turn.Turn.{Turn}
use Rattle.turn_lock.specs.declared.turn.TurnSeat.{TurnSeat}
use Rattle.turn_lock.specs.Steps.{is_inside, log_of}

module _ {S E K : Type 0} where
  -- the state that the turn began with
  abbrev pub opening : Turn S E K → S
  opening t = t.table.shared.key.state.value

  -- the weight of all its seats
  abbrev pub whole_weight : Turn S E K → ℕ
  whole_weight t = t.table.shared.key.seats

module _ {S E K : Type 0} {g : Ghosts S E K} where
  -- the seat is one of this turn
  abbrev pub IsSeatOf : Turn S E K → TurnSeat S E K g → Type 0
  IsSeatOf t p = (p.token.table_id ≡ t.table.shared.table_id) × (p.token.me.0.kind ≡ Some (g.kind (opening t)))

  -- the seat is one of this turn, and outside
  abbrev pub IsOutsideOf : Turn S E K → TurnSeat S E K g → Type 0
  IsOutsideOf t p = IsSeatOf t p × (p.token.me.0.stage ≡ Outside)

  -- the seat is one of this turn, and inside
  abbrev pub IsInsideOf : Turn S E K → TurnSeat S E K g → Type 0
  IsInsideOf t p = IsSeatOf t p × (is_inside p.token.me.0.stage ≡ true)

  -- how many seats it can be split into
  abbrev pub weight : TurnSeat S E K g → ℕ
  weight p = p.token.me.0.weight

  -- the list that the seat has seen
  abbrev pub front : TurnSeat S E K g → List E
  front p = p.token.me.0.front

  -- the places of the entries that were added in its turns, or in those of seats joined into it
  abbrev pub own : TurnSeat S E K g → List ℕ
  own p = p.token.me.0.own

  -- the list that `enter` gave, while the seat is inside
  abbrev pub given : TurnSeat S E K g → List E
  given p = log_of p.token.me.0.stage
