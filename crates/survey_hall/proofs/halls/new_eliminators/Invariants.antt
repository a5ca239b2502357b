use Rattle.std.proofs.Common.{◌≡◌, ◌≤◌, All}
use Rattle.std.specs.Prelude.{vec_len, vec_capacity}
use Rattle.survey_hall.specs.declared.eliminator_seats.EliminatorSeat.{EliminatorSeat}
use Rattle.survey_hall.proofs.halls.new_eliminators.Given as goal

abbrev pub invariant-loop-place : goal.invariant-loop-place
invariant-loop-place l = record {
  len : vec_len l.seats ≡ l.place;
  room : l.workers ≤ vec_capacity l.seats;
  models : All (λ (seat : EliminatorSeat). seat.model ≡ l.model) l.seats.items;
}
