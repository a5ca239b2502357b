use Rattle.std.proofs.Common.{◌≡◌, ◌*◌, ◌≤◌, All}
use Rattle.std.specs.Prelude.{vec_len, vec_capacity}
use Rattle.survey_core.specs.declared.limits.TheConstants.{MAX_DESKS}
use Rattle.survey_hall.specs.declared.eliminator_seats.EliminatorSeat.{EliminatorSeat}
use Rattle.survey_hall.proofs.halls.all_desks.Given as goal

abbrev pub invariant-loop-place : goal.invariant-loop-place
invariant-loop-place l = record {
  len : vec_len l.desks ≡ MAX_DESKS * l.place;
  room : MAX_DESKS * l.respondents ≤ vec_capacity l.desks;
  workers : vec_len l.seats ≡ vec_len l.fn.seats;
  models : All (λ (seat : EliminatorSeat). seat.model ≡ l.model) l.seats.items;
}
