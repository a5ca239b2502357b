use Rattle.std.proofs.Common.{◌≡◌, ◌+◌, All}
use Rattle.std.specs.Prelude.{vec_len}
use Rattle.std.specs.Arc.{arc_value}
use Rattle.shared_survey.specs.Passes.{IsPassOf, pass_weight}
use Rattle.survey_hall.specs.declared.eliminator_seats.EliminatorSeat.{EliminatorSeat}
use Rattle.survey_hall.proofs.halls.add_passes.Given as goal

abbrev pub invariant-loop-place : goal.invariant-loop-place
invariant-loop-place l = record {
  pass : IsPassOf (arc_value l.survey) l.whole;
  weight : pass_weight l.whole + l.place ≡ pass_weight l.fn.whole;
  len : vec_len l.seats ≡ vec_len l.fn.seats;
  models : All (λ (seat : EliminatorSeat). seat.model ≡ l.model) l.seats.items;
}
