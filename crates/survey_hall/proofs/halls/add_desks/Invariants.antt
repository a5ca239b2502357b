use Rattle.std.proofs.Common.{◌≡◌, ◌+◌}
use Rattle.std.specs.Prelude.{vec_len, vec_capacity}
use Rattle.std.specs.Arc.{arc_value}
use Rattle.shared_survey.specs.Passes.{IsPassOf, pass_weight}
use Rattle.survey_hall.proofs.halls.add_desks.Given as goal

abbrev pub invariant-loop-place : goal.invariant-loop-place
invariant-loop-place l = record {
  pass : IsPassOf (arc_value l.survey) l.whole;
  weight : pass_weight l.whole + l.place ≡ pass_weight l.fn.whole;
  len : vec_len l.desks ≡ vec_len l.fn.desks + l.place;
  room : vec_capacity l.desks ≡ vec_capacity l.fn.desks;
}
