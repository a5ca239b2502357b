use Rattle.std.proofs.Common.{◌≡◌, ◌≤◌, ◌+◌}
use Rattle.std.specs.Prelude.{vec_len, vec_capacity}
use Rattle.survey_hall.specs.EliminatorBenches.{IsBenchOf}
use Rattle.survey_hall.specs.EliminatorSeats.{HoldsPass}
use Rattle.survey_hall.proofs.StackLemmas.{IsPart}
use Rattle.survey_hall.proofs.eliminator_seats.hold_all.Given as goal

abbrev pub invariant-loop-pass : goal.invariant-loop-pass
invariant-loop-pass g l = record {
  part : IsPart HoldsPass IsBenchOf l.surveys.items l.passes.items l.benches.list.items;
  count : vec_len l.passes + vec_len l.benches.list ≡ vec_len l.surveys;
  room : vec_len l.surveys ≤ vec_capacity l.benches.list;
  capacity : vec_capacity l.passes ≡ vec_capacity l.fn.passes;
}

abbrev pub decreases-loop-pass : goal.decreases-loop-pass
decreases-loop-pass g l = goal.left-loop-pass g l
