use Rattle.std.proofs.Common.{◌≡◌, ◌≤◌, ◌+◌, length}
use Rattle.std.specs.Prelude.{vec_len, vec_capacity}
use Rattle.survey_hall.specs.EliminatorBenches.{IsBenchOf}
use Rattle.survey_hall.specs.EliminatorSeats.{HoldsPass}
use Rattle.survey_hall.proofs.StackLemmas.{IsPart}
use Rattle.survey_hall.proofs.eliminator_seats.give_back.Given as goal

abbrev pub invariant-loop-bench : goal.invariant-loop-bench
invariant-loop-bench g l = record {
  part : IsPart HoldsPass IsBenchOf l.surveys.items l.passes.items l.benches.list.items;
  count : vec_len l.passes + vec_len l.benches.list ≡ vec_len l.surveys;
  room : vec_len l.surveys ≤ vec_capacity l.passes;
}

abbrev pub decreases-loop-bench : goal.decreases-loop-bench
decreases-loop-bench g l = length l.benches.list.items
