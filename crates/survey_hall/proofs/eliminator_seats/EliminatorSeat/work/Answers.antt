use Rattle.std.proofs.Common.{◌≡◌, length, rules, arith}
use Rattle.std.specs.Prelude.{vec_len}
use Rattle.survey_hall.specs.EliminatorSeats.{HoldsPass}
use Rattle.survey_hall.proofs.StackLemmas.{zip_of}
use Rattle.survey_hall.proofs.eliminator_seats.EliminatorSeat.work.Goals as goal

pub work_at-requires-clause-passes : goal.work_at-requires-clause-passes
work_at-requires-clause-passes g c κs within =
    let seat = c.args.self in
    let a : vec_len seat.surveys ≡ length seat.surveys.items = search rules in
    let b : vec_len seat.passes ≡ length seat.passes.items = search rules in
    zip_of HoldsPass seat.surveys.items seat.passes.items (omega (arith, a, b, seat.as_many)) seat.each
