use Rattle.std.proofs.Common.{◌≡◌, ◌+◌}
use Rattle.std.specs.Prelude.{vec_len}
use Rattle.std.specs.Vec.Iter.{into_iter_len}
use Rattle.survey_hall.proofs.halls.behind_locks.Given as goal

abbrev pub invariant-loop-seat : goal.invariant-loop-seat
invariant-loop-seat l = vec_len l.locks + into_iter_len l.seat-iterator ≡ vec_len l.fn.seats
