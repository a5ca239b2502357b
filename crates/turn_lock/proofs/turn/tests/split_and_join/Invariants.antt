use Rattle.std.proofs.Common.{◌≡◌}
use Rattle.turn_lock.specs.Seats.{IsOutsideOf, weight}
use Rattle.turn_lock.proofs.turn.tests.split_and_join.Given as goal

abbrev pub invariant-loop : goal.invariant-loop
invariant-loop g l = IsOutsideOf l.turn l.seat × (weight l.seat ≡ 2)
