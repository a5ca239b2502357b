use Rattle.std.proofs.Common.{◌≡◌}
use Rattle.turn_lock.specs.Seats.{IsOutsideOf, weight}
use Rattle.turn_lock.proofs.turn.tests.Rounds.ask.Given as goal

abbrev pub invariant-loop-round : goal.invariant-loop-round
invariant-loop-round g l = IsOutsideOf l.turn l.seat × (weight l.seat ≡ weight l.initial.seat)
