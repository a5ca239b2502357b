use Rattle.std.proofs.Common.{rules}
use Rattle.turn_lock.proofs.SeatSteps.{splits}
use Rattle.turn_lock.proofs.turn.Turn.split.Goals as goal

pub split_seat-token-requires : goal.split_seat-token-requires
split_seat-token-requires g c = (search rules, search rules, splits _ _ _ _ _ _ _ c.requires.own.0.1 c.requires.weight)
