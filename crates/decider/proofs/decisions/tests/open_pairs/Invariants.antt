-- The dictionary keeps its room, and as many pairs as were decided are open at most.
use Rattle.std.proofs.Common.{◌≤◌}
use Rattle.decider.specs.Standing.{HasRoomForRows}
use Rattle.decider.proofs.decisions.tests.open_pairs.Given as goal

abbrev pub invariant-loop-number : goal.invariant-loop-number
invariant-loop-number g l = HasRoomForRows l.model.levels l.answers.answers l.work × (l.open ≤ l.number)
