-- The slacks so far, and how many are left.
use Rattle.std.proofs.Common.{◌-◌}
use Rattle.simplex.proofs.Slacks.{SlacksSoFar, remaining}
use Rattle.simplex.proofs.clash.slack_weights.Given as goal

abbrev pub invariant-slacks : goal.invariant-slacks
invariant-slacks l = SlacksSoFar l.work (l.row - 1) l.columns l.above l.rows

abbrev pub decreases-slacks : goal.decreases-slacks
decreases-slacks l = remaining l.work (l.row - 1) l.above
