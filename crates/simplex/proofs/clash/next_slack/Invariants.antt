-- The places so far: the least later variable with a positive weight, and its weight.
use Rattle.std.proofs.Common.{◌-◌}
use Rattle.simplex.proofs.NextSlacks.{NextSoFar}
use Rattle.simplex.proofs.clash.next_slack.Given as goal

abbrev pub invariant-loop-place : goal.invariant-loop-place
invariant-loop-place l = NextSoFar l.work (l.row - 1) l.above l.place l.least l.found
