-- The rows of the answers so far, and those that are left.
use Rattle.std.proofs.Common.{◌≡◌, ◌+◌, take}
use Rattle.decider.specs.Combining.{rows_in}
use Rattle.decider.proofs.tested.held_with.Given as goal

abbrev pub invariant-loop-at : goal.invariant-loop-at
invariant-loop-at l = l.left + rows_in (take l.at l.answers.answers) ≡ l.rows
