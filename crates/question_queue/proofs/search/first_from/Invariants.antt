use Rattle.std.proofs.Common.{◌≡◌, ◌+◌, ◌≤◌}
use Rattle.std.specs.List.{position_or_len}
use Rattle.question_queue.specs.Pools.{is_wanted}
use Rattle.question_queue.proofs.search.first_from.Given as goal

abbrev pub invariant-loop-place : goal.invariant-loop-place
invariant-loop-place g l = (l.place ≤ position_or_len (is_wanted l.wanted) l.marks) × (l.steps + l.fn.from ≡ l.initial.steps + l.place)
