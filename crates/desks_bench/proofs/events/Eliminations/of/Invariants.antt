-- What was seen of the journal stays seen.
use Rattle.std.proofs.Common.{◌≤◌, length}
use Rattle.desks_bench.proofs.events.Eliminations.of.Given as goal

abbrev pub invariant-loop-place : goal.invariant-loop-place
invariant-loop-place g l = l.place-end ≤ length (g.E.Events.seen l.journal).journal
