-- The first classes, as many as the index says, are marked.
use Rattle.std.proofs.Common.{◌≡◌}
use Rattle.survey_state.specs.States.{given_at, AreMarkedUpTo}
use Rattle.survey_state.proofs.pool.mark_all.Given as goal

abbrev pub invariant-loop-index : goal.invariant-loop-index
invariant-loop-index l =
    AreMarkedUpTo l.core l.index l.pool.marks × (given_at l.pool ≡ given_at l.initial.pool) × (l.pool.kept ≡ l.initial.pool.kept)
