-- The increments by the rows so far.
use Rattle.std.proofs.Common.{◌+ℤ◌}
use Rattle.std.specs.Prelude.{slice_index}
use Rattle.fraction_free.specs.Dictionary.{constant_in}
use Rattle.simplex.proofs.ScaledPoints.{Written}
use Rattle.simplex.proofs.point.scaled_point.Given as goal

abbrev pub invariant-loop-at : goal.invariant-loop-at
invariant-loop-at l = Written (slice_index l.work.basic) (λ i. l.work.scale +ℤ constant_in l.work i) l.work.scale l.work.columns l.at l.cells
