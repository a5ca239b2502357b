-- The increments' weights by the places so far.
use Rattle.std.proofs.Common.{◌-◌, ◌≤◌, pos}
use Rattle.std.specs.Prelude.{not, count_by}
use Rattle.simplex.specs.Weights.{is_weight}
use Rattle.simplex.specs.Equation.{variable_at, weight_at, how_many, has_slack}
use Rattle.simplex.proofs.ScaledPoints.{Written}
use Rattle.simplex.proofs.clash.increment_weights.Given as goal

abbrev pub invariant-loop-place : goal.invariant-loop-place
invariant-loop-place l = record {
  written : Written (variable_at l.work (l.row - 1)) (weight_at l.work (l.row - 1)) (pos 0) l.work.columns l.place l.cells;
  few : count_by is_weight l.cells ≤ how_many (λ place. not (has_slack l.work (l.row - 1) place)) l.place;
}
