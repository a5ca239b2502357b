-- Pivots keep the rows, and the rule's pivots run out.
use Rattle.least_index.specs.Rule.{pivots_left}
use Rattle.simplex.specs.Choice.{IsReached}
use Rattle.simplex.specs.Results.{KeepsRows}
use Rattle.simplex.proofs.ByVariable.{by_variable}
use Rattle.simplex.proofs.solver.solve.Given as goal

abbrev pub invariant-pivots : goal.invariant-pivots
invariant-pivots l = KeepsRows l.fn.work l.work × IsReached l.fn.work l.work

abbrev pub decreases-pivots : goal.decreases-pivots
decreases-pivots l = pivots_left (by_variable l.work)
