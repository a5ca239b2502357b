-- Pivots keep the rows, and the others feasible.
use Rattle.std.proofs.Common.{◌-◌}
use Rattle.fraction_free.specs.Dictionary.{IsDictionary}
use Rattle.simplex.specs.Raise.{IsFeasibleBut}
use Rattle.simplex.specs.Results.{KeepsRows}
use Rattle.simplex.proofs.raise.raise.Given as goal

abbrev pub invariant-loop : goal.invariant-loop
invariant-loop l = record {
  rows : KeepsRows l.fn.work l.work;
  dictionary : IsDictionary l.work;
  others : IsFeasibleBut l.fn.work (l.last - 1) → IsFeasibleBut l.work (l.last - 1);
}
