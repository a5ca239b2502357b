use Rattle.farkas_check.proofs.SumLemmas.{AreTotals}
use Rattle.farkas_check.proofs.sums.add_cites.Given as goal

abbrev pub invariant-loop-cite : goal.invariant-loop-cite
invariant-loop-cite l = AreTotals l.model.levels l.answers l.initial.sums l.cites l.cite-index l.sums
