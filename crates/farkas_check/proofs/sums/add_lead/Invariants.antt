use Rattle.farkas_check.proofs.SumLemmas.{AreLeads}
use Rattle.farkas_check.proofs.sums.add_lead.Given as goal

abbrev pub invariant-loop-place : goal.invariant-loop-place
invariant-loop-place l = AreLeads l.model.levels l.winner l.loser l.weight l.initial.sums l.at l.place l.sums
