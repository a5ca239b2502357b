use Rattle.sample_values.proofs.ValueLemmas.{AreValues}
use Rattle.sample_values.proofs.hidden.hidden_values.Given as goal

abbrev pub invariant-loop-place : goal.invariant-loop-place
invariant-loop-place l = AreValues l.seed l.place l.draws l.cells
