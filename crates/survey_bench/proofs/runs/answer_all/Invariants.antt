-- The desk is of the model.
use Rattle.survey_bench.specs.Desks.{IsOf}
use Rattle.survey_bench.proofs.runs.answer_all.Given as goal

abbrev pub invariant-loop : goal.invariant-loop
invariant-loop g l = IsOf l.model (g.R.Events.listed (g.R.Events.about l.desk))
