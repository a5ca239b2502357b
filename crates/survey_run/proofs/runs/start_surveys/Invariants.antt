use Rattle.std.proofs.Common.{◌≡◌, ◌≤◌, ◌+◌, take, drop}
use Rattle.std.specs.Prelude.{vec_len, vec_capacity}
use Rattle.std.specs.Vec.Iter.{into_iter_items, into_iter_len}
use Rattle.json_forms.specs.DefinitionViews.{model_of}
use Rattle.survey_run.specs.Each.{EachZipFrom}
use Rattle.survey_run.specs.Joins.{RunningAt}
use Rattle.survey_run.specs.Plans.{PlanAt}
use Rattle.survey_run.proofs.runs.start_surveys.Given as goal

abbrev pub invariant-loop-plan : goal.invariant-loop-plan
invariant-loop-plan g l = let rest = l.plan-iterator in let model = model_of l.script.definition in record {
  count : vec_len l.running + into_iter_len rest ≡ vec_len l.fn.plans;
  room : vec_len l.running + into_iter_len rest ≤ vec_capacity l.running;
  plans : EachZipFrom (PlanAt model l.count l.script.sessions) (vec_len l.running) (drop (vec_len l.running) l.surveys.items) (into_iter_items rest);
  runs : EachZipFrom (RunningAt model l.count l.script.sessions) 0 (take (vec_len l.running) l.surveys.items) l.running.items;
}
