use Rattle.std.proofs.Common.{◌≡◌, ◌≤◌, length}
use Rattle.std.specs.Prelude.{vec_len, vec_capacity}
use Rattle.json_forms.specs.DefinitionViews.{model_of}
use Rattle.survey_run.specs.Each.{EachFrom, EachZipFrom}
use Rattle.survey_run.specs.Plans.{PlanAt}
use Rattle.survey_run.specs.Workers.{WorkAt}
use Rattle.survey_run.proofs.plans.plan_run.Given as goal

abbrev pub invariant-loop-place : goal.invariant-loop-place
invariant-loop-place l = let model = model_of l.script.definition in record {
  plans : EachZipFrom (PlanAt model l.workers l.script.sessions) 0 l.surveys.items l.plans.items;
  count : (vec_len l.surveys ≡ l.place) × (vec_len l.plans ≡ l.place);
  capacity : (l.count ≤ vec_capacity l.surveys) × (l.count ≤ vec_capacity l.plans);
  works : EachFrom (WorkAt model l.count l.surveys.items) 0 l.works.items;
  workers : length l.works.items ≡ l.workers;
}
