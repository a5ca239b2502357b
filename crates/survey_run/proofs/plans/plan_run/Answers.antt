use Rattle.std.proofs.Common.{◌≡◌, ◌∙◌, ◌+◌, ◌<◌, List, ap, subst, rules, arith, length}
use Rattle.std.specs.Prelude.{vec_len}
use Rattle.json_forms.specs.DefinitionViews.{model_of}
use Rattle.survey_script.specs.ScriptViews.{ScriptSessionView}
use Rattle.survey_run.specs.Plans.{IsPlanFor, IsSharedSurveyOf, PlanAt}
use Rattle.survey_run.proofs.EachLemmas.{zip_push}
use Rattle.survey_run.proofs.PlanLemmas.{rooms_of}
use Rattle.survey_run.proofs.plans.plan_run.Goals as goal

pub give_passes-requires-clause-room : goal.give_passes-requires-clause-room
give_passes-requires-clause-room c =
    let inv = c.loop-place.invariant in
    let a : vec_len c.loop-place.surveys ≡ length c.loop-place.surveys.items = search rules in
    let less : length c.loop-place.surveys.items < c.respondents-count.result = omega (arith, a, inv.count.0, c.loop-place-test.true) in
    rooms_of (model_of c.args.script.now.definition) c.respondents-count.result c.loop-place.surveys.items 0 c.loop-place.works.items less inv.works

pub loop-place-preserved : goal.loop-place-preserved
loop-place-preserved c =
    let inv = c.loop-place.invariant in
    let model = model_of c.args.script.now.definition in
    let survey = c.in_ok-survey.survey in
    let plan = c.in_ok-survey_plan.field-0 in
    let place = c.loop-place.place in
    let surveys = c.loop-place.surveys in
    let long : 0 + length surveys.items ≡ place = search rules in
    let survey_is : IsSharedSurveyOf model c.args.workers survey = record {
      model = c.in_ok-survey.ensures.listed.0 ∙ (c.model-model.ensures ∙ ap model_of c.definition.ensures);
      listed = c.in_ok-survey.ensures.listed.1;
      weight = omega (arith, c.in_ok-survey.ensures.weight.0, c.from.ensures);
    } in
    let plan_is : IsPlanFor survey (place + 1) c.args.script.now.sessions plan =
    subst (λ (sessions : List ScriptSessionView). IsPlanFor survey (place + 1) sessions plan) c.sessions-sessions.ensures.value c.in_ok-survey_plan.ensures in
    record {
      plans = rw (c.push_reserved-in-loop-place.ensures.items, c.push_reserved.ensures.items)
          (zip_push (PlanAt model c.args.workers c.args.script.now.sessions) 0 place surveys.items c.loop-place.plans.items survey plan long inv.plans
          (record { survey_is = survey_is; plan_is = plan_is }));
      count = search rules;
      capacity = search rules;
      works = rw c.push_reserved-in-loop-place.ensures.items (c.in_ok-works-2.ensures.works model c.respondents-count.result surveys.items inv.works);
      workers = c.in_ok-works-2.ensures.count ∙ inv.workers;
    }
