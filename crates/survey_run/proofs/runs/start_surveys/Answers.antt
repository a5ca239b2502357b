use Rattle.std.proofs.Common.{◌≡◌, ◌+◌, ℕ, suc, List, drop, take, sym, subst, rules, arith, length}
use Rattle.std.specs.Prelude.{vec_len}
use Rattle.std.specs.Vec.Iter.{into_iter_items}
use Rattle.json_forms.specs.DefinitionViews.{model_of}
use Rattle.shared_survey.specs.declared.survey.Survey.{Survey}
use Rattle.survey_core.proofs.ListSteps.{take_whole}
use Rattle.survey_run.specs.Each.{EachZipFrom}
use Rattle.survey_run.specs.Joins.{IsRunningOf, RunningAt}
use Rattle.survey_run.specs.Plans.{IsPlanFor, PlanAt}
use Rattle.survey_run.proofs.EachLemmas.{take_one_more, zip_from_at, zip_length, zip_push}
use Rattle.survey_run.proofs.runs.start_surveys.Goals as goal

pub start_survey-requires-clause-listed : goal.start_survey-requires-clause-listed
start_survey-requires-clause-listed g c κs within =
    let inv = c.loop-plan.invariant in
    let n = vec_len c.loop-plan.running in
    (zip_from_at (PlanAt (model_of c.args.script.now.definition) c.args.count c.args.script.now.sessions) n c.args.surveys.now.items n c.index-survey.result.now c.in-Some.plan _
    (rw c.len-place.ensures at c.index-survey.ensures) (rw c.in-Some.ensures.steps.0 at inv.plans)).1.survey_is.listed

pub start_survey-requires-clause-plan : goal.start_survey-requires-clause-plan
start_survey-requires-clause-plan g c κs within =
    let inv = c.loop-plan.invariant in
    let n = vec_len c.loop-plan.running in
    let front = zip_from_at (PlanAt (model_of c.args.script.now.definition) c.args.count c.args.script.now.sessions) n c.args.surveys.now.items n c.index-survey.result.now c.in-Some.plan _
    (rw c.len-place.ensures at c.index-survey.ensures) (rw c.in-Some.ensures.steps.0 at inv.plans) in
    subst (λ (m : ℕ). IsPlanFor c.index-survey.result.now (m + 1) c.args.script.now.sessions c.in-Some.plan) (sym c.len-place.ensures) front.1.plan_is

pub loop-plan-preserved : goal.loop-plan-preserved
loop-plan-preserved g c =
    let inv = c.loop-plan.invariant in
    let running = c.loop-plan.running in
    let n = vec_len running in
    let surveys = c.args.surveys.now.items in
    let survey = c.index-survey.result.now in
    let model = model_of c.args.script.now.definition in
    let front = zip_from_at (PlanAt model c.args.count c.args.script.now.sessions) n surveys n survey c.in-Some.plan _
    (rw c.len-place.ensures at c.index-survey.ensures) (rw c.in-Some.ensures.steps.0 at inv.plans) in
    let one : n + 1 ≡ suc n = omega arith in
    let items : vec_len running ≡ length running.items = search rules in
    let same = zip_length (RunningAt model c.args.count c.args.script.now.sessions) 0 (take n surveys) running.items inv.runs in
    let long : 0 + length (take n surveys) ≡ n = omega (arith, items, same) in
    let starts : IsRunningOf survey (n + 1) c.args.script.now.sessions c.start_survey.result =
    subst (λ (m : ℕ). IsRunningOf survey (m + 1) c.args.script.now.sessions c.start_survey.result) c.len-place.ensures c.start_survey.ensures in
    record {
      count = omega (arith, inv.count, c.in-Some.ensures.steps.1, c.push_reserved.ensures.len);
      room = omega (arith, inv.room, c.in-Some.ensures.steps.1, c.push_reserved.ensures.len, c.push_reserved.ensures.capacity);
      plans = rw c.push_reserved.ensures.len (subst (λ (m : ℕ). EachZipFrom (PlanAt model c.args.count c.args.script.now.sessions) (n + 1) (drop m surveys) (into_iter_items c.next.new.self)) (sym one) front.2);
      runs = rw (take_one_more surveys n (vec_len c.push_reserved.new.self) survey c.push_reserved.ensures.len front.0, c.push_reserved.ensures.items)
          (zip_push (RunningAt model c.args.count c.args.script.now.sessions) 0 n (take n surveys) running.items survey c.start_survey.result long inv.runs
          (record { survey_is = front.1.survey_is; running_is = starts }));
    }

pub returns : goal.returns
returns g c =
    let inv = c.loop-plan.invariant in
    let running = c.loop-plan.running in
    let surveys = c.args.surveys.now.items in
    let model = model_of c.args.script.now.definition in
    let plans : vec_len c.args.plans ≡ length c.args.plans.items = search rules in
    let same = zip_length (PlanAt model c.args.count c.args.script.now.sessions) 0 surveys c.args.plans.items c.requires.plans in
    let whole = take_whole (vec_len running) surveys (omega (arith, inv.count, plans, same, c.in-None.ensures.steps.0)) in
    subst (λ (xs : List Survey). EachZipFrom (RunningAt model c.args.count c.args.script.now.sessions) 0 xs running.items) whole inv.runs
