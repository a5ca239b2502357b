use Rattle.std.proofs.Common.{◌≡◌, ◌∙◌, ℕ, length, sym, subst, rules, arith}
use Rattle.std.specs.Prelude.{vec_len}
use Rattle.json_forms.specs.DefinitionViews.{model_of}
use Rattle.survey_run.specs.Each.{EachZipFrom}
use Rattle.survey_run.specs.Joins.{RunningAt}
use Rattle.survey_run.specs.Plans.{PlanAt}
use Rattle.survey_run.proofs.EachLemmas.{zip_length}
use Rattle.survey_run.proofs.PlanLemmas.{plans_models, running_rooms}
use Rattle.survey_run.proofs.runs.run_beside.Goals as goal

pub start_workers-working-requires-clause-models : goal.start_workers-working-requires-clause-models
start_workers-working-requires-clause-models g c κs within =
    rw c.requires.model (plans_models (model_of c.args.script.now.definition) (vec_len c.args.works) c.args.script.now.sessions 0 c.args.surveys.now.items c.args.plans.items c.requires.plans)

pub start_surveys-running-requires-clause-plans : goal.start_surveys-running-requires-clause-plans
start_surveys-running-requires-clause-plans g c κs within =
    let model = model_of c.args.script.now.definition in
    let many : c.len.result ≡ vec_len c.args.works = c.len.ensures ∙ c.start_workers-working.ensures.1 in
    subst (λ (workers : ℕ). EachZipFrom (PlanAt model workers c.args.script.now.sessions) 0 c.args.surveys.now.items c.args.plans.items) (sym many) c.requires.plans

pub finish_surveys-spoken-requires-clause-rooms : goal.finish_surveys-spoken-requires-clause-rooms
finish_surveys-spoken-requires-clause-rooms g c =
    running_rooms (model_of c.args.script.now.definition) c.len.result c.args.script.now.sessions 0 c.args.surveys.now.items c.start_surveys-running.result.items
    c.start_surveys-running.ensures

pub finish_surveys-spoken-requires-clause-room : goal.finish_surveys-spoken-requires-clause-room
finish_surveys-spoken-requires-clause-room g c =
    let model = model_of c.args.script.now.definition in
    let plans = zip_length (PlanAt model (vec_len c.args.works) c.args.script.now.sessions) 0 c.args.surveys.now.items c.args.plans.items c.requires.plans in
    let running = zip_length (RunningAt model c.len.result c.args.script.now.sessions) 0 c.args.surveys.now.items c.start_surveys-running.result.items c.start_surveys-running.ensures in
    let a : vec_len c.args.plans ≡ length c.args.plans.items = search rules in
    let b : vec_len c.start_surveys-running.result ≡ length c.start_surveys-running.result.items = search rules in
    (c.requires.rooms.spoken.0, omega (arith, plans, running, a, b, c.requires.rooms.spoken.1))

pub returns : goal.returns
returns g c =
    let model = model_of c.args.script.now.definition in
    let surveys = c.args.surveys.now.items in
    let sessions = c.args.script.now.sessions in
    let many : c.len.result ≡ vec_len c.args.works = c.len.ensures ∙ c.start_workers-working.ensures.1 in
    let each = subst (λ (workers : ℕ). EachZipFrom (RunningAt model workers sessions) 0 surveys c.start_surveys-running.result.items) many c.start_surveys-running.ensures in
    record {
      spoken = c.finish_surveys-spoken.ensures model (vec_len c.args.works) surveys sessions each;
      worked = (c.finish_workers-worked.ensures.each surveys c.start_workers-working.ensures.0, c.finish_workers-worked.ensures.count ∙ c.start_workers-working.ensures.1);
    }
