use Rattle.std.proofs.Common.{◌≡◌, ◌∙◌, ℕ, length, ap, rules, arith}
use Rattle.std.specs.Prelude.{vec_len}
use Rattle.json_forms.specs.DefinitionViews.{DefinitionView}
use Rattle.survey_script.specs.ScriptViews.{line_count}
use Rattle.survey_run.specs.Joins.{HasRooms}
use Rattle.survey_run.specs.Plans.{IsPlan}
use Rattle.survey_run.specs.Prepared.{HasEndRooms}
use Rattle.survey_run.proofs.ScriptRunLemmas.{plan_count, plans_given, works_given}
use Rattle.survey_run.proofs.script_run.prepare.Goals as goal

pub returns : goal.returns
returns c =
    let script = c.args.script.now in
    let surveys = c.in_ok-plan.plan.surveys in
    let plans = c.in_ok-plan.plan.plans in
    let works = c.in_ok-plan.plan.works in
    let plan : IsPlan script c.args.workers surveys.items plans.items works.items = c.in_ok-plan.ensures in
    let many : vec_len works ≡ length works.items = search rules in
    let all : vec_len surveys ≡ length surveys.items = search rules in
    let long : vec_len plans ≡ length plans.items = search rules in
    let count = plan_count script c.args.workers surveys.items plans.items works.items plan in
    let respondents : c.respondents.result ≡ length script.definition.respondents =
    c.respondents.ensures.value ∙ ap {B = ℕ} (λ (definition : DefinitionView). length definition.respondents) c.definition.ensures in
    let some : c.len.result ≡ vec_len plans = c.len.ensures in
    let others : c.len-2.result ≡ vec_len works = c.len-2.ensures in
    let flags : c.len-3.result ≡ vec_len works = c.len-3.ensures in
    let last : c.len-4.result ≡ vec_len surveys = c.len-4.ensures in
    let lines : c.count_lines-lines.result ≡ line_count script.sessions =
    c.count_lines-lines.ensures ∙ ap {B = ℕ} line_count c.sessions.ensures.value in
    let rooms : HasRooms c.len.result c.len-2.result c.in_ok-rooms.rooms = c.in_ok-rooms.ensures in
    let end_rooms : HasEndRooms c.len-4.result c.count_lines-lines.result c.in_ok-end_rooms.end_rooms = c.in_ok-end_rooms.ensures in
    record {
      plans = plans_given script c.args.workers surveys.items plans.items works.items plan (vec_len works) many;
      works = works_given script c.args.workers surveys.items plans.items works.items plan (vec_len surveys) all;
      surveys_are = (all ∙ plan.count, omega (arith, all, plan.count, respondents, c.respondents.ensures.range));
      plans_are = omega (arith, long, count, all, plan.count);
      workers_are = many ∙ plan.workers_are;
      rooms = rw (some, others) at rooms;
      flags = c.in_ok-flags.ensures ∙ flags;
      end_rooms = rw (last, lines) at end_rooms;
    }
