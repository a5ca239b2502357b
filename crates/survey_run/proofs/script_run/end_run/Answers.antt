use Rattle.std.proofs.Common.{◌≡◌, ◌∙◌, ℕ, length, ap, rules, arith}
use Rattle.std.specs.Prelude.{vec_len}
use Rattle.json_forms.specs.DefinitionViews.{model_of}
use Rattle.survey_run.specs.declared.ends.SurveyEnd.{SurveyEnd}
use Rattle.survey_run.specs.Each.{EachZipFrom}
use Rattle.survey_run.specs.Ends.{EndAt}
use Rattle.survey_run.proofs.ListLemmas.{map_length}
use Rattle.survey_run.proofs.ScriptRunLemmas.{all_ended, ends_are, script_ran}
use Rattle.survey_run.proofs.script_run.end_run.Goals as goal

pub collect_replies-replies-requires-clause-ends : goal.collect_replies-replies-requires-clause-ends
collect_replies-replies-requires-clause-ends c =
    let script = c.args.script.now in
    let workers = vec_len c.args.finished.worked in
    let ends = c.in_ok-ends.ends in
    let ended = all_ended script workers (vec_len c.args.surveys) c.args.surveys.items c.args.finished.spoken.items ends.items c.requires.surveys.0 c.requires.spoken c.in_ok-ends.ensures in
    rw c.as_slice.ensures.value (ends_are script workers ends.items c.sessions.ensures.whole ended)

pub collect_states-states-requires : goal.collect_states-states-requires
collect_states-states-requires c =
    let ends = c.in_ok-ends.ends in
    let ended = all_ended c.args.script.now (vec_len c.args.finished.worked) (vec_len c.args.surveys) c.args.surveys.items c.args.finished.spoken.items ends.items
    c.requires.surveys.0 c.requires.spoken c.in_ok-ends.ensures in
    let long : vec_len ends ≡ length ends.items = search rules in
    (c.requires.rooms.states.0, omega (arith, long, ended.count, c.requires.surveys.0, c.requires.rooms.states.1))

pub of-requires-clause-states : goal.of-requires-clause-states
of-requires-clause-states c =
    let ends = c.in_ok-ends.ends in
    let ended = all_ended c.args.script.now (vec_len c.args.finished.worked) (vec_len c.args.surveys) c.args.surveys.items c.args.finished.spoken.items ends.items
    c.requires.surveys.0 c.requires.spoken c.in_ok-ends.ensures in
    let states = ap {B = ℕ} length c.collect_states-states.ensures ∙ map_length (λ (one : SurveyEnd). one.state) ends.items in
    omega (arith, states, ended.count, c.requires.surveys.0, c.requires.surveys.1)

pub returns : goal.returns
returns c =
    let script = c.args.script.now in
    let workers = vec_len c.args.finished.worked in
    let ends = c.in_ok-ends.ends in
    let ended = all_ended script workers (vec_len c.args.surveys) c.args.surveys.items c.args.finished.spoken.items ends.items c.requires.surveys.0 c.requires.spoken c.in_ok-ends.ensures in
    let each : EachZipFrom (EndAt (model_of script.definition) workers script.sessions) 0 ended.parts c.as_slice.result.now = rw c.as_slice.ensures.value ended.each in
    script_ran script workers ends.items c.of.result c.sessions.ensures.whole ended (c.of.ensures.0 ∙ c.collect_states-states.ensures)
    (c.of.ensures.1 ∙ c.collect_replies-replies.ensures.replies workers ended.parts each)
