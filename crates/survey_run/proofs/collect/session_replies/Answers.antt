use Rattle.std.proofs.Common.{◌≡◌, ◌∙◌, ◌≤◌, length, rules, arith}
use Rattle.std.specs.Prelude.{vec_len}
use Rattle.json_forms.specs.DefinitionViews.{model_of}
use Rattle.survey_run.specs.Collects.{run_at}
use Rattle.survey_run.specs.Runs.{count_of}
use Rattle.survey_run.proofs.CollectLemmas.{desk_within, place_within, replies_are, reply_count}
use Rattle.survey_run.proofs.RunByLemmas.{session_whole}
use Rattle.survey_run.proofs.collect.session_replies.Goals as goal

pub overflow_sub-end : goal.overflow_sub-end
overflow_sub-end c =
    let session = session_whole c.args.script.now c.requires.ends.whole c.args.place c.args.session.now c.requires.session in
    omega (arith, c.respondent.ensures, session.respondent.0)

pub bounds-ends-respondent : goal.bounds-ends-respondent
bounds-ends-respondent c =
    let session = session_whole c.args.script.now c.requires.ends.whole c.args.place c.args.session.now c.requires.session in
    omega (arith, c.respondent.ensures, session.respondent.0, session.respondent.1, c.requires.ends.count)

pub overflow_sub-from : goal.overflow_sub-from
overflow_sub-from c =
    let session = session_whole c.args.script.now c.requires.ends.whole c.args.place c.args.session.now c.requires.session in
    omega (arith, c.desk.ensures, c.from.ensures, session.desk.0)

pub index-told-requires : goal.index-told-requires
index-told-requires c =
    let ends = c.requires.ends in
    let session = session_whole c.args.script.now ends.whole c.args.place c.args.session.now c.requires.session in
    let end = c.index-ends-respondent.result in
    let within = desk_within (model_of c.args.script.now.definition) ends.workers c.args.script.now.sessions ends.parts c.args.ends.now c.args.session.now c.args.place ends.each
    c.requires.session session.respondent.0 (omega (arith, session.respondent.1, ends.count)) session.desk end (rw c.respondent.ensures at c.index-ends-respondent.is) in
    let long : vec_len end.told ≡ length end.told.items = search rules in
    omega (arith, within, long, c.desk.ensures, c.from.ensures)

pub index-requires : goal.index-requires
index-requires c =
    let ends = c.requires.ends in
    let session = session_whole c.args.script.now ends.whole c.args.place c.args.session.now c.requires.session in
    let high : c.args.session.now.respondent ≤ length c.args.ends.now = omega (arith, session.respondent.1, ends.count) in
    let same : c.from.result ≡ c.args.session.now.desk = c.from.ensures ∙ c.desk.ensures in
    let within = place_within (model_of c.args.script.now.definition) ends.workers c.args.script.now.sessions ends.parts c.args.ends.now c.args.session.now c.args.place ends.each
    c.requires.session session.respondent.0 high session.desk c.index-ends-respondent.result c.index-told.result.now
    (rw c.respondent.ensures at c.index-ends-respondent.is) (rw same at c.index-told.ensures) in
    let long : vec_len c.index-told.result.now.sessions ≡ length c.index-told.result.now.sessions.items = search rules in
    omega (arith, within, long)

pub returns-clause-replies : goal.returns-clause-replies
returns-clause-replies c =
    let ends = c.requires.ends in
    let session = session_whole c.args.script.now ends.whole c.args.place c.args.session.now c.requires.session in
    let high : c.args.session.now.respondent ≤ length c.args.ends.now = omega (arith, session.respondent.1, ends.count) in
    let same : c.from.result ≡ c.args.session.now.desk = c.from.ensures ∙ c.desk.ensures in
    λ workers parts each.
    let are = replies_are (model_of c.args.script.now.definition) workers c.args.script.now.sessions parts c.args.ends.now c.args.session.now c.args.place each
    c.requires.session session.respondent.0 high session.desk c.index-ends-respondent.result c.index-told.result.now c.index.result.now
    (rw c.respondent.ensures at c.index-ends-respondent.is) (rw same at c.index-told.ensures) c.index.ensures in
    (c.as_slice.ensures.value ∙ are.0, are.1)

pub returns-clause-count : goal.returns-clause-count
returns-clause-count c =
    let ends = c.requires.ends in
    let session = session_whole c.args.script.now ends.whole c.args.place c.args.session.now c.requires.session in
    let high : c.args.session.now.respondent ≤ length c.args.ends.now = omega (arith, session.respondent.1, ends.count) in
    let same : c.from.result ≡ c.args.session.now.desk = c.from.ensures ∙ c.desk.ensures in
    let criteria = model_of c.args.script.now.definition in
    let are = replies_are criteria ends.workers c.args.script.now.sessions ends.parts c.args.ends.now c.args.session.now c.args.place ends.each
    c.requires.session session.respondent.0 high session.desk c.index-ends-respondent.result c.index-told.result.now c.index.result.now
    (rw c.respondent.ensures at c.index-ends-respondent.is) (rw same at c.index-told.ensures) c.index.ensures in
    reply_count (count_of criteria) c.args.session.now (run_at ends.parts c.args.session.now c.args.place) c.as_slice.result.now (c.as_slice.ensures.value ∙ are.0) are.1
