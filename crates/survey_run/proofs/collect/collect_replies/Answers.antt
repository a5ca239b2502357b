use Rattle.std.proofs.Common.{◌≡◌, ◌∙◌, ℕ, ◌+◌, ◌++◌, ◌≤◌, suc, List, refl, Some, length, slice_get, ap, subst, rules, arith, length-append}
use Rattle.std.specs.List.{flat_map}
use Rattle.std.proofs.lemmas.List.{take_all}
use Rattle.std.proofs.lemmas.Option.{slice_get_read}
use Rattle.json_forms.specs.DefinitionViews.{model_of}
use Rattle.json_forms.specs.declared.replies.Reply.{Reply}
use Rattle.survey_script.specs.ScriptViews.{ScriptSessionView}
use Rattle.survey_run.specs.Collects.{runs_from}
use Rattle.survey_run.specs.Runs.{count_of}
use Rattle.survey_run.specs.Sessions.{replies_of}
use Rattle.survey_run.proofs.CollectLemmas.{lines_front, lines_more, replies_more}
use Rattle.survey_run.proofs.collect.collect_replies.Goals as goal

pub add_replies-requires : goal.add_replies-requires
add_replies-requires c =
    let sessions = c.args.script.now.sessions in
    let place = c.loop-place.place in
    let session = c.index-sessions-place.result in
    let given = c.sessions-sessions.result.now in
    let read = slice_get_read given (length given) place session refl (omega (arith, c.loop-place-test.true, c.loop-place.auto.place-end)) c.index-sessions-place.is in
    let stands = subst (λ (ss : List ScriptSessionView). slice_get ss place ≡ Some session) c.sessions-sessions.ensures.value read in
    let grown = lines_more sessions place (suc place) session refl stands in
    let most = lines_front sessions (suc place) in
    omega (arith, c.loop-place.invariant.lines, c.loop-place.invariant.same, grown, most, c.session_replies-more.ensures.count, c.requires.room.1)

pub loop-place-preserved : goal.loop-place-preserved
loop-place-preserved c =
    let sessions = c.args.script.now.sessions in
    let place = c.loop-place.place in
    let session = c.index-sessions-place.result in
    let given = c.sessions-sessions.result.now in
    let read = slice_get_read given (length given) place session refl (omega (arith, c.loop-place-test.true, c.loop-place.auto.place-end)) c.index-sessions-place.is in
    let stands = subst (λ (ss : List ScriptSessionView). slice_get ss place ≡ Some session) c.sessions-sessions.ensures.value read in
    let next : place + 1 ≡ suc place = omega arith in
    let grown = lines_more sessions place (place + 1) session next stands in
    let long = ap {B = ℕ} length c.add_replies.ensures.items ∙ length-append c.loop-place.replies.items c.session_replies-more.result.now in
    record {
      lines = omega (arith, c.loop-place.invariant.lines, grown, long, c.session_replies-more.ensures.count);
      replies = λ workers parts each.
          replies_more (count_of (model_of c.args.script.now.definition)) parts sessions place (place + 1) session c.loop-place.replies.items c.add_replies.new.replies.items next stands
          (c.loop-place.invariant.replies workers parts each)
          (c.add_replies.ensures.items ∙ ap (λ (more : List Reply). c.loop-place.replies.items ++ more) (c.session_replies-more.ensures.replies workers parts each).0);
      same = c.add_replies.ensures.room ∙ c.loop-place.invariant.same;
    }

pub returns-clause-replies : goal.returns-clause-replies
returns-clause-replies c =
    let sessions = c.args.script.now.sessions in
    let over : length sessions ≤ c.loop-place.place = search rules in
    λ workers parts each.
    subst (λ (ss : List ScriptSessionView). c.loop-place.replies.items ≡ flat_map (replies_of (count_of (model_of c.args.script.now.definition))) (runs_from parts 0 ss))
    (take_all c.loop-place.place sessions over) (c.loop-place.invariant.replies workers parts each)
