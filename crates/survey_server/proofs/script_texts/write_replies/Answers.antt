use Rattle.std.proofs.Common.{◌≡◌, ◌+◌, ◌∙◌, ap, length, List}
use Rattle.std.specs.Prelude.{Option}
use Rattle.json_forms.specs.DefinitionViews.{model_of}
use Rattle.json_forms.specs.declared.messages.Message.{Message}
use Rattle.survey_server.proofs.ScriptTextLemmas.{has_later, session_cut, session_out}
use Rattle.survey_server.proofs.script_texts.write_replies.Goals as goal

pub returns-in-Err-clause-prefix : goal.returns-in-Err-clause-prefix
returns-in-Err-clause-prefix g c =
    let counted : length c.messages.result.now + 1 ≡ length c.session-item.result.messages + 1 =
    ap (λ (messages : List (Option Message)). length messages + 1) c.messages.ensures in
    session_cut (model_of c.args.script.now.definition) c.args.end.now.states c.sessions-sessions.result.now c.loop-session.session-index c.session-item.result
    c.loop-session.replies.now c.split_at.result.0.now c.split_at.result.1.now (length c.messages.result.now + 1) c.loop-session-test.true c.session-item.is
    counted c.split_at.ensures.front c.split_at.ensures.back _ _ _ _ c.loop-session.invariant.out c.in-Err.ensures.prefix

pub loop-session-preserved : goal.loop-session-preserved
loop-session-preserved g c =
    let counted : length c.messages.result.now + 1 ≡ length c.session-item.result.messages + 1 =
    ap (λ (messages : List (Option Message)). length messages + 1) c.messages.ensures in
    record {
      out = session_out (model_of c.args.script.now.definition) c.args.end.now.states c.sessions-sessions.result.now c.loop-session.session-index c.session-item.result
          c.loop-session.replies.now c.split_at.result.0.now c.split_at.result.1.now (length c.messages.result.now + 1) c.loop-session-test.true c.session-item.is
          counted c.split_at.ensures.front c.split_at.ensures.back _ _ _ _ c.loop-session.invariant.out c.in-Ok.ensures.written;
      has = has_later (model_of c.args.script.now.definition) c.args.end.now.states c.sessions-sessions.result.now c.loop-session.session-index c.session-item.result
          c.loop-session.replies.now c.split_at.result.0.now c.split_at.result.1.now (length c.messages.result.now + 1) c.loop-session-test.true c.session-item.is
          counted c.split_at.ensures.front c.split_at.ensures.back c.loop-session.invariant.has;
      quiet = c.in-Ok.ensures.quiet ∙ c.loop-session.invariant.quiet;
      emptied = c.write_session.ensures.emptied;
      room = c.write_session.ensures.room ∙ c.loop-session.invariant.room;
    }
