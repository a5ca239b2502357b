use Rattle.survey_server.proofs.ScriptRunLemmas.{runs_cut, runs_none, runs_whole}
use Rattle.survey_server.proofs.ScriptTextLemmas.{run_has_replies}
use Rattle.survey_server.proofs.script_runs.run_script.Goals as goal

pub returns-in-Err-clause-outcome : goal.returns-in-Err-clause-outcome
returns-in-Err-clause-outcome g c = rw c.stop_of.ensures (runs_none c.args.workers _ _ _ c.in-Err.stop c.in-Err.ensures.read c.in-Err.ensures.first)

pub write_replies-requires-clause-able : goal.write_replies-requires-clause-able
write_replies-requires-clause-able g c =
    let run = c.in-Ok-run_sessions.ensures in
    run_has_replies c.in-Ok.script c.args.workers c.in-Ok-run_sessions.end run.0 run.1 c.in-Ok.ensures.whole

pub returns-in-Ok-write_replies-clause-outcome : goal.returns-in-Ok-write_replies-clause-outcome
returns-in-Ok-write_replies-clause-outcome g c =
    runs_whole c.in-Ok.script c.args.workers c.in-Ok-run_sessions.end _ _ _ _ c.in-Ok.ensures.read c.in-Ok.ensures.whole c.in-Ok.ensures.ended c.in-Ok-run_sessions.ensures
    c.in-Ok-write_replies.ensures.written

pub returns-clause-outcome : goal.returns-clause-outcome
returns-clause-outcome g c =
    runs_cut c.in-Ok.script c.args.workers c.in-Ok-run_sessions.end _ _ _ _ c.in-Ok.ensures.read c.in-Ok.ensures.whole c.in-Ok.ensures.ended c.in-Ok-run_sessions.ensures
    c.in-Err-write_replies.ensures.prefix
