use Rattle.std.proofs.Common.{ℕ, ◌+◌, suc, length, ap, refl, arith}
use Rattle.std.proofs.lemmas.Option.{slice_get_read}
use Rattle.survey_run.proofs.CollectLemmas.{lines_front, lines_more}
use Rattle.survey_run.proofs.script_run.count_lines.Goals as goal

pub overflow_add-count-in-loop-session : goal.overflow_add-count-in-loop-session
overflow_add-count-in-loop-session c =
    let sessions = c.args.sessions.now in
    let place = c.loop-session.session-index in
    let session = c.session-item.result in
    let stands = slice_get_read sessions (length sessions) place session refl c.loop-session-test.true c.session-item.is in
    let grown = lines_more sessions place (suc place) session refl stands in
    let most = lines_front sessions (suc place) in
    let long = ap {B = ℕ} length c.messages.ensures in
    omega (arith, c.loop-session.invariant, grown, most, long, c.requires)

pub loop-session-preserved : goal.loop-session-preserved
loop-session-preserved c =
    let sessions = c.args.sessions.now in
    let place = c.loop-session.session-index in
    let session = c.session-item.result in
    let stands = slice_get_read sessions (length sessions) place session refl c.loop-session-test.true c.session-item.is in
    let grown = lines_more sessions place (place + 1) session (omega arith) stands in
    let long = ap {B = ℕ} length c.messages.ensures in
    omega (arith, c.loop-session.invariant, grown, long)
