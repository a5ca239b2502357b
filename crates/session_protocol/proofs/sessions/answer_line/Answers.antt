use Rattle.result_file.proofs.JournalLemmas.{on_ok}
use Rattle.session_protocol.proofs.SessionLemmas.{if_err, goes_by_line, ends_by_bye, ends_by_cut, ends_by_memory}
use Rattle.session_protocol.proofs.sessions.answer_line.Goals as goal

pub returns-in-Err-clause-ends : goal.returns-in-Err-clause-ends
returns-in-Err-clause-ends g c =
    let listed = g.R.Events.listed (g.R.Events.about c.args.respondent.now) in
    let desk = g.R.Respondent.desk (g.R.Events.about c.args.respondent.now) in
    rw c.counted.ensures (ends_by_memory listed desk _ _ c.args.line.now _ c.requires.line c.in-Err.ensures.quiet)

pub returns-in-Ok-write_text-clause-goes : goal.returns-in-Ok-write_text-clause-goes
returns-in-Ok-write_text-clause-goes g c =
    let listed = g.R.Events.listed (g.R.Events.about c.args.respondent.now) in
    let desk = g.R.Respondent.desk (g.R.Events.about c.args.respondent.now) in
    on_ok c.go_on.result _ _
    (goes_by_line listed desk _ _ _ c.args.line.now c.in-Ok.reply _ _ c.requires.line c.in-Ok.ensures.answered c.in-Ok-write_text.ensures.watches
    (rw c.in-Ok.ensures.same at c.in-Ok-write_text.ensures.written))
    c.go_on.ensures.goes

pub returns-in-Ok-write_text-clause-ends : goal.returns-in-Ok-write_text-clause-ends
returns-in-Ok-write_text-clause-ends g c =
    let listed = g.R.Events.listed (g.R.Events.about c.args.respondent.now) in
    let desk = g.R.Respondent.desk (g.R.Events.about c.args.respondent.now) in
    if_err c.go_on.result _ _
    (ends_by_bye listed desk _ _ _ c.args.line.now c.in-Ok.reply _ _ c.requires.line c.in-Ok.ensures.answered c.in-Ok-write_text.ensures.watches
    (rw c.in-Ok.ensures.same at c.in-Ok-write_text.ensures.written))
    c.go_on.ensures.ends

pub returns-in-Err-write_text-clause-ends : goal.returns-in-Err-write_text-clause-ends
returns-in-Err-write_text-clause-ends g c =
    let listed = g.R.Events.listed (g.R.Events.about c.args.respondent.now) in
    let desk = g.R.Respondent.desk (g.R.Events.about c.args.respondent.now) in
    rw c.counted-in-Err-write_text.ensures
    (ends_by_cut listed desk _ _ _ c.args.line.now c.in-Ok.reply _ _ c.requires.line c.in-Ok.ensures.answered c.in-Err-write_text.ensures.watches
    (rw c.in-Ok.ensures.same at c.in-Err-write_text.ensures.prefix))
