use Rattle.std.proofs.Common.{None, refl}
use Rattle.session_protocol.proofs.ExchangeLemmas.{answered_by_look}
use Rattle.session_protocol.proofs.handling.handle_message.Goals as goal

pub returns-in-None-clause-answered : goal.returns-in-None-clause-answered
returns-in-None-clause-answered g c =
    let listed = g.R.Events.listed (g.R.Events.about c.args.respondent.now) in
    let desk = g.R.Respondent.desk (g.R.Events.about c.args.respondent.now) in
    let before = g.R.Events.seen c.args.respondent.now in
    rw c.in-None.is (answered_by_look listed desk before None refl)
