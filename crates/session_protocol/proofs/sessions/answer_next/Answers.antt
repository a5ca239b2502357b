use Rattle.std.proofs.Common.{◌∙◌}
use Rattle.session_protocol.proofs.SessionLemmas.{overlong, ends_by_piece, ends_by_end, ends_by_read}
use Rattle.session_protocol.proofs.sessions.answer_next.Goals as goal

pub returns-in-Piece-clause-ends : goal.returns-in-Piece-clause-ends
returns-in-Piece-clause-ends g c =
    let listed = g.R.Events.listed (g.R.Events.about c.args.respondent.now) in
    let desk = g.R.Respondent.desk (g.R.Events.about c.args.respondent.now) in
    rw c.counted.ensures
    (ends_by_piece listed desk _ c.next_line.new.self _ _ _ (c.next_line.ensures.limits.longest ∙ c.requires.longest) c.in-Piece.ensures.got)

pub returns-in-End-clause-ends : goal.returns-in-End-clause-ends
returns-in-End-clause-ends g c =
    let listed = g.R.Events.listed (g.R.Events.about c.args.respondent.now) in
    let desk = g.R.Respondent.desk (g.R.Events.about c.args.respondent.now) in
    rw c.counted-in-End.ensures (ends_by_end listed desk _ c.next_line.new.self _ _ _ c.in-End.ensures.got)

pub returns-in-TooLong-clause-too_long : goal.returns-in-TooLong-clause-too_long
returns-in-TooLong-clause-too_long g c = λ is.
    overlong c.next_line.new.self _ _ (c.next_line.ensures.limits.longest ∙ c.requires.longest) c.in-TooLong.ensures.got

pub returns-in-ReadFault-clause-ends : goal.returns-in-ReadFault-clause-ends
returns-in-ReadFault-clause-ends g c =
    let listed = g.R.Events.listed (g.R.Events.about c.args.respondent.now) in
    let desk = g.R.Respondent.desk (g.R.Events.about c.args.respondent.now) in
    rw c.counted-in-ReadFault.ensures (ends_by_read listed desk _ c.next_line.new.self _ _ _ c.in-ReadFault.ensures.got)
