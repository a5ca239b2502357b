use Rattle.session_protocol.proofs.SessionLemmas.{ends_refused, ends_by_refusal}
use Rattle.session_protocol.proofs.sessions.refuse.Goals as goal

pub returns-in-Ok-clause-session : goal.returns-in-Ok-clause-session
returns-in-Ok-clause-session g c = λ desk most ahead ends.
    ends_refused (g.E.Events.listed (g.E.Events.about c.args.events.now)) desk _ _ ahead _ _ most c.args.end _
    c.in-Ok.ensures.watches c.requires.refusal c.in-Ok.ensures.written ends

pub returns-in-Err-clause-session : goal.returns-in-Err-clause-session
returns-in-Err-clause-session g c = λ desk most ahead ends.
    ends_by_refusal (g.E.Events.listed (g.E.Events.about c.args.events.now)) desk _ _ ahead _ _ most c.args.end _
    c.in-Err.ensures.watches c.requires.refusal c.in-Err.ensures.prefix
