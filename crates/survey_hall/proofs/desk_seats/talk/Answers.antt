use Rattle.std.proofs.Common.{rules, subst}
use Rattle.edges.specs.Lines.{ahead}
use Rattle.session_protocol.specs.declared.sessions.TheConstants.{MAX_MESSAGES}
use Rattle.session_protocol.specs.Sessions.{IsCountedSession, session_view}
use Rattle.survey_replies.specs.Calls.{Seen}
use Rattle.shared_survey.specs.Passes.{desk_of, pass_seen, survey_listed}
use Rattle.survey_hall.specs.Visits.{OwnsSeenPlaces}
use Rattle.survey_hall.proofs.OwnLemmas.{session_owns}
use Rattle.survey_hall.proofs.desk_seats.talk.Goals as goal

pub returns-clause-session : goal.returns-clause-session
returns-clause-session g c =
    subst (λ (after : Seen). IsCountedSession (survey_listed c.args.survey.now) (desk_of c.args.pass.now)
    (session_view (pass_seen c.args.pass.now) (ahead c.args.lines.now (g.S.Source.left c.args.source.now)) (g.K.Sink.written c.args.sink.now))
    (session_view after (ahead c.session_counted.new.lines (g.S.Source.left c.session_counted.new.source)) (g.K.Sink.written c.session_counted.new.sink))
    MAX_MESSAGES c.session_counted.result)
    (search rules)
    (simp (c.lend-desk.ensures.lent.0, c.lend-desk.ensures.lent.1) at c.session_counted.ensures.session)

pub returns-clause-owned : goal.returns-clause-owned
returns-clause-owned g c = λ owned.
    subst (λ (after : Seen). OwnsSeenPlaces after) (search rules)
    (session_owns (survey_listed c.args.survey.now) (desk_of c.args.pass.now) _ _ MAX_MESSAGES c.session_counted.result
    (simp (c.lend-desk.ensures.lent.0, c.lend-desk.ensures.lent.1) at c.session_counted.ensures.session) owned)
