use Rattle.std.proofs.Common.{◌≡◌, []}
use Rattle.edges.specs.Lines.{KeepsLimits, ahead}
use Rattle.session_protocol.specs.Sessions.{SessionGoesOn, session_view}
use Rattle.session_protocol.proofs.sessions.session_counted.Given as goal

-- So far each message was answered, and none was a bye.
abbrev pub invariant-loop-count : goal.invariant-loop-count
invariant-loop-count g l = record {
  goes : SessionGoesOn (g.R.Events.listed (g.R.Events.about l.fn.respondent)) (g.R.Respondent.desk (g.R.Events.about l.fn.respondent))
      (session_view (g.R.Events.seen l.fn.respondent) (ahead l.fn.lines (g.S.Source.left l.fn.source)) (g.K.Sink.written l.fn.sink))
      (session_view (g.R.Events.seen l.respondent) (ahead l.lines (g.S.Source.left l.source)) (g.K.Sink.written l.sink)) l.count;
  quiet_source : g.S.Source.faults l.source ≡ g.S.Source.faults l.fn.source;
  quiet_sink : g.K.Sink.faults l.sink ≡ g.K.Sink.faults l.fn.sink;
  limits : KeepsLimits l.fn.lines l.lines;
  emptied : l.text.bytes ≡ [];
  room : l.text.room ≡ l.fn.text.room;
  same : g.R.Events.about l.respondent ≡ g.R.Events.about l.fn.respondent;
}
