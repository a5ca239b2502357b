use Rattle.std.proofs.Common.{◌≡◌, [], map, take}
use Rattle.std.specs.List.{concat}
use Rattle.edges.specs.Told.{Appends}
use Rattle.survey_replies.specs.Calls.{Watches}
use Rattle.session_protocol.specs.Sessions.{text_of}
use Rattle.session_protocol.proofs.writing.write_texts.Given as goal

-- So far the texts of the replies were written.
abbrev pub invariant-loop-reply : goal.invariant-loop-reply
invariant-loop-reply g l = record {
  out : Appends (g.K.Sink.written l.fn.sink) (g.K.Sink.written l.sink)
      (concat (map (text_of (g.E.Events.listed (g.E.Events.about l.fn.events)) (g.E.Events.seen l.fn.events).journal) (take l.reply-index l.replies)));
  quiet : g.K.Sink.faults l.sink ≡ g.K.Sink.faults l.fn.sink;
  emptied : l.text.bytes ≡ [];
  room : l.text.room ≡ l.fn.text.room;
  watches : Watches (g.E.Events.seen l.fn.events) (g.E.Events.seen l.events);
  same : g.E.Events.about l.events ≡ g.E.Events.about l.fn.events;
}
