use Rattle.std.proofs.Common.{◌≡◌, ◌+◌, ◌≤◌, ◌++◌, length, take}
use Rattle.std.specs.List.{All}
use Rattle.survey_replies.specs.Calls.{Watches}
use Rattle.result_file.specs.Events.{event_line}
use Rattle.result_file.specs.Files.{IsOut}
use Rattle.result_file.specs.Numbers.{HasNumbers}
use Rattle.result_file.proofs.JournalLemmas.{lines_text}
use Rattle.result_file.proofs.journals.write_events.Given as goal

-- The lines of the first events are out or in the text, which has room for one more.
abbrev pub invariant-loop-place : goal.invariant-loop-place
invariant-loop-place g l = record {
  out : IsOut (g.K.Sink.written l.fn.sink) (g.K.Sink.written l.sink) l.text.bytes
      (l.fn.text.bytes ++ lines_text (event_line (g.E.Events.listed (g.E.Events.about l.fn.events)).classes) l.place (g.E.Events.seen l.fn.events).journal);
  numbers : All HasNumbers (take l.place (g.E.Events.seen l.fn.events).journal);
  free : length l.text.bytes + 4096 ≤ l.text.room;
  room : l.text.room ≡ l.fn.text.room;
  quiet : g.K.Sink.faults l.sink ≡ g.K.Sink.faults l.fn.sink;
  watches : Watches (g.E.Events.seen l.fn.events) (g.E.Events.seen l.events);
  same : g.E.Events.about l.events ≡ g.E.Events.about l.fn.events;
}
