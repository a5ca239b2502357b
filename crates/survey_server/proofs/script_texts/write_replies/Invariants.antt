use Rattle.std.proofs.Common.{◌≡◌, [], drop}
use Rattle.json_forms.specs.DefinitionViews.{model_of}
use Rattle.result_file.specs.Files.{IsOut}
use Rattle.survey_server.specs.ScriptTexts.{EachHasReplies, text_by_lines}
use Rattle.survey_server.proofs.script_texts.write_replies.Given as goal

-- So far the texts of the replies to the lines of the first sessions were written.
abbrev pub invariant-loop-session : goal.invariant-loop-session
invariant-loop-session g l = record {
  out : IsOut (g.K.Sink.written l.fn.sink) (g.K.Sink.written l.sink) (text_by_lines l.end.states (drop l.session-index l.sessions) l.replies)
      (text_by_lines l.end.states l.script.sessions l.end.replies);
  has : EachHasReplies (model_of l.script.definition) l.end.states (drop l.session-index l.sessions) l.replies;
  quiet : g.K.Sink.faults l.sink ≡ g.K.Sink.faults l.fn.sink;
  emptied : l.text.bytes ≡ [];
  room : l.text.room ≡ l.fn.text.room;
}
