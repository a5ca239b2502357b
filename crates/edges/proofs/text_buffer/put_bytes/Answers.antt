use Rattle.std.proofs.Common.{◌-◌, length, drop, arith, ◌∙◌}
use Rattle.std.proofs.lemmas.List.{length-drop, length-take}
use Rattle.edges.proofs.ToldLemmas.{Appends-more}
use Rattle.edges.proofs.text_buffer.put_bytes.Goals as goal

pub loop-done-preserved : goal.loop-done-preserved
loop-done-preserved g c = record {
  within = omega (arith, c.in_ok-done.ensures.within, length-take (length c.args.bytes.now - c.loop-done.done) (drop c.loop-done.done c.args.bytes.now), length-drop c.loop-done.done c.args.bytes.now);
  out = Appends-more (g.K.Sink.written c.args.sink.now) (g.K.Sink.written c.loop-done.sink) (g.K.Sink.written c.put.new.self) c.args.bytes.now c.loop-done.done c.in_ok-done.field-0 c.loop-done.invariant.out c.in_ok-done.ensures.appended;
  quiet = c.in_ok-done.ensures.quiet ∙ c.loop-done.invariant.quiet;
}
