use Rattle.std.proofs.Common.{◌≡◌, ◌≤◌}
use Rattle.std.specs.Prelude.{vec_len, vec_capacity}
use Rattle.survey_hall.specs.Serving.{HasAccepted}
use Rattle.survey_hall.proofs.serving.accept_all.Given as goal

abbrev pub invariant-loop-place : goal.invariant-loop-place
invariant-loop-place g l = record {
  accepted : HasAccepted g.I.Source.left g.I.Source.faults g.O.Sink.written g.O.Sink.faults l.hall.definition (g.D.Door.ends l.fn.door) (g.D.Door.ends l.door) l.connections.items;
  len : vec_len l.connections ≡ l.place;
  room : l.count ≤ vec_capacity l.connections;
  quiet : g.D.Door.faults l.door ≡ g.D.Door.faults l.fn.door;
}
