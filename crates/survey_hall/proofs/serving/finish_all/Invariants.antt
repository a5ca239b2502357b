use Rattle.std.proofs.Common.{◌≡◌, ◌+◌, ◌≤◌, List}
use Rattle.std.specs.Prelude.{vec_len, vec_capacity}
use Rattle.std.specs.Vec.Iter.{into_iter_items, into_iter_len}
use Rattle.json_forms.specs.DefinitionViews.{DefinitionView}
use Rattle.survey_hall.specs.Serving.{ServesEach}
use Rattle.survey_hall.proofs.ConnectionThreadLemmas.{IsServedSoFar}
use Rattle.survey_hall.proofs.serving.finish_all.Given as goal

abbrev pub invariant-loop-connection : goal.invariant-loop-connection
invariant-loop-connection g l = let rest = l.connection-iterator in record {
  each : (definition : DefinitionView) (accepted : List (g.row.I.Denot × g.row.O.Denot))
      → ServesEach g.I.Source.left g.I.Source.faults g.O.Sink.written g.O.Sink.faults definition accepted l.fn.connections.items
      → IsServedSoFar g.I.Source.left g.I.Source.faults g.O.Sink.written g.O.Sink.faults definition accepted l.served.items (into_iter_items rest);
  len : vec_len l.served + into_iter_len rest ≡ vec_len l.fn.connections;
  room : vec_len l.served + into_iter_len rest ≤ vec_capacity l.served;
}
