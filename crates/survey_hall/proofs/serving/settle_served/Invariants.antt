use Rattle.std.proofs.Common.{◌≡◌, List}
use Rattle.std.specs.Prelude.{vec_len, vec_capacity}
use Rattle.json_forms.specs.DefinitionViews.{DefinitionView}
use Rattle.survey_hall.specs.Serving.{ServesEach}
use Rattle.survey_hall.proofs.serving.settle_served.Given as goal

abbrev pub invariant-loop-look : goal.invariant-loop-look
invariant-loop-look g l = record {
  each : (definition : DefinitionView) (accepted : List (g.row.I.Denot × g.row.O.Denot))
      → ServesEach g.I.Source.left g.I.Source.faults g.O.Sink.written g.O.Sink.faults definition accepted l.fn.connections.items
      → ServesEach g.I.Source.left g.I.Source.faults g.O.Sink.written g.O.Sink.faults definition accepted l.connections.items;
  len : vec_len l.connections ≡ vec_len l.fn.connections;
  room : vec_capacity l.connections ≡ vec_capacity l.fn.connections;
}
