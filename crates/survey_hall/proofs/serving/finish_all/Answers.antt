use Rattle.std.proofs.Common.{◌≡◌, ◌∙◌, List, [], length, rules, subst, sym}
use Rattle.std.specs.Vec.Iter.{into_iter_items, into_iter_len}
use Rattle.survey_hall.specs.declared.connection_threads.Connection.{Connection}
use Rattle.survey_hall.proofs.ConnectionThreadLemmas.{IsServedSoFar, all_served, empty_of, one_more_served}
use Rattle.survey_hall.proofs.serving.finish_all.Goals as goal

pub loop-connection-preserved : goal.loop-connection-preserved
loop-connection-preserved g c =
    let inv = c.loop-connection.invariant in record {
      each = λ definition accepted serves. rw c.push_reserved.ensures.items
          (one_more_served g.I.Source.left g.I.Source.faults g.O.Sink.written g.O.Sink.faults definition accepted
          c.loop-connection.served.items c.in-Some.connection _ c.finish.result
          (rw c.in-Some.ensures.steps.0 at (inv.each definition accepted serves)) (λ source sink. c.finish.ensures definition source sink));
      len = search rules;
      room = search rules;
    }

pub returns-clause-each : goal.returns-clause-each
returns-clause-each g c = λ definition accepted serves.
    let it = c.loop-connection.connection-iterator in
    let len : into_iter_len it ≡ length (into_iter_items it) = search rules in
    let none : into_iter_items it ≡ [] = empty_of (into_iter_items it) (sym len ∙ c.in-None.ensures.steps.0) in
    all_served g.I.Source.left g.I.Source.faults g.O.Sink.written g.O.Sink.faults definition accepted c.loop-connection.served.items
    (subst (λ (l : List (Connection g.row.I.Denot g.row.O.Denot)). IsServedSoFar g.I.Source.left g.I.Source.faults g.O.Sink.written g.O.Sink.faults definition accepted c.loop-connection.served.items l)
    none (c.loop-connection.invariant.each definition accepted serves))
