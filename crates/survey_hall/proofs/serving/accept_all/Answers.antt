use Rattle.std.proofs.Common.{◌∙◌, ◌++◌, ◌∷◌, [], rules}
use Rattle.survey_hall.specs.ConnectionThreads.{ServesFor}
use Rattle.survey_hall.proofs.ConnectionThreadLemmas.{takes_one_more}
use Rattle.survey_hall.proofs.StackLemmas.{zip_push}
use Rattle.survey_hall.proofs.serving.accept_all.Goals as goal

pub loop-place-preserved : goal.loop-place-preserved
loop-place-preserved g c =
    let inv = c.loop-place.invariant in
    let was = inv.accepted in
    let hall = c.args.hall.now.definition in
    record {
      accepted = record {
        accepted = was.accepted ++ (c.in-Ok.source, c.in-Ok.sink) ∷ [];
        taken = takes_one_more _ _ _ was.accepted (c.in-Ok.source, c.in-Ok.sink) was.taken c.in-Ok.ensures.next;
        each = rw c.push_reserved.ensures.items
            (zip_push (λ (ends : g.row.I.Denot × g.row.O.Denot) one. ServesFor g.I.Source.left g.I.Source.faults g.O.Sink.written g.O.Sink.faults hall ends.0 ends.1 one)
            was.accepted c.settle_served.new.connections.items (c.in-Ok.source, c.in-Ok.sink) c.start_connection.result
            (c.settle_served.ensures.each hall was.accepted was.each) c.start_connection.ensures);
      };
      len = search rules;
      room = search rules;
      quiet = c.in-Ok.ensures.quiet ∙ inv.quiet;
    }
