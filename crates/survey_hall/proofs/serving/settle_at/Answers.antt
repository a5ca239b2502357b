use Rattle.std.proofs.Common.{refl, rules, length}
use Rattle.std.proofs.lemmas.Option.{slice_get_read}
use Rattle.survey_hall.specs.ConnectionThreads.{ServesFor}
use Rattle.survey_hall.proofs.ConnectionThreadLemmas.{zip_set_second}
use Rattle.survey_hall.proofs.serving.settle_at.Goals as goal

pub returns-clause-each : goal.returns-clause-each
returns-clause-each g c = λ definition accepted serves.
    let items = c.args.connections.now.items in
    let at = slice_get_read items (length items) c.args.place c.index_mut.result.now refl (search rules) c.index_mut.ensures.value in
    zip_set_second (λ (ends : g.row.I.Denot × g.row.O.Denot) one. ServesFor g.I.Source.left g.I.Source.faults g.O.Sink.written g.O.Sink.faults definition ends.0 ends.1 one)
    accepted items c.args.place c.index_mut.result.now c.settle.new.self at (λ ends one. c.settle.ensures definition ends.0 ends.1 one) serves
