use Rattle.survey_hall.proofs.ConnectionLemmas.{not_begun, served_to_bye, service_of}
use Rattle.survey_hall.proofs.connections.serve_connection.Goals as goal

pub returns-in_default-clause-served : goal.returns-in_default-clause-served
returns-in_default-clause-served g c = not_begun c.args.hall.now.definition _ _

pub returns-in_default-reserve-clause-served : goal.returns-in_default-reserve-clause-served
returns-in_default-reserve-clause-served g c = not_begun c.args.hall.now.definition _ _

pub returns-clause-served : goal.returns-clause-served
returns-clause-served g c =
    let by = c.serve_lines.ensures in
    service_of c.args.hall.now.definition c.in-Ok.lines c.serve_lines.new.lines _ _ _ _ c.serve_lines.result c.in-Ok.ensures by.served by.at_end by.too_long

pub returns-clause-done : goal.returns-clause-done
returns-clause-done g c = λ whole no_read no_write.
    let by = c.serve_lines.ensures in
    served_to_bye c.args.hall.now.definition _ _ _ _ whole c.serve_lines.result _ _ _ _
    (service_of c.args.hall.now.definition c.in-Ok.lines c.serve_lines.new.lines _ _ _ _ c.serve_lines.result c.in-Ok.ensures by.served by.at_end by.too_long)
    by.read_faults by.write_faults no_read no_write
