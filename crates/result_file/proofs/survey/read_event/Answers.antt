use Rattle.std.proofs.Common.{rules}
use Rattle.result_file.proofs.EventLaws.{read_as}
use Rattle.result_file.proofs.survey.read_event.Goals as goal

pub returns : goal.returns
returns c =
    read_as c.args.core.now.listed c.args.line.now c.in_ok-entry.entry c.event_of.result c.model-model.ensures.listed
    (c.in_ok-entry.ensures c.args.core.now.listed.criteria c.model-model.ensures.listed.model (search rules) (search rules)) c.event_of.ensures
