use Rattle.survey_state.proofs.ReplyLemmas.{values}
use Rattle.survey_state.proofs.values.ValuesCallCall.seek.Goals as goal

pub returns-in-None : goal.returns-in-None
returns-in-None c =
    values c.args.state.now.listed c.args.state.now.journal c.length.ensures.legal 1 c.length.result c.length.ensures.value c.point.result c.in-None.ensures
    c.point.ensures.meets
