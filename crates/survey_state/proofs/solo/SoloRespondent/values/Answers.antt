use Rattle.std.proofs.Common.{rules}
use Rattle.survey_state.proofs.solo.SoloRespondent.values.Goals as goal

pub returns-clause-call : goal.returns-clause-call
returns-clause-call c = let call = c.values_by.ensures.call 1 in search rules
