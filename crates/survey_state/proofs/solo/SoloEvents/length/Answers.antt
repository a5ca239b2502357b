use Rattle.std.proofs.Common.{List, subst}
use Rattle.pair_enumeration.specs.Listed.{Listed}
use Rattle.survey_core.specs.declared.events.Event.{Event}
use Rattle.survey_core.specs.Legal.{IsLegal}
use Rattle.survey_state.proofs.solo.SoloEvents.length.Goals as goal

pub returns-clause-legal : goal.returns-clause-legal
returns-clause-legal c =
    subst (λ (l : Listed). IsLegal l c.args.self.now.history) c.state.ensures.listed
    (subst (λ (h : List Event). IsLegal c.state.result.now.listed h) c.state.ensures.journal c.length.ensures.legal)
