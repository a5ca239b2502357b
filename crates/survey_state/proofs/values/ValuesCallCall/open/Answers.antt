use Rattle.std.proofs.Common.{◌≡◌, Some, subst}
use Rattle.pair_enumeration.specs.Listed.{Listed}
use Rattle.survey_core.specs.Histories.{class_at}
use Rattle.survey_state.proofs.ReplyLemmas.{incomplete}
use Rattle.survey_state.proofs.values.ValuesCallCall.open.Goals as goal

pub returns-clause-replied : goal.returns-clause-replied
returns-clause-replied c =
    incomplete c.args.state.now.listed c.args.state.now.journal c.length.ensures.legal 1 c.length.result c.length.ensures.value c.args.place c.class.result
    c.args.plus.now c.args.minus.now c.requires.opens c.requires.sought
    (subst (λ (l : Listed). class_at l.classes c.args.place ≡ Some c.class.result) c.core.ensures.listed c.class.ensures.value)
