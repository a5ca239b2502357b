use Rattle.std.proofs.Common.{length, ap, sym, ◌∙◌}
use Rattle.survey_core.specs.Recorded.{Recorded}
use Rattle.survey_core.specs.Histories.{issued}
use Rattle.survey_core.proofs.ReadLemmas.{issued_len}
use Rattle.survey_core.proofs.survey.Core.asked.Goals as goal

pub returns : goal.returns
returns c = c.asked.ensures ∙ sym (issued_len c.self.invariant.table_of) ∙ ap (λ (r : Recorded). length (issued r.history)) c.self.view_is
