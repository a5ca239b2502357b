use Rattle.std.proofs.Common.{length, ap, sym, ◌∙◌}
use Rattle.survey_core.specs.Recorded.{Recorded}
use Rattle.survey_core.specs.Histories.{open_questions}
use Rattle.survey_core.proofs.KeptLemmas.{open_at}
use Rattle.survey_core.proofs.survey.Core.open_questions.Goals as goal

pub returns : goal.returns
returns c =
    c.open_questions.ensures ∙ sym (open_at _ _ _ _ _ _ c.self.invariant) ∙ ap (λ (r : Recorded). length (open_questions r.history)) c.self.view_is
