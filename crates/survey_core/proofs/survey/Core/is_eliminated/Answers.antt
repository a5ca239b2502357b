use Rattle.std.proofs.Common.{◌≤◌, ap, sym, ◌∙◌}
use Rattle.survey_core.specs.Recorded.{Recorded}
use Rattle.survey_core.specs.Histories.{is_eliminated}
use Rattle.survey_core.proofs.KeptLemmas.{eliminated_at}
use Rattle.survey_core.proofs.survey.Core.is_eliminated.Goals as goal

pub returns : goal.returns
returns c =
    let low : 1 ≤ c.args.place = c.requires.0 in
    c.is_eliminated.ensures ∙ sym (eliminated_at _ _ _ _ _ _ c.self.invariant c.args.place c.class.result low c.class.ensures)
    ∙ ap (λ (r : Recorded). is_eliminated r.history c.args.place) c.self.view_is
