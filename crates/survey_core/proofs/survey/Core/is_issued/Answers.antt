use Rattle.std.proofs.Common.{◌≤◌, ap, sym, ◌∙◌}
use Rattle.survey_core.specs.Recorded.{Recorded}
use Rattle.survey_core.specs.Histories.{is_issued}
use Rattle.survey_core.proofs.ReadLemmas.{mark_at}
use Rattle.survey_core.proofs.survey.Core.is_issued.Goals as goal

pub returns : goal.returns
returns c =
    let low : 1 ≤ c.args.place = c.requires.0 in
    sym (mark_at c.self.invariant.table_of c.args.place c.class.result low c.class.ensures).asked
    ∙ ap (λ (r : Recorded). is_issued r.history c.args.place) c.self.view_is
