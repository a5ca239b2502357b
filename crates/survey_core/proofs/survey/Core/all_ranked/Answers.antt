use Rattle.std.proofs.Common.{◌≡◌, ◌↔◌, ℕ, IsTrue, length, map, subst}
use Rattle.survey_core.specs.Recorded.{Recorded}
use Rattle.survey_core.specs.Legal.{IsPlace}
use Rattle.survey_core.specs.Histories.{is_ranked}
use Rattle.survey_core.specs.Marked.{is_ranked_mark}
use Rattle.std.specs.List.{count_by}
use Rattle.survey_core.proofs.KeptLemmas.{all_at}
use Rattle.survey_core.proofs.survey.Core.all_ranked.Goals as goal

pub returns : goal.returns
returns c =
    let both : (count_by is_ranked_mark c.self.inside.marks.classes ≡ length c.self.inside.marks.classes)
    ↔ ((place : ℕ) → IsPlace c.self.inside.classes place → IsTrue (is_ranked (map (λ event. event.value) c.self.inside.events.items) place)) =
    all_at _ _ _ _ _ _ c.self.invariant in
    subst (λ (r : Recorded). IsTrue c.all_ranked.result ↔ ((place : ℕ) → IsPlace r.listed place → IsTrue (is_ranked r.history place))) c.self.view_is
    ((λ every. both.0 (c.all_ranked.ensures.0 every)), (λ all. c.all_ranked.ensures.1 (both.1 all)))
