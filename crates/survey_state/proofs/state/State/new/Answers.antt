use Rattle.std.proofs.Common.{◌≡◌, length, ap, sym, ◌∙◌, arith}
use Rattle.criteria_model.specs.Counts.{class_count}
use Rattle.criteria_model.specs.Criteria.{Criteria}
use Rattle.survey_state.proofs.JournalLemmas.{keeps_new}
use Rattle.survey_state.proofs.state.State.new.Goals as goal

pub invariant_of-result : goal.invariant_of-result
invariant_of-result c =
    let model = c.in_ok-core.ensures.listed in
    let count : length c.in_ok-core.core.listed.classes ≡ c.class_count-count.result =
    model.len ∙ ap (λ (m : Criteria). class_count m.levels m.degree) c.in_ok-core.ensures.model ∙ sym c.class_count-count.ensures.value in
    keeps_new _ _ _ _ _ _ _ model c.in_ok-core.ensures.empty c.in_ok-journal.ensures.items c.in_ok-points.ensures.items c.in_ok-pool.ensures (sym count)
    (omega (arith, count, c.in_ok-points.ensures.capacity))
    (omega (arith, count, c.in_ok-journal.ensures.capacity, c.in_ok-journal.ensures.len))
