use Rattle.std.proofs.Common.{◌≡◌, ℕ, List, [], length, map, replicate, sym, ap, subst, ◌∙◌, arith}
use Rattle.std.specs.Vec.{vec_capacity}
use Rattle.std.specs.declared.snapshot.Snapshot.{Snapshot}
use Rattle.pair_enumeration.specs.Listed.{Listed, IsListed}
use Rattle.survey_core.specs.declared.events.Event.{Event}
use Rattle.survey_core.specs.Marked.{Table, KeepsHistory, unmarked}
use Rattle.survey_core.proofs.NewLemmas.{new_kept}
use Rattle.survey_core.proofs.survey.Core.new.Goals as goal

abbrev first : ℕ → Table
first n = record { classes = replicate n unmarked; questions = [] }

pub invariant_of-result : goal.invariant_of-result
invariant_of-result c =
    let listed : Listed = c.in_ok-classes.classes in
    let room : ℕ = vec_capacity c.in_ok-events.events in
    let marks : c.in_ok-marks.marks ≡ record { classes = replicate (length listed.classes) unmarked; questions = [] } =
    c.in_ok-marks.ensures ∙ ap (λ (n : ℕ). first n) c.count-count.ensures.value in
    let model : IsListed listed = c.in_ok-classes.ensures.1 in
    subst (λ (l : List (Snapshot Event)). KeepsHistory listed (map (λ event. event.value) l) c.in_ok-answers.answers c.in_ok-marks.marks 0 room)
    (sym c.in_ok-events.ensures.items)
    (subst (λ (t : Table). KeepsHistory listed [] c.in_ok-answers.answers t 0 room) (sym marks)
    (new_kept listed c.in_ok-answers.answers room model (omega (arith, model.len, model.model.few_classes)) c.in_ok-answers.ensures.empty
    (omega (arith, c.in_ok-answers.ensures.spare, c.count-count.ensures.value)) c.in_ok-events.ensures.capacity))
