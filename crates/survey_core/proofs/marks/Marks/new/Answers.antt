use Rattle.std.proofs.Common.{◌≡◌, replicate}
use Rattle.survey_core.specs.Marked.{unmarked}
use Rattle.survey_core.proofs.TableLemmas.{new_table}
use Rattle.survey_core.proofs.marks.Marks.new.Goals as goal

pub invariant_of-result : goal.invariant_of-result
invariant_of-result c =
    let marks : c.in_ok-vec.field-0.items ≡ replicate c.args.classes unmarked = c.in_ok-vec.ensures.items_if_clones_equal (λ y e. e) in
    rw (marks, c.in_ok-with_capacity.ensures.items)
    (new_table c.args.classes (Rattle.std.specs.Vec.vec_capacity c.in_ok-with_capacity.field-0) c.requires c.in_ok-with_capacity.ensures.capacity)
