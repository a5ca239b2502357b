use Rattle.std.proofs.Common.{List, ℤ, pos, ◌≤ℤ◌, sym, subst, ◌∙◌}
use Rattle.std.specs.Prelude.{All}
use Rattle.simplex.proofs.Points.{scaled_positive, point_meets}
use Rattle.simplex.proofs.point.point_of.Goals as goal

pub reduced-requires-clause-positive : goal.reduced-requires-clause-positive
reduced-requires-clause-positive c =
    subst (λ (l : List ℤ). All (λ x. pos 1 ≤ℤ x) l) (sym c.as_slice.ensures.value)
    (scaled_positive c.args.work.now c.scaled_point-values.result c.scaled_point-values.ensures.dictionary c.requires c.scaled_point-values.ensures.point)

pub returns-clause-meets : goal.returns-clause-meets
returns-clause-meets c =
    point_meets c.args.work.now c.scaled_point-values.result c.reduced.result c.reduced.ensures.multiple.0 c.scaled_point-values.ensures.dictionary c.requires c.scaled_point-values.ensures.point
    c.reduced.ensures.multiple.1 (sym c.as_slice.ensures.value ∙ c.reduced.ensures.multiple.2) c.reduced.ensures.positive
