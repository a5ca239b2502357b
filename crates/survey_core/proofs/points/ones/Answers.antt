-- The first of 24 ones are ones.
use Rattle.std.proofs.Common.{ℕ, pos, replicate, take, ap, ◌∙◌}
use Rattle.std.proofs.lemmas.List.{take-replicate}
use Rattle.criteria_model.specs.Worth.{increments}
use Rattle.survey_core.proofs.points.ones.Goals as goal

pub returns : goal.returns
returns c =
    c.of.ensures
    ∙ ap (λ (n : ℕ). take n (replicate 24 (pos 1))) (c.from.ensures ∙ c.increments.ensures.value)
    ∙ take-replicate (increments c.args.model.now.levels) 24 (pos 1) c.increments.ensures.model.few_increments
