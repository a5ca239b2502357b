-- The first of 24 ones are ones.
use Rattle.std.proofs.Common.{ℕ, pos, replicate, take, ap, ◌∙◌}
use Rattle.std.proofs.lemmas.List.{take-replicate}
use Rattle.criteria_model.specs.Worth.{increments}
use Rattle.decider.proofs.tools.Tools.reserve.Goals as goal

pub returns-clause-point : goal.returns-clause-point
returns-clause-point c =
    c.of.ensures
    ∙ ap (λ (n : ℕ). take n (replicate 24 (pos 1))) (c.from.ensures ∙ c.increments-2.ensures.value)
    ∙ take-replicate (increments c.args.model.now.levels) 24 (pos 1) c.increments.ensures.model.few_increments
