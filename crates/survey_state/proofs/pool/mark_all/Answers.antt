use Rattle.std.proofs.Common.{◌+◌, refl, ◌∙◌}
use Rattle.survey_core.specs.Histories.{is_ranked}
use Rattle.survey_state.specs.States.{as_said}
use Rattle.survey_state.proofs.PoolLemmas.{given_changed, marked_next}
use Rattle.survey_state.proofs.pool.mark_all.Goals as goal

pub loop-index-preserved : goal.loop-index-preserved
loop-index-preserved c = (
  marked_next c.args.core.now c.loop-index.index c.loop-index.pool c.mark_class.new.pool c.mark_class.ensures c.loop-index.invariant.0,
  given_changed (as_said (is_ranked c.args.core.now.history (c.loop-index.index + 1))) c.loop-index.pool c.mark_class.new.pool (c.loop-index.index + 1)
      c.mark_class.ensures (λ mark. refl) ∙ c.loop-index.invariant.1,
  c.mark_class.ensures.kept ∙ c.loop-index.invariant.2,
)
