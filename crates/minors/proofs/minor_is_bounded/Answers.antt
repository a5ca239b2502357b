-- Each clause is a law of proofs/Laws.antt.
use Rattle.minors.proofs.Laws.{minor_is_bounded, factor_is_bounded, scale_is_bounded, bound_is_small}
use Rattle.minors.proofs.minor_is_bounded.Goals as goal

pub returns-clause-minor : goal.returns-clause-minor
returns-clause-minor c = minor_is_bounded

pub returns-clause-factor : goal.returns-clause-factor
returns-clause-factor c = factor_is_bounded

pub returns-clause-scale : goal.returns-clause-scale
returns-clause-scale c = scale_is_bounded

pub returns-clause-small : goal.returns-clause-small
returns-clause-small c = bound_is_small
