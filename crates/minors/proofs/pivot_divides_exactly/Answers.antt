-- Each clause is a law of proofs/Laws.antt.
use Rattle.minors.proofs.Laws.{scale_of_identity, scale_after_pivot, pivot_divides, pivot_keeps_combination, leaving_row_is_combination, negated_scale}
use Rattle.minors.proofs.pivot_divides_exactly.Goals as goal

pub returns-clause-start : goal.returns-clause-start
returns-clause-start c = scale_of_identity

pub returns-clause-scale : goal.returns-clause-scale
returns-clause-scale c = scale_after_pivot

pub returns-clause-divides : goal.returns-clause-divides
returns-clause-divides c = pivot_divides

pub returns-clause-kept : goal.returns-clause-kept
returns-clause-kept c = pivot_keeps_combination

pub returns-clause-leaving : goal.returns-clause-leaving
returns-clause-leaving c = leaving_row_is_combination

pub returns-clause-negated : goal.returns-clause-negated
returns-clause-negated c = negated_scale
