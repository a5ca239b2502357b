-- Each clause is a law of proofs/Laws.antt.
use Rattle.minors.proofs.Laws.{square_row_is_combination, sum_of_combinations, combination_at_point, negated_combination}
use Rattle.minors.proofs.combinations_are_closed.Goals as goal

pub returns-clause-own : goal.returns-clause-own
returns-clause-own c = square_row_is_combination

pub returns-clause-sums : goal.returns-clause-sums
returns-clause-sums c = sum_of_combinations

pub returns-clause-at_point : goal.returns-clause-at_point
returns-clause-at_point c = combination_at_point

pub returns-clause-negated : goal.returns-clause-negated
returns-clause-negated c = negated_combination
