-- Each clause is a law of proofs/Laws.antt.
use Rattle.minors.proofs.Laws.{linear_in_each_row, zero_at_equal_rows, one_at_identity}
use Rattle.minors.proofs.minor_is_determinant.Goals as goal

pub returns-clause-linear : goal.returns-clause-linear
returns-clause-linear c = linear_in_each_row

pub returns-clause-alternating : goal.returns-clause-alternating
returns-clause-alternating c = zero_at_equal_rows

pub returns-clause-identity : goal.returns-clause-identity
returns-clause-identity c = one_at_identity
