use Rattle.row_laws.proofs.RowLemmas.{dot-plus, dot-minus, dot-times, dot_comm}
use Rattle.row_laws.proofs.dot_is_linear.Goals as goal

pub returns-clause-sum : goal.returns-clause-sum
returns-clause-sum c = dot-plus

pub returns-clause-difference : goal.returns-clause-difference
returns-clause-difference c = dot-minus

pub returns-clause-multiple : goal.returns-clause-multiple
returns-clause-multiple c = dot-times

pub returns-clause-exchanged : goal.returns-clause-exchanged
returns-clause-exchanged c = dot_comm
