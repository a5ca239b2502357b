use Rattle.row_laws.proofs.RowLemmas.{entry-plus, entry-minus, entry-times}
use Rattle.row_laws.proofs.rows_add_place_by_place.Goals as goal

pub returns-clause-sum : goal.returns-clause-sum
returns-clause-sum c = entry-plus

pub returns-clause-difference : goal.returns-clause-difference
returns-clause-difference c = entry-minus

pub returns-clause-multiple : goal.returns-clause-multiple
returns-clause-multiple c = entry-times
