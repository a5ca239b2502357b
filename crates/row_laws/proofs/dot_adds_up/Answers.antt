use Rattle.std.proofs.Common.{◌-◌, length}
use Rattle.row_laws.proofs.RowLemmas.{dot-append, dot-append_zeros}
use Rattle.row_laws.proofs.dot_adds_up.Goals as goal

pub returns-clause-joined : goal.returns-clause-joined
returns-clause-joined c = dot-append

pub returns-clause-padded : goal.returns-clause-padded
returns-clause-padded c size row a = dot-append_zeros row a (size - length a)
