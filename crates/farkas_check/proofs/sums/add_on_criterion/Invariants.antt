use Rattle.std.proofs.Common.{◌≡◌, ◌+◌}
use Rattle.row_laws.specs.Rows.{plus, minus, times}
use Rattle.criteria_model.specs.Worth.{has_on}
use Rattle.farkas_check.proofs.sums.add_on_criterion.Given as goal

abbrev pub invariant-loop-place : goal.invariant-loop-place
invariant-loop-place l = l.sums ≡ plus l.initial.sums (times l.weight (minus (has_on (l.place + 1) l.winner) (has_on (l.place + 1) l.loser)))
