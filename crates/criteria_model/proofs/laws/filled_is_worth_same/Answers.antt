use Rattle.std.proofs.Common.{ap}
use Rattle.row_laws.specs.Rows.{dot}
use Rattle.criteria_model.proofs.LevelLemmas.{has-filled}
use Rattle.criteria_model.proofs.laws.filled_is_worth_same.Goals as goal

pub returns : goal.returns
returns c levels values alternative = ap (dot values) (has-filled levels alternative)
