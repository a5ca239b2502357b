use Rattle.decider.proofs.Walks.{equal_taken}
use Rattle.decider.proofs.combination.ranking_weight.Goals as goal

pub returns-in-Equal : goal.returns-in-Equal
returns-in-Equal c =
    equal_taken c.args.rows.now c.args.taken c.args.row c.args.side c.row_weight-weight.result.0 c.row_weight-turned.result.0 c.row_weight-weight.result.1 c.row_weight-turned.result.1
    c.in-Equal.is c.row_weight-weight.ensures c.row_weight-turned.ensures
