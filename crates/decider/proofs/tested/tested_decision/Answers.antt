use Rattle.std.proofs.Common.{arith}
use Rattle.decider.proofs.Standings.{rows_len-whole}
use Rattle.decider.proofs.CitedGains.{rows_length}
use Rattle.decider.proofs.tested.tested_decision.Goals as goal

pub try_side-requires-clause-room : goal.try_side-requires-clause-room
try_side-requires-clause-room c =
    omega (
      arith,
      c.add_rest.ensures.rows,
      c.add_rest.ensures.room.rows,
      rows_length c.args.model.now.levels c.args.answers.now.answers,
      rows_len-whole c.args.model.now.levels c.args.answers.now.answers,
      c.requires.room.rows,
    )
