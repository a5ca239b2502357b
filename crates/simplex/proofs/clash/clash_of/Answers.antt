use Rattle.std.proofs.Common.{◌-◌, arith}
use Rattle.simplex.proofs.ClashParts.{HasWeights, unmet, weights_are_clash}
use Rattle.simplex.proofs.clash.clash_of.Goals as goal
use Rattle.simplex.proofs.clash.clash_of.Goals.{After-slack_weights}

module _ (c : After-slack_weights) where
  pub found : HasWeights c.args.work.now (c.args.row - 1) c.increment_weights.result c.slack_weights.result
  found = record {
    dictionary = c.increment_weights.ensures.dictionary;
    within = omega arith;
    negative = c.requires.negative;
    blocked = c.requires.blocked;
    len = c.increment_weights.ensures.len;
    own = c.increment_weights.ensures.weights;
    weights = c.slack_weights.ensures.weights;
    loaded_rows = c.slack_weights.ensures.loaded_rows;
    slacks = c.slack_weights.ensures.sums;
    few_own = c.increment_weights.ensures.few;
    few_rows = c.slack_weights.ensures.few;
  }

pub returns-clause-clash : goal.returns-clause-clash
returns-clause-clash c = weights_are_clash c.args.work.now (c.args.row - 1) c.increment_weights.result c.slack_weights.result (found (goal.at.returns-clause-clash c).After-slack_weights)

pub returns-clause-unmet : goal.returns-clause-unmet
returns-clause-unmet c = unmet c.args.work.now (c.args.row - 1) c.increment_weights.result c.slack_weights.result (found (goal.at.returns-clause-unmet c).After-slack_weights)
