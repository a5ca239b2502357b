use Rattle.std.proofs.Common.{◌∙◌, arith}
use Rattle.criteria_model.specs.Worth.{increments}
use Rattle.decider.specs.Combining.{EndsWithTried}
use Rattle.decider.proofs.Decided.{proved_decision}
use Rattle.decider.proofs.Verdicts.{few_weights}
use Rattle.decider.proofs.tested.implied_by.Goals as goal

pub returns-clause-decision : goal.returns-clause-decision
returns-clause-decision c =
    proved_decision c.args.model.now.levels c.args.answers.now.answers c.args.pair.now c.args.verdict c.combination_of-combination.result
    (c.proves.ensures.0 c.if-not-proves.false) c.combination_of-combination.ensures.reduced c.combination_of-combination.ensures.scale

pub returns-clause-few : goal.returns-clause-few
returns-clause-few c =
    let ends : EndsWithTried c.args.answers.now.answers c.args.clash.now.rows = record {
      some = c.ends_with_row.ensures.some c.if-not-ends_with_row.false;
      last = c.ends_with_row.ensures.last c.if-not-ends_with_row.false ∙ omega (arith, c.requires.rows);
    } in
    let few = few_weights (increments c.args.model.now.levels) c.requires.clash.0 c.args.answers.now.answers c.args.clash.now c.combination_of-combination.result c.requires.clash.1 ends
    c.combination_of-combination.ensures.combines in
    omega (arith, few, c.requires.model.few_increments)
