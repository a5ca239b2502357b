use Rattle.std.proofs.Common.{◌≡◌, ◌∙◌, ap, length, arith}
use mir.Syntax.{w128}
use Rattle.row_laws.specs.Rows.{dot}
use Rattle.row_laws.proofs.Integers.{read_back}
use Rattle.criteria_model.specs.Worth.{has}
use Rattle.criteria_model.proofs.LevelLemmas.{length-has, minus-has-lowest}
use Rattle.criteria_model.proofs.models.Model.value.Goals as goal
use Rattle.criteria_model.proofs.models.Model.value.Goals.{After-difference}

-- the difference to the lowest levels is the alternative's own row
row_is : (c : After-difference) → c.difference.result ≡ has c.args.self.now.levels c.args.alternative.now
row_is c =
    c.difference.ensures
    ∙ minus-has-lowest c.args.self.now.levels c.args.alternative.now c.of-lowest.result c.len.result
    c.requires.alternative_len c.len.ensures.value (omega (arith, c.len.ensures.range.most)) c.of-lowest.ensures

pub dot-requires : goal.dot-requires
dot-requires c =
    let row = ap length (row_is (goal.at.dot-requires c).After-difference) in
    omega (arith, row, length-has c.args.self.now.levels c.args.alternative.now c.requires.alternative_len, c.requires.vector_len)

pub returns-clause-value : goal.returns-clause-value
returns-clause-value c =
    read_back w128 c.dot.result (let small = c.dot.ensures.range in omega arith)
    ∙ c.dot.ensures.value
    ∙ ap (dot c.args.vector.now) (row_is (goal.at.returns-clause-value c).After-difference)
