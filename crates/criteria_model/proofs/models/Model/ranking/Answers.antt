use Rattle.std.proofs.Common.{◌≡◌, length, to_z, of_z, pos, ◌∙◌, ap, sym, arith}
use Rattle.std.specs.Int.{w128}
use Rattle.std.specs.declared.cmp.Ordering.TheVariants.{Less, Equal, Greater}
use Rattle.std.proofs.lemmas.Cmp.{int_ranked}
use Rattle.row_laws.specs.Rows.{dot}
use Rattle.row_laws.proofs.Integers.{read_back}
use Rattle.criteria_model.specs.declared.pairs.Side.TheVariants.{Left as LeftSide, Right as RightSide, Equal as EqualSide}
use Rattle.criteria_model.specs.Answers.{gain}
use Rattle.criteria_model.proofs.GainLemmas.{length-gain, lead_ranks}
use Rattle.criteria_model.proofs.models.Model.ranking.Goals as goal
use Rattle.criteria_model.proofs.models.Model.ranking.Goals.{After-cmp}

pub dot-lead-requires : goal.dot-lead-requires
dot-lead-requires c = ap length c.row.ensures ∙ length-gain c.args.self.now.levels c.args.pair.now LeftSide c.requires.fits ∙ sym c.requires.vector_len

-- the lead, as it is compared
lead_is : (c : After-cmp) → to_z w128 (of_z w128 c.dot-lead.result) ≡ dot c.args.vector.now (gain c.args.self.now.levels c.args.pair.now LeftSide)
lead_is c = read_back w128 c.dot-lead.result (let small = c.dot-lead.ensures.range in omega arith) ∙ c.dot-lead.ensures.value ∙ ap (dot c.args.vector.now) c.row.ensures

pub returns-in-Greater : goal.returns-in-Greater
returns-in-Greater c =
    let more = int_ranked _ (pos 0) Greater (sym c.in-Greater.is ∙ c.cmp.ensures) in
    let ranked = lead_ranks c.args.self.now.levels c.args.vector.now c.args.pair.now _ (lead_is (goal.at.returns-in-Greater c).After-cmp) LeftSide more in
    record { ranks = ranked.0; only = ranked.1 }

pub returns-in-Less : goal.returns-in-Less
returns-in-Less c =
    let less = int_ranked _ (pos 0) Less (sym c.in-Less.is ∙ c.cmp.ensures) in
    let ranked = lead_ranks c.args.self.now.levels c.args.vector.now c.args.pair.now _ (lead_is (goal.at.returns-in-Less c).After-cmp) RightSide less in
    record { ranks = ranked.0; only = ranked.1 }

pub returns-in-Equal : goal.returns-in-Equal
returns-in-Equal c =
    let same = int_ranked _ (pos 0) Equal (sym c.in-Equal.is ∙ c.cmp.ensures) in
    let ranked = lead_ranks c.args.self.now.levels c.args.vector.now c.args.pair.now _ (lead_is (goal.at.returns-in-Equal c).After-cmp) EqualSide same in
    record { ranks = ranked.0; only = ranked.1 }
