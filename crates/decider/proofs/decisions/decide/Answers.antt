use Rattle.std.proofs.Common.{length, ap, arith}
use Rattle.decider.specs.Standing.{StandsFor}
use Rattle.decider.proofs.Standings.{rows_len-whole}
use Rattle.decider.proofs.Deciding.{IsRefuted, standing_point, standing_still, standing_ends, rows_few, standing_mirrored, implied_decision, implied_exact, implied_few, undecided_decision, undecided_exact}
use Rattle.decider.proofs.decisions.decide.Goals as goal
use Rattle.decider.proofs.decisions.decide.Goals.{After-combination_of, After-opening-plus}

pub try_side-requires-clause-room : goal.try_side-requires-clause-room
try_side-requires-clause-room c =
    omega (arith, ap length c.bring_up.ensures.up.stands.loaded, rows_len-whole c.args.model.now.levels c.args.answers.now.answers, c.bring_up.ensures.up.room.rows, c.requires.room.rows)

-- ---- a clash

pub combination_of-requires-clause-tried : goal.combination_of-requires-clause-tried
combination_of-requires-clause-tried c =
    standing_ends c.args.model.now.levels c.args.answers.now.answers c.bring_up.new.work c.args.point.now c.args.pair.now c.ranking-verdict.result c.other_side.result c.in-Clash.clash
    c.bring_up.ensures.up.stands c.other_side.ensures c.in-Clash.ensures.found.0 c.requires.meets

pub combination_of-requires-clause-small : goal.combination_of-requires-clause-small
combination_of-requires-clause-small c = rows_few c.args.model.now.levels c.args.answers.now.answers c.bring_up.new.work c.bring_up.ensures.dictionary c.bring_up.ensures.up.stands

refuted : (c : After-combination_of) → IsRefuted c.args.model.now.levels c.args.answers.now.answers c.bring_up.new.work c.args.point.now c.args.pair.now c.ranking-verdict.result
    c.other_side.result c.in-Clash.clash c.combination_of.result
refuted c = record {
  fit = c.requires.answers_fit;
  pair_fits = c.requires.pair_fits;
  meets = c.requires.meets;
  stands = c.bring_up.ensures.up.stands;
  dictionary = c.bring_up.ensures.dictionary;
  ranks = c.ranking-verdict.ensures.ranks;
  tried_is = c.other_side.ensures;
  clashes = c.in-Clash.ensures.found.0;
  combines = c.combination_of.ensures.combines;
}

pub returns-in-Clash-clause-decision : goal.returns-in-Clash-clause-decision
returns-in-Clash-clause-decision c =
    implied_decision c.args.model.now.levels c.args.answers.now.answers c.bring_up.new.work c.args.point.now c.args.pair.now c.ranking-verdict.result c.other_side.result c.in-Clash.clash
    c.combination_of.result (refuted c)
    c.combination_of.ensures.reduced c.combination_of.ensures.scale

pub returns-in-Clash-clause-exact : goal.returns-in-Clash-clause-exact
returns-in-Clash-clause-exact c =
    implied_exact c.args.model.now.levels c.args.answers.now.answers c.bring_up.new.work c.args.point.now c.args.pair.now c.ranking-verdict.result c.other_side.result c.in-Clash.clash
    c.combination_of.result (refuted c)

pub returns-in-Clash-clause-few : goal.returns-in-Clash-clause-few
returns-in-Clash-clause-few c =
    implied_few c.args.model.now.levels c.args.answers.now.answers c.bring_up.new.work c.args.point.now c.args.pair.now c.ranking-verdict.result c.other_side.result c.in-Clash.clash
    c.combination_of.result (refuted c)

-- ---- a point

pub opening-plus-requires-clause-room : goal.opening-plus-requires-clause-room
opening-plus-requires-clause-room c =
    omega (
      arith,
      ap length c.try_side.ensures.tried.loaded,
      ap length c.bring_up.ensures.up.stands.loaded,
      rows_len-whole c.args.model.now.levels c.args.answers.now.answers,
      c.try_side.ensures.tried.room.rows,
      c.bring_up.ensures.up.room.rows,
      c.requires.room.rows,
    )

pub opening-plus-requires-clause-point : goal.opening-plus-requires-clause-point
opening-plus-requires-clause-point c =
    standing_point c.args.model.now.levels c.args.answers.now.answers c.try_side.new.work c.args.point.now
    (standing_still c.args.model.now.levels c.args.answers.now.answers c.bring_up.new.work c.try_side.new.work c.try_side.ensures.tried.columns c.try_side.ensures.tried.loaded
    c.bring_up.ensures.up.stands) c.requires.meets

pub opening-plus-requires-clause-mirrored : goal.opening-plus-requires-clause-mirrored
opening-plus-requires-clause-mirrored c e =
    standing_mirrored c.args.model.now.levels c.args.answers.now.answers c.bring_up.new.work c.try_side.new.work c.args.point.now c.in-Point.other c.args.pair.now c.ranking-verdict.result
    c.other_side.result
    c.bring_up.ensures.up.stands c.try_side.ensures.tried.columns c.try_side.ensures.tried.loaded c.requires.meets c.ranking-verdict.ensures.ranks c.other_side.ensures c.in-Point.ensures.found.0 e

stands_still : (c : After-opening-plus) → StandsFor c.args.model.now.levels c.args.answers.now.answers c.try_side.new.work
stands_still c = standing_still c.args.model.now.levels c.args.answers.now.answers c.bring_up.new.work c.try_side.new.work c.try_side.ensures.tried.columns c.try_side.ensures.tried.loaded
    c.bring_up.ensures.up.stands

pub returns-in-Point-clause-decision : goal.returns-in-Point-clause-decision
returns-in-Point-clause-decision c =
    undecided_decision c.args.model.now.levels c.args.answers.now.answers c.try_side.new.work c.args.pair.now c.opening-plus.result.0 c.opening-plus.result.1
    (stands_still c) c.opening-plus.ensures.opens

pub returns-in-Point-clause-exact : goal.returns-in-Point-clause-exact
returns-in-Point-clause-exact c =
    undecided_exact c.args.model.now.levels c.args.answers.now.answers c.try_side.new.work c.args.pair.now c.opening-plus.result.0 c.opening-plus.result.1
    (stands_still c) c.opening-plus.ensures.opens
