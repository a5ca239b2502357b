use Rattle.std.proofs.Common.{get_or, length-set, arith}
use Rattle.std.proofs.lemmas.List.{take_more_set, take_more}
use Rattle.criteria_model.proofs.LevelLemmas.{few_increments_fit, length-le-increments}
use Rattle.criteria_model.proofs.counting.tuple_of.Goals as goal

pub bounds-cells-place : goal.bounds-cells-place
bounds-cells-place c = omega (arith, length-le-increments c.args.levels.now c.requires.two_levels)

pub loop-place-preserved : goal.loop-place-preserved
loop-place-preserved c =
    let fit = few_increments_fit c.args.levels.now c.requires.some c.requires.two_levels c.requires.few in
    let e = take_more_set c.loop-place.cells c.loop-place.place (get_or c.args.levels.now c.loop-place.place 0) (omega (arith, fit.most)) in
    let f = take_more c.args.levels.now c.loop-place.place 0 (omega arith) in
    record { len = simp length-set c.loop-place.invariant.len; same = cc }
