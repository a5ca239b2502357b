use Rattle.std.proofs.Common.{◌∙◌, ◌∷◌, sym, ap, drop, arith}
use Rattle.criteria_model.specs.Counts.{level_pairs}
use Rattle.criteria_model.proofs.CountLemmas.{level_pairs-drop-small, table_more, drop-back}
use Rattle.criteria_model.proofs.counting.level_pairs.Goals as goal

pub add_criterion-requires-clause-small : goal.add_criterion-requires-clause-small
add_criterion-requires-clause-small c =
    λ d l. omega (arith, c.loop-left.invariant.counted d l, level_pairs-drop-small d c.loop-left.left c.args.counts.now c.requires.few)

pub loop-left-preserved : goal.loop-left-preserved
loop-left-preserved c =
    let counts = c.args.counts.now in
    let rest = drop c.loop-left.left counts in
    let back = ap (λ n. n ∷ rest) c.from-n.ensures ∙ sym (drop-back counts c.loop-left.left (omega arith) c.loop-left.invariant.within) in
    record {
      within = omega arith;
      len = omega arith;
      counted = λ d l. table_more c.loop-left.table c.add_criterion.new.table c.from-n.result rest c.loop-left.invariant.counted c.add_criterion.ensures.none c.add_criterion.ensures.some d l ∙ ap (level_pairs d) back;
    }
