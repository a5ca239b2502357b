use Rattle.std.proofs.Common.{◌≡◌, ◌+◌, ◌-◌, ◌*◌, ◌%◌, ◌^◌, ◌<◌, ◌∙◌, sym, ap, ap₂, get_or, arith, sum_by}
use Rattle.std.specs.List.{range_with_len}
use Rattle.std.proofs.lemmas.Nat.{pow_pos}
use Rattle.criteria_model.specs.Counts.{class_count, classes_of_degree}
use Rattle.criteria_model.proofs.LevelLemmas.{length-le-increments}
use Rattle.criteria_model.proofs.CountLemmas.{shifted_one, classes_of_degree_small, count-more, term_is}
use Rattle.criteria_model.proofs.counting.count_classes.Goals as goal

pub overflow_shl-count : goal.overflow_shl-count
overflow_shl-count c = omega (arith, length-le-increments c.args.counts.now c.requires.two_levels)

pub overflow_sub-count-in-loop-degree : goal.overflow_sub-count-in-loop-degree
overflow_sub-count-in-loop-degree c =
    omega (arith, shifted_one (c.loop-degree.degree - 1) (omega (arith, length-le-increments c.args.counts.now c.requires.two_levels)), pow_pos (c.loop-degree.degree - 1))

pub offset_bounds-table-degree : goal.offset_bounds-table-degree
offset_bounds-table-degree c = omega (arith, length-le-increments c.args.counts.now c.requires.two_levels)

pub bounds-table-degree : goal.bounds-table-degree
bounds-table-degree c = omega (arith, length-le-increments c.args.counts.now c.requires.two_levels)

-- the term that is added: what it is, and how large
term : (c : goal.In-loop-degree)
    → (1 * 2 ^ (c.loop-degree.degree - 1) % 2 ^ 64 - 1) * get_or c.level_pairs-table.result c.loop-degree.degree 0 ≡ classes_of_degree c.args.counts.now c.loop-degree.degree
term c =
    term_is c.args.counts.now c.loop-degree.degree _ _
    (shifted_one (c.loop-degree.degree - 1) (omega (arith, length-le-increments c.args.counts.now c.requires.two_levels)))
    (c.level_pairs-table.ensures c.loop-degree.degree (omega (arith, length-le-increments c.args.counts.now c.requires.two_levels)))

term_small : (c : goal.In-loop-degree) → classes_of_degree c.args.counts.now c.loop-degree.degree < 2 ^ 48
term_small c = classes_of_degree_small c.args.counts.now c.loop-degree.degree c.requires.few (omega (arith, length-le-increments c.args.counts.now c.requires.two_levels))

pub overflow_mul-count : goal.overflow_mul-count
overflow_mul-count c = omega (arith, term c, term_small c)

pub overflow_add-count : goal.overflow_add-count
overflow_add-count c = omega (arith, term c, term_small c, c.loop-degree.invariant.small, length-le-increments c.args.counts.now c.requires.two_levels)

pub loop-degree-preserved : goal.loop-degree-preserved
loop-degree-preserved c = record {
  counted = ap₂ (λ x y. x + y) c.loop-degree.invariant.counted (term c) ∙ sym (count-more c.args.counts.now c.loop-degree.degree (omega arith));
  small = omega (arith, term c, term_small c, c.loop-degree.invariant.small);
}

pub returns : goal.returns
unfolding class_count
returns c =
    let e : c.loop-degree.degree - 2 ≡ c.args.limit - 1 = omega arith in
    c.loop-degree.invariant.counted ∙ ap (λ n. sum_by (classes_of_degree c.args.counts.now) (range_with_len 2 n)) e
