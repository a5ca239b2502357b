use Rattle.std.proofs.Common.{◌≡◌, ◌+◌, ◌*◌, ◌^◌, ◌<◌, ◌≤◌, sum, length, length-set, length-take, take, map, ap, ◌∙◌, sym, subst, arith}
use Rattle.std.specs.List.{range_with_len}
use Rattle.criteria_model.specs.Lists.{IsVector}
use Rattle.part_worths.specs.declared.apportionment.TheConstants.{WHOLE}
use Rattle.part_worths.specs.Values.{best_value, best_values}
use Rattle.part_worths.proofs.ValueLaws.{best_step, best_values_fit, few_criteria}
use Rattle.part_worths.proofs.values.shares.Goals as goal

pub bounds-values-place : goal.bounds-values-place
bounds-values-place c = omega (arith, few_criteria _ c.criteria.ensures.model, c.criteria.ensures.value, c.from-count.ensures, c.loop-place-test.true)

pub loop-place-preserved : goal.loop-place-preserved
loop-place-preserved c = record {
  len = simp length-set c.loop-place.invariant.len;
  written = best_step c.args.model.now.levels c.args.vector.now c.loop-place.values c.loop-place.place _ (omega (arith, c.loop-place.invariant.len, few_criteria _ c.criteria.ensures.model, c.criteria.ensures.value, c.from-count.ensures, c.loop-place-test.true)) c.loop-place.invariant.written (c.best_value.ensures ∙ ap (λ xs. best_value c.args.model.now.levels xs (c.loop-place.place + 1)) c.as_slice-increments.ensures.value);
}

pub slice_bounds-values-end : goal.slice_bounds-values-end
slice_bounds-values-end c = omega (arith, few_criteria _ c.criteria.ensures.model, c.criteria.ensures.value, c.from-count.ensures, c.loop-place.invariant.len)

pub slice_bounds-of-end : goal.slice_bounds-of-end
slice_bounds-of-end c = simp length-take (omega (arith, few_criteria _ c.criteria.ensures.model, c.criteria.ensures.value, c.from-count.ensures, c.loop-place.invariant.len))

-- what was written is the list of all best values
written : (c : goal.After-values-1) → take c.from-count.result c.loop-place.values ≡ best_values c.args.model.now.levels c.args.vector.now
written c =
    let e : c.from-count.result ≡ c.loop-place.place = omega arith in
    let f : c.loop-place.place ≡ length c.args.model.now.levels = omega (arith, c.criteria.ensures.value, c.from-count.ensures) in
    ap (λ n. take n c.loop-place.values) e ∙ c.loop-place.invariant.written ∙ ap (λ n. map (best_value c.args.model.now.levels c.args.vector.now) (range_with_len 1 n)) f

-- the vector's values, which have the list's bounds
fits : (c : goal.After-values-1) → (1 ≤ sum (best_values c.args.model.now.levels c.args.vector.now)) × (WHOLE * sum (best_values c.args.model.now.levels c.args.vector.now) < 2 ^ 128)
fits c = best_values_fit c.args.model.now.levels c.args.vector.now (subst IsVector c.as_slice-increments.ensures.value c.as_slice-increments.ensures.range) c.requires

pub of-requires-clause-positive : goal.of-requires-clause-positive
of-requires-clause-positive c = subst (λ xs. 1 ≤ sum xs) (sym (written c)) (fits c).0

pub of-requires-clause-small : goal.of-requires-clause-small
of-requires-clause-small c = subst (λ xs. WHOLE * sum xs < 2 ^ 128) (sym (written c)) (fits c).1
