use Rattle.std.proofs.Common.{◌≡◌, ℕ, ◌+◌, ◌-◌, ◌^◌, ◌≤◌, ◌<◌, List, length, get_or, ap, sym, ◌∙◌, arith}
use Rattle.std.specs.Int.{w128}
use Rattle.std.proofs.lemmas.Int.{to_z-of_z}
use Rattle.std.proofs.lemmas.Option.{get_or_from_slice_get}
use Rattle.farkas_check.proofs.SumLemmas.{AreLeads, next_within, part_small, AreLeads-more}
use Rattle.farkas_check.proofs.sums.add_lead.Goals as goal
use Rattle.farkas_check.proofs.sums.add_lead.Goals.{After-from-steps}

-- ---- this turn's criterion
module _ (c : After-from-steps) where
  abbrev levels : List ℕ
  levels = c.args.model.now.levels

  place_in : c.loop-place.place < length levels
  place_in = omega (arith, c.loop-place-test.true, c.criteria-place-end.ensures.value)

  steps_is : c.from-steps.result - 1 ≡ get_or levels c.loop-place.place 0 - 1
  steps_is =
      let place_is : c.loop-place.place + 1 - 1 ≡ c.loop-place.place = omega arith in
      let found = rw place_is at c.levels.ensures.value in
      ap (λ n. n - 1) (c.from-steps.ensures ∙ sym (get_or_from_slice_get levels c.loop-place.place c.levels.result 0 found))

  so_far : AreLeads levels c.args.winner.now c.args.loser.now c.args.weight c.args.sums.now c.loop-place.at c.loop-place.place c.loop-place.sums
  so_far = rw (to_z-of_z w128 c.args.weight c.ranges.weight) at c.loop-place.invariant

  step_within : c.loop-place.at + (c.from-steps.result - 1) ≤ length c.loop-place.sums
  step_within =
      omega (
        arith,
        steps_is,
        c.loop-place.auto.sums,
        next_within levels c.args.winner.now c.args.loser.now c.args.weight c.args.sums.now c.loop-place.at c.loop-place.place c.loop-place.sums so_far c.requires.len c.requires.winner c.requires.loser place_in,
      )

pub slice_bounds-add_on_criterion-end : goal.slice_bounds-add_on_criterion-end
slice_bounds-add_on_criterion-end c = step_within (goal.at.slice_bounds-add_on_criterion-end c).After-from-steps

pub add_on_criterion-requires-clause-sums : goal.add_on_criterion-requires-clause-sums
add_on_criterion-requires-clause-sums c =
    let now = (goal.at.add_on_criterion-requires-clause-sums c).After-from-steps in
    part_small (levels now) c.args.winner.now c.args.loser.now c.args.weight c.args.sums.now c.loop-place.at c.loop-place.place c.loop-place.sums (so_far now) c.requires.len c.requires.winner c.requires.loser (place_in now)
    (2 ^ 120) (c.loop-place.at + (c.from-steps.result - 1) - c.loop-place.at) c.requires.sums

pub loop-place-preserved : goal.loop-place-preserved
loop-place-preserved c =
    let now = (goal.at.loop-place-preserved c).After-from-steps in
    let weight_is = to_z-of_z w128 c.args.weight c.ranges.weight in
    rw weight_is
    (AreLeads-more (levels now) c.args.winner.now c.args.loser.now c.args.weight c.args.sums.now c.loop-place.at c.loop-place.place c.loop-place.sums (so_far now) c.requires.len c.requires.winner c.requires.loser (place_in now)
    c.add_on_criterion.new.sums (c.from-steps.result - 1) (c.loop-place.at + (c.from-steps.result - 1) - c.loop-place.at) (steps_is now) (omega (arith, steps_is now))
    (rw (weight_is, c.from.ensures, c.from-in-loop-place.ensures) at c.add_on_criterion.ensures))
