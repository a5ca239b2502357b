use Rattle.std.proofs.Common.{◌≡◌, ◌-◌, ◌∙◌, ap, sym, length, take, arith}
use Rattle.std.proofs.lemmas.List.{take_all}
use Rattle.criteria_model.specs.Worth.{increments}
use Rattle.criteria_model.proofs.DifferenceSteps.{IsStep, step_len, step_at, step_written}
use Rattle.criteria_model.proofs.differences.differences.Goals as goal

pub loop-place-preserved : goal.loop-place-preserved
loop-place-preserved c =
    let step : IsStep c.args.counts.now c.args.high.now c.args.low.now c.loop-place.place c.loop-place.at c.saturating_sub-steps.result c.loop-place.cells c.fill.new.cells = record {
      more = omega arith;
      high_len = c.requires.high_len;
      low_len = c.requires.low_len;
      few = c.requires.few;
      len = c.loop-place.invariant.len;
      at_is = c.loop-place.invariant.at;
      written = c.loop-place.invariant.written;
      steps_is = c.saturating_sub-steps.ensures ∙ ap (λ n. n - 1) c.from.ensures;
      new_is_written = c.fill.ensures;
    } in
    record { len = step_len _ _ _ _ _ _ _ _ step; at = step_at _ _ _ _ _ _ _ _ step; written = step_written _ _ _ _ _ _ _ _ step }

pub returns : goal.returns
returns c =
    let e : c.loop-place.place ≡ length c.args.counts.now = omega arith in
    let counts = take_all c.loop-place.place c.args.counts.now (omega arith) in
    let high = take_all c.loop-place.place c.args.high.now (omega arith) in
    let low = take_all c.loop-place.place c.args.low.now (omega arith) in
    let at : c.loop-place.at ≡ increments c.args.counts.now = c.loop-place.invariant.at ∙ ap increments counts in
    ap (λ n. take n c.loop-place.cells) (sym at) ∙ rw (counts, high, low) at c.loop-place.invariant.written
