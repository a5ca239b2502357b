use Rattle.std.proofs.Common.{◌≡◌, ◌<◌, ◌≤◌, length, drop, true, false, arith}
use Rattle.text_fields.specs.Spelling.{is_next}
use Rattle.survey_words.specs.declared.limits.TheConstants.{MAX_SHAPE_COUNTS}
use Rattle.survey_words.proofs.CountLemmas.{none_left, none_read, last_read, next_read, one_more_counts}
use Rattle.survey_words.proofs.shapes.read_counts.Goals as goal

pub returns-in_default : goal.returns-in_default
returns-in_default c =
    let lt : length c.counts.items.items < MAX_SHAPE_COUNTS = omega arith in
    record { exact = none_read MAX_SHAPE_COUNTS _ _ _ c.counts.invariant lt c.in_default.ensures.exact; limits = tt }

pub returns-then-not-skip : goal.returns-then-not-skip
returns-then-not-skip c =
    let lt : length c.counts.items.items < MAX_SHAPE_COUNTS = omega arith in
    let next : is_next 120 c.number.new.self ≡ false = cc in
    let left : c.skip.new.self ≡ c.number.new.self = c.if-not-skip.ensures.left in
    record {
      exact = rw (left, c.in_ok-push.ensures.items) (last_read MAX_SHAPE_COUNTS _ _ _ c.counts.invariant lt _ _ c.in-Some.ensures.exact next);
      limits = rw c.in_ok-push.ensures.items (one_more_counts _ _ lt c.counts.invariant.each c.in-Some.ensures.limit);
    }

pub counts-preserved : goal.counts-preserved
counts-preserved c =
    let lt : length c.counts.items.items < MAX_SHAPE_COUNTS = omega arith in
    let next : is_next 120 c.number.new.self ≡ true = cc in
    let left : c.skip.new.self ≡ drop 1 c.number.new.self = c.if-not-skip.ensures.left in
    rw (left, c.in_ok-push.ensures.items) (next_read MAX_SHAPE_COUNTS _ _ _ c.counts.invariant lt _ _ c.in-Some.ensures.exact c.in-Some.ensures.limit next)

pub returns : goal.returns
returns c =
    let full : MAX_SHAPE_COUNTS ≤ length c.counts.items.items = omega arith in
    record { exact = none_left MAX_SHAPE_COUNTS _ _ _ c.counts.invariant full; limits = tt }
