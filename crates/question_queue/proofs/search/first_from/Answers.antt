use Rattle.std.proofs.Common.{sym, ◌∙◌, arith}
use Rattle.question_queue.specs.Pools.{is_wanted, new_mark}
use Rattle.question_queue.proofs.Places.{first_is, not_yet, item_at, first_within}
use Rattle.question_queue.proofs.search.first_from.Goals as goal

pub returns-then-is-clause-first : goal.returns-then-is-clause-first
returns-then-is-clause-first g c =
    sym (first_is (is_wanted c.args.wanted) c.args.marks.now c.loop-place.place _ c.loop-place.invariant.0
    (item_at c.args.marks.now c.loop-place.place new_mark c.loop-place-test.true) (sym c.is.ensures ∙ c.if-is.true))

pub loop-place-preserved : goal.loop-place-preserved
loop-place-preserved g c = (
  not_yet (is_wanted c.args.wanted) c.args.marks.now c.loop-place.place _ c.loop-place.invariant.0
      (item_at c.args.marks.now c.loop-place.place new_mark c.loop-place-test.true) (sym c.is.ensures ∙ c.if-is.false),
  omega (arith, c.look.ensures, c.loop-place.invariant.1),
)

pub returns-clause-first : goal.returns-clause-first
returns-clause-first g c = omega (arith, c.loop-place-test.false, c.loop-place.invariant.0, first_within (is_wanted c.args.wanted) c.args.marks.now)

pub returns-clause-cost : goal.returns-clause-cost
returns-clause-cost g c = omega (arith, c.loop-place-test.false, c.loop-place.invariant.0, c.loop-place.invariant.1, first_within (is_wanted c.args.wanted) c.args.marks.now)
