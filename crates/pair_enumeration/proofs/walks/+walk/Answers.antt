use Rattle.std.proofs.Common.{◌<◌, arith, sym, ap, rules, length, ◌∙◌, ◌++◌, ◌+◌, subst}
use Rattle.pair_enumeration.specs.Walks.{found_from}
use Rattle.pair_enumeration.proofs.WalkLemmas.{IsNext, ListsRow, next_is_walk, row_more, row_same, levels_more, levels_done, cancelled_found, nothing_found, on_ok}
use Rattle.pair_enumeration.proofs.walks.+walk.Goals as goal
use Rattle.pair_enumeration.proofs.walks.+walk.Goals.{extend-then-walk-gt0+else-loop-level-test, extend-else-walk-gt0, extend_with-in-Some+in_ok-extend, extend_with-in_default}

pub extend-returns-then-walk-left : goal.extend-returns-then-walk-left
extend-returns-then-walk-left t c = nothing_found c.args.counts.now c.args.walk c.args.classes.now.items c.if-walk-left.true

pub extend-loop-level-preserved : goal.extend-loop-level-preserved
extend-loop-level-preserved t c =
    levels_more c.args.counts.now c.args.walk c.loop-level.level c.args.classes.now.items c.loop-level.classes.items c.extend_with.new.classes.items
    (omega arith) c.loop-level.invariant c.in_ok-extend_with.ensures

pub extend-extend-requires : goal.extend-extend-requires
extend-extend-requires t c =
    let next : IsNext c.args.walk c.after.result 0 0 = record { place = c.after.ensures.place; left_is = c.after.ensures.left; right_is = c.after.ensures.right } in
    (search rules, next_is_walk c.args.counts.now c.args.walk c.after.result 0 0 c.requires (omega arith) (omega arith) (omega arith) next)

pub extend-returns : goal.extend-returns
extend-returns t c =
    let next : IsNext c.args.walk c.after.result 0 0 = record { place = c.after.ensures.place; left_is = c.after.ensures.left; right_is = c.after.ensures.right } in
    let more : c.args.walk.place < length c.args.counts.now = omega arith in
    elim c.if-walk-gt0.branch [
      | extend-then-walk-gt0+else-loop-level-test w ↦ on_ok c.extend.result
          (λ g. levels_done c.args.counts.now c.args.walk c.after.result w.loop-level.level c.args.classes.now.items w.loop-level.classes.items c.extend.new.classes.items more (omega arith) w.loop-level.invariant (omega arith) next c.after.ensures.rest c.after.ensures.stage (g ∙ ap (λ v. v.items ++ found_from c.args.counts.now c.after.result) w.classes-is))
          c.extend.ensures
      | extend-else-walk-gt0 w ↦ on_ok c.extend.result
          (λ g. cancelled_found c.args.counts.now c.args.walk c.after.result c.args.classes.now.items c.extend.new.classes.items more (omega arith) next c.after.ensures.rest c.after.ensures.stage (g ∙ ap (λ v. v.items ++ found_from c.args.counts.now c.after.result) w.classes-is))
          c.extend.ensures
    ]

pub extend_with-loop-right-preserved : goal.extend_with-loop-right-preserved
extend_with-loop-right-preserved t c = elim c.match-after.branch [
  | extend_with-in-Some+in_ok-extend w ↦
      let next : IsNext c.args.walk w.after-in-Some.result c.args.left c.loop-right.right = record { place = w.after-in-Some.ensures.place; left_is = w.after-in-Some.ensures.left; right_is = w.after-in-Some.ensures.right } in
      row_more c.args.counts.now c.args.walk w.after-in-Some.result c.args.left c.loop-right.right w.in-Some.stage c.args.classes.now.items c.loop-right.classes.items c.match-after.classes.items
      (omega arith) c.loop-right.invariant (sym w.in-Some.ensures) next w.after-in-Some.ensures.rest w.after-in-Some.ensures.stage
      (ap (λ v. v.items) w.classes-is ∙ w.in_ok-extend.ensures)
  | extend_with-in_default w ↦
      subst (ListsRow c.args.counts.now c.args.walk c.args.left (c.loop-right.right + 1) c.args.classes.now.items) (ap (λ v. v.items) (sym w.classes-is))
      (row_same c.args.counts.now c.args.walk c.args.left c.loop-right.right c.args.classes.now.items c.loop-right.classes.items
      (omega arith) c.loop-right.invariant (sym w.in_default.ensures))
]
