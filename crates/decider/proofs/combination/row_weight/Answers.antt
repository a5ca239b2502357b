use Rattle.std.proofs.Common.{get_or, refl, arith}
use Rattle.simplex.specs.Weights.{no_weight}
use Rattle.simplex.proofs.Sizes.{kept}
use Rattle.decider.proofs.Walks.{row_taken, row_none}
use Rattle.decider.proofs.combination.row_weight.Goals as goal
use Rattle.decider.proofs.combination.row_weight.Goals.{else-taken-rows-via-then-taken-rows+else-rows-taken, else-taken-rows-via-else-taken-rows}

pub returns-then-rows-taken : goal.returns-then-rows-taken
returns-then-rows-taken c =
    let small = (c.requires.rows.each c.args.taken no_weight c.if-taken-rows.true).within in
    row_taken c.args.rows.now c.args.taken c.args.row _ c.requires.rows c.if-taken-rows.true c.if-rows-taken.true
    (kept (get_or c.args.rows.now c.args.taken no_weight).weight (omega (arith, small)))

pub returns-else-taken-rows : goal.returns-else-taken-rows
returns-else-taken-rows c =
    elim c.else-taken-rows.branch [
      | else-taken-rows-via-then-taken-rows+else-rows-taken w ↦
          row_none c.args.rows.now c.args.taken c.args.row _ c.requires.rows c.requires.within (λ lt e. w.if-rows-taken.false e) refl c.requires.from
      | else-taken-rows-via-else-taken-rows w ↦
          row_none c.args.rows.now c.args.taken c.args.row _ c.requires.rows c.requires.within (λ lt e. omega (arith, w.if-taken-rows.false)) refl c.requires.from
    ]
