use Rattle.std.proofs.Common.{◌-◌, ◌<◌, ◌^◌, ℤ, unsigned_abs, to_z, of_z, sym, subst, ◌∙◌, arith}
use mir.Syntax.{w128}
use Rattle.simplex.proofs.Sizes.{kept}
use Rattle.simplex.proofs.Equations.{weight_small}
use Rattle.simplex.proofs.Slacks.{SlacksSoFar, slacks_none, slacks_more, slacks_done, slack_room, slacks_few, remaining_falls}
use Rattle.simplex.proofs.clash.slack_weights.Goals as goal

pub slacks-init : goal.slacks-init
slacks-init c = subst (SlacksSoFar c.args.work.now (c.args.row - 1) c.from-columns.result c.from-columns.result) (sym c.none-rows.ensures)
    (slacks_none c.args.work.now (c.args.row - 1) c.from-columns.result c.cols.ensures.dictionary (c.from-columns.ensures ∙ c.cols.ensures.value))

pub push-requires-clause-room : goal.push-requires-clause-room
push-requires-clause-room c =
    let e = c.in-Some.ensures in
    slack_room c.args.work.now (c.args.row - 1) c.from-columns.result c.slacks.above e.0 c.slacks.rows c.cols.ensures.dictionary e.1 c.slacks.invariant

pub push-requires-clause-within : goal.push-requires-clause-within
push-requires-clause-within c =
    let e = c.in-Some.ensures in
    let small : unsigned_abs c.in-Some.weight < 2 ^ 96 = subst (λ (n : ℤ). unsigned_abs n < 2 ^ 96) (sym e.3) (weight_small c.args.work.now c.cols.ensures.dictionary (c.args.row - 1) e.0 (omega arith) (let h = e.1.within in omega arith)) in
    subst (λ (n : ℤ). unsigned_abs n < 2 ^ 96) (sym (kept c.in-Some.weight (omega arith))) small

pub slacks-smaller : goal.slacks-smaller
slacks-smaller c =
    let e = c.in-Some.ensures in
    remaining_falls c.args.work.now (c.args.row - 1) c.slacks.above c.in-Some.variable e.0 e.1 e.2

pub slacks-preserved : goal.slacks-preserved
slacks-preserved c =
    let e = c.in-Some.ensures in
    let small : unsigned_abs c.in-Some.weight < 2 ^ 96 = subst (λ (n : ℤ). unsigned_abs n < 2 ^ 96) (sym e.3) (weight_small c.args.work.now c.cols.ensures.dictionary (c.args.row - 1) e.0 (omega arith) (let h = e.1.within in omega arith)) in
    slacks_more c.args.work.now (c.args.row - 1) c.from-columns.result c.slacks.above c.in-Some.variable e.0 (to_z w128 (of_z w128 c.in-Some.weight)) c.slacks.rows c.push.new.self c.cols.ensures.dictionary (omega arith) c.requires.blocked
    e.1 e.2 (kept c.in-Some.weight (omega arith) ∙ e.3) c.push.ensures c.slacks.invariant

pub returns-clause-sums : goal.returns-clause-sums
returns-clause-sums c =
    slacks_done c.args.work.now (c.args.row - 1) c.from-columns.result c.slacks.above c.slacks.rows c.cols.ensures.dictionary (omega arith) c.requires.blocked c.in_default.ensures c.slacks.invariant

pub returns-clause-few : goal.returns-clause-few
returns-clause-few c = slacks_few c.args.work.now (c.args.row - 1) c.from-columns.result c.slacks.above c.slacks.rows c.slacks.invariant
