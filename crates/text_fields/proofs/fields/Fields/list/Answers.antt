use Rattle.std.proofs.Common.{◌≡◌, true, false, drop, arith}
use Rattle.text_fields.specs.Spelling.{is_next}
use Rattle.text_fields.proofs.ListSteps.{first_cell, no_first_item, next_cell, no_next_cell, last_cell}
use Rattle.text_fields.proofs.fields.Fields.list.Goals as goal

pub returns-in_err-cells : goal.returns-in_err-cells
returns-in_err-cells g c =
    rw c.from_residual.ensures (record { exact = no_first_item (g.T.Item.reads c.args.most) _ c.args.self.now c.in_err-cells.ensures })

pub loop-count-init : goal.loop-count-init
loop-count-init g c = first_cell _ _ _ _ _ c.requires c.in_ok-cells.ensures

pub returns-in_err-cells-2 : goal.returns-in_err-cells-2
returns-in_err-cells-2 g c =
    let comma : is_next 0x2C c.loop-count.self ≡ true = cc in
    let left : c.skip.new.self ≡ drop 1 c.loop-count.self = c.if-skip.ensures.left in
    rw c.from_residual-in_err-cells-2.ensures (record { exact = no_next_cell _ _ _ _ _ _ c.loop-count.invariant c.loop-count-test.true comma (rw left at c.in_err-cells-2.ensures) })

pub loop-count-preserved : goal.loop-count-preserved
loop-count-preserved g c =
    let comma : is_next 0x2C c.loop-count.self ≡ true = cc in
    let left : c.skip.new.self ≡ drop 1 c.loop-count.self = c.if-skip.ensures.left in
    next_cell _ _ _ _ _ _ _ _ c.loop-count.invariant c.loop-count-test.true comma (rw left at c.in_ok-cells-2.ensures)

pub returns-else-skip : goal.returns-else-skip
returns-else-skip g c =
    let no_comma : is_next 0x2C c.loop-count.self ≡ false = cc in
    let left : c.skip.new.self ≡ c.loop-count.self = c.if-skip.ensures.left in
    record { exact = (omega (arith, c.loop-count.invariant.room, c.loop-count.invariant.within), rw left (last_cell _ _ _ _ _ _ c.loop-count.invariant (λ _. no_comma))) }

pub returns-after-loop-count : goal.returns-after-loop-count
returns-after-loop-count g c =
    record { exact = (omega (arith, c.loop-count.invariant.room, c.loop-count.invariant.within), last_cell _ _ _ _ _ _ c.loop-count.invariant (λ lt. absurd (omega (arith, c.loop-count-test.false)))) }
