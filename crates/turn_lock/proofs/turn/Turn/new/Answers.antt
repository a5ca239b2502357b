use Rattle.std.proofs.Common.{arith, rules, ap, sym, ◌∙◌}
use lib.ListN.{length}
use Rattle.turn_lock.proofs.SeatSteps.{opens}
use Rattle.turn_lock.proofs.turn.Turn.new.Goals as goal

pub new-requires : goal.new-requires
new-requires g c =
    let is = c.of.ensures in let count = c.count.ensures ∙ ap (λ x. length (g.S.Journalled.entries x)) (sym is) in
    opens g.S.Journalled.entries g.S.Journalled.kind c.of.result.value c.from-seats.result c.count.result _ count (search rules) (omega arith) (omega arith)
