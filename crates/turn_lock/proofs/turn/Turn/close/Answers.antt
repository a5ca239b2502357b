use Rattle.turn_lock.proofs.SeatSteps.{Last, closes, closes_with}
use Rattle.turn_lock.proofs.turn.Turn.close.Given.{Over}
use Rattle.turn_lock.proofs.turn.Turn.close.Goals as goal

pub unreachable-requires : goal.unreachable-requires
unreachable-requires g c =
    let found = closes g.S.Journalled.entries g.S.Journalled.kind
    c.args.self.table.shared.key.state.value c.args.self.table.shared.key.seats
    c.args.seat.token.id c.args.seat.token.me.0 _ _ _ c.take-state.result
    c.requires.seat.0.1 c.requires.seat.1 c.requires.whole c.close_with-closed.ensures.values.2 c.take-state.ensures.value in
    c.in_default.not-Some found.0 found.1

-- what is known of the state that the slot had
last : (g : Over) (c : goal.In-Some g)
    → Last g.S.Journalled.entries g.S.Journalled.kind c.args.self.table.shared.key.state.value c.args.self.table.shared.key.seats
    c.args.seat.token.me.0 c.in-Some.state
last g c =
    let found = closes g.S.Journalled.entries g.S.Journalled.kind
    c.args.self.table.shared.key.state.value c.args.self.table.shared.key.seats
    c.args.seat.token.id c.args.seat.token.me.0 _ _ _ c.take-state.result
    c.requires.seat.0.1 c.requires.seat.1 c.requires.whole c.close_with-closed.ensures.values.2 c.take-state.ensures.value in
    closes_with g.S.Journalled.entries g.S.Journalled.kind
    c.args.self.table.shared.key.state.value c.args.self.table.shared.key.seats c.args.seat.token.me.0 c.in-Some.state _ found c.in-Some.is

pub returns-clause-state : goal.returns-clause-state
returns-clause-state g c = let l = last g c in (l.0, l.1)

pub returns-clause-began : goal.returns-clause-began
returns-clause-began g c = (last g c).2

pub returns-clause-own : goal.returns-clause-own
returns-clause-own g c = (last g c).3
