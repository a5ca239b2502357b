use Rattle.std.proofs.Common.{rules, ap, ◌∙◌}
use Rattle.turn_lock.proofs.WordSteps.{draws, has_slot}
use Rattle.turn_lock.proofs.turn.Turn.enter.Goals as goal

pub fetch_add-number-requires : goal.fetch_add-number-requires
fetch_add-number-requires g c = (search rules, search rules, draws _ _ _ _ _ _ _ _ c.requires.1 c.requires.0.1)

pub wait-requires-clause-turn : goal.wait-requires-clause-turn
wait-requires-clause-turn g c κs h = (search rules, (_, ap (λ m. m.0.kind) c.fetch_add-number.ensures.2.2 ∙ c.requires.0.1))

pub exchange-requires : goal.exchange-requires
exchange-requires g c = (search rules, has_slot _ _ _ _ c.wait.ensures.takes.1)
