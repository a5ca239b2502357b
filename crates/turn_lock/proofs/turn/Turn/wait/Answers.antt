use Rattle.std.proofs.Common.{rules, ap, ◌∙◌}
use Rattle.turn_lock.proofs.WordSteps.{looks}
use Rattle.turn_lock.proofs.turn.Turn.wait.Goals as goal

pub load-served-requires : goal.load-served-requires
load-served-requires g c =
    let waits = c.requires.waits in let kind = c.requires.turn.1 in let same = c.loop.invariant.1 in
    (search rules, search rules, looks _ _ _ _ _ _ _ waits.0 kind.0 (ap (λ m. m.0.stage) same ∙ waits.1) (ap (λ m. m.0.kind) same ∙ kind.1))
