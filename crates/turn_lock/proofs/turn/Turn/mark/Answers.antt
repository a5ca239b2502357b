use Rattle.std.proofs.Common.{rules, arith, ap, sym, subst, ◌∙◌}
use mathlib.Core.List.{IsPrefix}
use lib.ListN.{length}
use Rattle.turn_lock.specs.Steps.{log_of}
use Rattle.turn_lock.proofs.Prefixes.{prefix_le}
use Rattle.turn_lock.proofs.WordSteps.{marks}
use Rattle.turn_lock.proofs.turn.Turn.mark.Goals as goal

pub fetch_add-requires : goal.fetch_add-requires
fetch_add-requires g c =
    let kind = c.requires.turn.1 in let list = c.requires.state.1 in
    let longer = subst (IsPrefix (log_of c.args.token.now.me.0.stage)) (sym list) c.requires.state.0 in
    let count = c.count.ensures ∙ sym (ap length list) in
    let le = prefix_le _ _ longer in
    (search rules, search rules, marks _ _ _ _ _ _ _ kind.0 _ _ c.requires.served.0 kind.1 longer (omega arith) (omega arith))
