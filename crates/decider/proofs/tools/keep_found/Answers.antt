use Rattle.std.proofs.Common.{subst}
use Rattle.decider.specs.Decisions.{IsDecision}
use Rattle.decider.proofs.tools.keep_found.Goals as goal

pub keep-requires-then-ne-2-clause-coprime : goal.keep-requires-then-ne-2-clause-coprime
keep-requires-then-ne-2-clause-coprime c =
    let is = subst (IsDecision c.args.model.now.levels c.args.answers.now.answers c.args.pair.now) c.in-Undecided.is c.requires in is.3
