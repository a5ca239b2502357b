use Rattle.std.proofs.Common.{pos, ◌/◌}
use Rattle.std.proofs.lemmas.Nat.{mod_below}
use Rattle.wide_step.proofs.DividedLemmas.{of_exact, of_kept}
use Rattle.wide_step.proofs.divided.Divided.of.Goals as goal

pub returns : goal.returns
returns c = record {
  quotient = pos (c.args.number / c.args.divisor);
  wraps = pos 0;
  kept = of_kept (c.args.number / c.args.divisor);
  exact = of_exact c.args.number c.args.divisor;
  below = mod_below c.args.number c.args.divisor c.requires;
}
