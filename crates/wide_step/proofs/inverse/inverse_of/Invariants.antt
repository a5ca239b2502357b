use Rattle.std.proofs.Common.{◌^◌}
use Rattle.std.specs.Int.{w64}
use Rattle.wide_step.specs.Inverse.{IsInverseUpTo}
use Rattle.wide_step.proofs.inverse.inverse_of.Given as goal

abbrev pub invariant-loop : goal.invariant-loop
invariant-loop l = IsInverseUpTo w64 l.odd l.inverse (2 ^ 2 ^ l.counter)
