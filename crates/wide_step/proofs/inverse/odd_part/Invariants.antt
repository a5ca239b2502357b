use Rattle.std.proofs.Common.{◌≡◌, ◌<◌, ◌*◌, ◌^◌}
use Rattle.wide_step.proofs.inverse.odd_part.Given as goal

abbrev pub invariant-loop-odd : goal.invariant-loop-odd
invariant-loop-odd l = record {
  some : 0 < l.odd;
  product : l.odd * 2 ^ l.twos ≡ l.fn.number;
}

abbrev pub decreases-loop-odd : goal.decreases-loop-odd
decreases-loop-odd l = l.odd
