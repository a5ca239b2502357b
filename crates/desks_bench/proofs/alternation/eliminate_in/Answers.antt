use Rattle.std.proofs.Common.{refl}
use Rattle.turn_lock.proofs.Prefixes.{prefix_same}
use Rattle.desks_bench.proofs.alternation.eliminate_in.Goals as goal

pub loop-init : goal.loop-init
loop-init g c = record {
  listed = refl;
  of = c.requires.model;
  longer = prefix_same c.args.state.now.journal c.args.state.now.journal refl;
  reserved = c.requires.reserved;
}
