use Rattle.std.proofs.Common.{arith}
use Rattle.survey_replies.proofs.CallLemmas.{prefix_length}
use Rattle.desks_bench.proofs.events.Eliminations.of.Goals as goal

pub loop-place-preserved : goal.loop-place-preserved
loop-place-preserved g c =
    omega (arith, c.loop-place.invariant, prefix_length (g.E.Events.seen c.loop-place.journal).journal (g.E.Events.seen c.event.new.self).journal c.event.ensures.watches.longer)
