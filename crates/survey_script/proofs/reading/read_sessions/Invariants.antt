use Rattle.std.proofs.Common.{◌≡◌, ◌-◌, length}
use Rattle.edges.specs.Lines.{ahead}
use Rattle.survey_script.specs.Steps.{AreWithin, GoesTo}
use Rattle.survey_script.proofs.reading.read_sessions.Given as goal

-- The sessions so far are those of the lines that were taken, and within the limits.
abbrev pub invariant-loop-sessions : goal.invariant-loop-sessions
invariant-loop-sessions g l = record {
  longest : l.lines.longest ≡ 4096;
  within : AreWithin (length l.definition.respondents) l.number l.sessions;
  goes : GoesTo l.definition l.number l.sessions (ahead l.fn.lines (g.S.Source.left l.fn.source)) (ahead l.lines (g.S.Source.left l.source));
  quiet : g.S.Source.faults l.source ≡ g.S.Source.faults l.fn.source;
}

abbrev pub decreases-loop-sessions : goal.decreases-loop-sessions
decreases-loop-sessions g l = 65540 - l.number
