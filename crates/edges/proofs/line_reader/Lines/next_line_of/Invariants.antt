use Rattle.std.proofs.Common.{◌≡◌, ◌+◌, ◌<◌, ◌≤◌, [], length, take, ◌-◌}
use Rattle.edges.specs.Line.{HasNoLineEnd}
use Rattle.edges.specs.Lines.{KeepsLimits, ahead}
use Rattle.edges.proofs.line_reader.Lines.next_line_of.Given as goal

-- No byte is lost, no fault came, and the bytes kept hold no line end.
abbrev pub invariant-loop-searched : goal.invariant-loop-searched
invariant-loop-searched g l = record {
  same : ahead l.self (g.S.Source.left l.source) ≡ ahead l.fn.self (g.S.Source.left l.fn.source);
  quiet : g.S.Source.faults l.source ≡ g.S.Source.faults l.fn.source;
  limits : KeepsLimits l.fn.self l.self;
  no_line : l.self.line ≡ [];
  unbroken : HasNoLineEnd (take (l.self.longest + 1) l.self.kept);
  longer : length l.fn.self.kept ≤ length l.self.kept;
  uncalled : l.fn.self.longest < length l.fn.self.kept → l.source ≡ l.fn.source;
}

-- Each turn that goes on takes at least one byte more, and ends past the longest length.
abbrev pub decreases-loop-searched : goal.decreases-loop-searched
decreases-loop-searched g l = l.self.longest + 1 - length l.self.kept
