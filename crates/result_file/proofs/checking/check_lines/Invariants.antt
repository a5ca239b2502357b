use Rattle.std.proofs.Common.{◌≡◌, ◌-◌}
use Rattle.edges.specs.Lines.{ahead}
use Rattle.result_file.specs.Progress.{HasCome}
use Rattle.result_file.proofs.checking.check_lines.Given as goal

abbrev pub invariant-loop-verdict : goal.invariant-loop-verdict
invariant-loop-verdict g l = record {
  longest : l.lines.longest ≡ 4096;
  come : HasCome (g.S.Source.left l.fn.source) (ahead l.lines (g.S.Source.left l.source)) l.number l.progress;
  quiet : g.S.Source.faults l.source ≡ g.S.Source.faults l.fn.source;
}

abbrev pub decreases-loop-verdict : goal.decreases-loop-verdict
decreases-loop-verdict g l = 200000 - l.number
