use Rattle.std.proofs.Common.{◌≡◌, ◌-◌, [], ◌∷◌, ◌++◌}
use Rattle.std.specs.Io.KnownBytes.{prepend_known}
use Rattle.edges.specs.Line.{line_end}
use Rattle.edges.specs.Lines.{ahead}
use Rattle.result_file.specs.declared.kinds.Kind.TheVariants.{Result}
use Rattle.result_file.specs.Texts.{heading}
use Rattle.result_file.proofs.LoadLemmas.{HasComeIn}
use Rattle.result_file.proofs.loading.load_lines.Given as goal

abbrev pub invariant-loop-progress : goal.invariant-loop-progress
invariant-loop-progress g l = record {
  longest : l.lines.longest ≡ 4096;
  come : HasComeIn l.fn.format (prepend_known (heading (Result l.fn.format) ++ line_end ∷ []) (ahead l.fn.lines (g.S.Source.left l.fn.source))) (ahead l.lines (g.S.Source.left l.source)) l.number l.progress;
  quiet : g.S.Source.faults l.source ≡ g.S.Source.faults l.fn.source;
}

abbrev pub decreases-loop-progress : goal.decreases-loop-progress
decreases-loop-progress g l = 200000 - l.number
