use Rattle.std.proofs.Common.{◌≡◌, ◌-◌, [], ◌∷◌, ◌++◌}
use Rattle.std.specs.Io.KnownBytes.{prepend_known}
use Rattle.edges.specs.Line.{line_end}
use Rattle.edges.specs.Lines.{ahead}
use Rattle.result_file.specs.declared.kinds.Kind.TheVariants.{Result}
use Rattle.result_file.specs.Migrated.{HasCopied}
use Rattle.result_file.specs.Progress.{HasCome}
use Rattle.result_file.specs.Texts.{heading}
use Rattle.result_file.proofs.migration.copy_lines.Given as goal

-- The lines so far are right, and copied.
abbrev pub invariant-loop-verdict : goal.invariant-loop-verdict
invariant-loop-verdict g l = record {
  longest : l.lines.longest ≡ 4096;
  come : HasCome (prepend_known (heading (Result l.fn.format) ++ line_end ∷ []) (ahead l.fn.lines (g.S.Source.left l.fn.source))) (ahead l.lines (g.S.Source.left l.source)) l.number l.progress;
  copied : HasCopied (ahead l.fn.lines (g.S.Source.left l.fn.source)) (ahead l.lines (g.S.Source.left l.source)) l.copy.items;
  quiet : g.S.Source.faults l.source ≡ g.S.Source.faults l.fn.source;
}

abbrev pub decreases-loop-verdict : goal.decreases-loop-verdict
decreases-loop-verdict g l = 200000 - l.number
