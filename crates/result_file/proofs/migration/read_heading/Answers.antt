use Rattle.std.proofs.Common.{arith, refl, inl, inr, ◌∙◌}
use Rattle.result_file.specs.declared.progress.Progress.TheVariants as reached
use Rattle.result_file.proofs.CopyLemmas.{blank_come, other_refused, long_refused, piece_refused, end_refused}
use Rattle.result_file.proofs.VerdictLaws.{long_checked}
use Rattle.result_file.proofs.migration.read_heading.Goals as goal

pub returns-in-None-clause-refused : goal.returns-in-None-clause-refused
returns-in-None-clause-refused g c =
    other_refused _ _ c.next_line.new.self c.in-Line.ensures.got (omega (arith, c.in-Line.ensures.got.fits, c.in-Line.ensures.limits.longest, c.requires)) (rw c.line.ensures at c.in-None.ensures)

pub returns-in-TooLong-clause-refused : goal.returns-in-TooLong-clause-refused
returns-in-TooLong-clause-refused g c =
    long_refused _
    (long_checked _ _ _ (g.S.Source.left c.next_line.new.source) 1 reached.Blank c.next_line.new.self (blank_come _) c.in-TooLong.ensures.got refl (omega (arith, c.in-TooLong.ensures.limits.longest, c.requires)))

pub returns-in-Piece-clause-refused : goal.returns-in-Piece-clause-refused
returns-in-Piece-clause-refused g c =
    elim c.in-Piece.is [
      | inl piece ↦ piece_refused _ _ c.next_line.new.self (c.next_line.ensures.limits.longest ∙ c.requires) (rw piece at c.next_line.ensures.got)
      | inr end ↦ end_refused _ _ c.next_line.new.self (rw end at c.next_line.ensures.got)
    ]
