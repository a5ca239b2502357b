use Rattle.std.proofs.Common.{arith, refl, inl, inr, ◌∙◌}
use Rattle.result_file.proofs.VerdictLaws.{line_come, line_checked, end_with_piece, end_without_piece, whole_with_piece, whole_without_piece, long_checked}
use Rattle.result_file.proofs.checking.next_progress.Goals as goal

pub returns-in-Ok-clause-next : goal.returns-in-Ok-clause-next
returns-in-Ok-clause-next g c = λ text h.
    line_come text _ _ c.args.number c.args.progress.now c.next.new.self c.next_line.new.self h c.in-Line.ensures.got (rw c.line.ensures at c.in-Ok.ensures.next)

pub returns-in-Err-Wrong-clause-verdict : goal.returns-in-Err-Wrong-clause-verdict
returns-in-Err-Wrong-clause-verdict g c = λ text h.
    line_checked text _ _ c.args.number c.args.progress.now c.next_line.new.self c.in-Err-Wrong.part h c.in-Line.ensures.got (omega (arith, c.in-Line.ensures.got.fits, c.in-Line.ensures.limits.longest, c.requires)) (rw (c.line.ensures, c.in-Err-Wrong.field-0-is) at c.in-Err-Wrong.ensures.failed)

pub returns-in-Piece-clause-verdict : goal.returns-in-Piece-clause-verdict
returns-in-Piece-clause-verdict g c = λ text h.
    elim c.in-Piece.is [
      | inl piece ↦
          end_with_piece text _ _ c.args.number c.args.progress.now c.next_line.new.self c.ends.result h (rw piece at c.next_line.ensures.got) (c.next_line.ensures.limits.longest ∙ c.requires) (rw c.line-in-Piece.ensures at c.ends.ensures.verdict)
      | inr end ↦ end_without_piece text _ _ c.args.number c.args.progress.now c.next_line.new.self c.ends.result h (rw end at c.next_line.ensures.got) (rw c.line-in-Piece.ensures at c.ends.ensures.verdict)
    ]

pub returns-in-TooLong-clause-verdict : goal.returns-in-TooLong-clause-verdict
returns-in-TooLong-clause-verdict g c = λ text h.
    long_checked text _ _ (g.S.Source.left c.next_line.new.source) c.args.number c.args.progress.now c.next_line.new.self h c.in-TooLong.ensures.got refl (omega (arith, c.in-TooLong.ensures.limits.longest, c.requires))

pub returns-in-Piece-clause-piece : goal.returns-in-Piece-clause-piece
returns-in-Piece-clause-piece g c =
    elim c.in-Piece.is [
      | inl piece ↦ whole_with_piece _ (g.S.Source.left c.next_line.new.source) c.args.number c.args.progress.now c.next_line.new.self c.ends.result (rw piece at c.next_line.ensures.got) (rw c.line-in-Piece.ensures at c.ends.ensures.verdict)
      | inr end ↦ whole_without_piece _ (g.S.Source.left c.next_line.new.source) c.args.number c.args.progress.now c.next_line.new.self c.ends.result (rw end at c.next_line.ensures.got) (rw c.line-in-Piece.ensures at c.ends.ensures.verdict)
    ]
