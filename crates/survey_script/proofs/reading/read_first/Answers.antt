use Rattle.std.proofs.Common.{◌∙◌}
use Rattle.survey_script.proofs.FaultLemmas.{defined_by_end, defined_by_line}
use Rattle.survey_script.proofs.TextLemmas.{end_ends, end_given, fault_given, line_given, piece_ends, piece_given, too_long_given}
use Rattle.survey_script.proofs.StepLemmas.{begins_by_line, begins_by_none, reads_by, refused_by, refused_long}
use Rattle.survey_script.proofs.reading.read_first.Goals as goal

pub returns-in-Line-clause-read : goal.returns-in-Line-clause-read
returns-in-Line-clause-read g c =
    reads_by c.next_line.new.self.line c.define.result _ _ (begins_by_line _ _ _ (line_given c.next_line.new.self _ _ c.in-Line.ensures.got)) (rw c.line.ensures at c.define.ensures.read)

pub returns-in-Line-clause-refused : goal.returns-in-Line-clause-refused
returns-in-Line-clause-refused g c =
    refused_by c.next_line.new.self.line c.define.result _ _ (begins_by_line _ _ _ (line_given c.next_line.new.self _ _ c.in-Line.ensures.got)) (rw c.line.ensures at c.define.ensures.read)

pub returns-in-Piece-clause-read : goal.returns-in-Piece-clause-read
returns-in-Piece-clause-read g c =
    reads_by c.next_line.new.self.line c.define-in-Piece.result _ _ (begins_by_line _ _ _ (piece_given c.next_line.new.self _ _ c.in-Piece.ensures.got)) (rw c.line-in-Piece.ensures at c.define-in-Piece.ensures.read)

pub returns-in-Piece-clause-refused : goal.returns-in-Piece-clause-refused
returns-in-Piece-clause-refused g c =
    refused_by c.next_line.new.self.line c.define-in-Piece.result _ _ (begins_by_line _ _ _ (piece_given c.next_line.new.self _ _ c.in-Piece.ensures.got)) (rw c.line-in-Piece.ensures at c.define-in-Piece.ensures.read)

pub returns-in-End-clause-read : goal.returns-in-End-clause-read
returns-in-End-clause-read g c =
    reads_by c.next_line.new.self.line c.define-in-End.result _ _ (begins_by_none _ _ _ c.in-End.ensures.got.no_line (end_given c.next_line.new.self _ _ c.in-End.ensures.got)) (rw c.line-in-End.ensures at c.define-in-End.ensures.read)

pub returns-in-End-clause-refused : goal.returns-in-End-clause-refused
returns-in-End-clause-refused g c =
    refused_by c.next_line.new.self.line c.define-in-End.result _ _ (begins_by_none _ _ _ c.in-End.ensures.got.no_line (end_given c.next_line.new.self _ _ c.in-End.ensures.got)) (rw c.line-in-End.ensures at c.define-in-End.ensures.read)

pub returns-in-Line-clause-line : goal.returns-in-Line-clause-line
returns-in-Line-clause-line g c =
    defined_by_line c.next_line.new.self c.define.result _ _ c.in-Line.ensures.got (rw c.line.ensures at c.define.ensures.read)

pub returns-in-Piece-clause-line : goal.returns-in-Piece-clause-line
returns-in-Piece-clause-line g c = defined_by_end c.define-in-Piece.result _ _ (piece_ends c.next_line.new.self _ _ c.in-Piece.ensures.got)

pub returns-in-End-clause-line : goal.returns-in-End-clause-line
returns-in-End-clause-line g c = defined_by_end c.define-in-End.result _ _ (end_ends c.next_line.new.self _ _ c.in-End.ensures.got)

pub returns-in-TooLong-clause-refused : goal.returns-in-TooLong-clause-refused
returns-in-TooLong-clause-refused g c =
    refused_long _ _ (c.next_line.ensures.limits.longest ∙ c.requires.longest) (too_long_given c.next_line.new.self _ _ c.in-TooLong.ensures.got)

pub returns-in-ReadFault-clause-first : goal.returns-in-ReadFault-clause-first
returns-in-ReadFault-clause-first g c = λ _. fault_given c.next_line.new.self _ _ c.in-ReadFault.ensures.got
