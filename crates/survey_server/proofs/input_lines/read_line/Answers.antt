use Rattle.survey_server.proofs.LineLemmas.{line_given, piece_given, too_long_given}
use Rattle.survey_server.proofs.input_lines.read_line.Goals as goal

pub returns-in-Line-clause-line : goal.returns-in-Line-clause-line
returns-in-Line-clause-line g c = line_given c.next_line.new.self _ _ (rw c.in-Line.is at c.next_line.ensures.got)

pub returns-in-Piece-clause-line : goal.returns-in-Piece-clause-line
returns-in-Piece-clause-line g c = piece_given c.next_line.new.self _ _ (rw c.in-Piece.is at c.next_line.ensures.got)

pub returns-in-TooLong-clause-line : goal.returns-in-TooLong-clause-line
returns-in-TooLong-clause-line g c = too_long_given c.next_line.new.self _ _ (rw c.in-TooLong.is at c.next_line.ensures.got)
