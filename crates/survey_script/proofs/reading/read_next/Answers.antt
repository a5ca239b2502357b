use Rattle.std.proofs.Common.{◌≡◌, ◌∙◌}
use Rattle.std.specs.Prelude.{Ok}
use Rattle.survey_script.specs.Scripts.{after_line}
use Rattle.survey_script.proofs.TextLemmas.{fault_given, line_given, line_told, piece_given, too_long_given}
use Rattle.survey_script.proofs.StepLemmas.{ends_last, stops_by, stops_last, stops_long}
use Rattle.survey_script.proofs.WithinLemmas.{line_within}
use Rattle.survey_script.proofs.reading.read_next.Goals as goal

pub returns-in-TooLong-clause-failed : goal.returns-in-TooLong-clause-failed
returns-in-TooLong-clause-failed g c =
    stops_long c.args.definition.now c.args.number c.args.sessions.now _ _ (c.next_line.ensures.limits.longest ∙ c.requires.longest) (too_long_given c.next_line.new.self _ _ c.in-TooLong.ensures.got)

pub returns-in-Ok-clause-more : goal.returns-in-Ok-clause-more
returns-in-Ok-clause-more g c = λ _.
    line_told (λ line. after_line c.args.definition.now c.args.number c.args.sessions.now line ≡ Ok c.add_line.new.self) c.next_line.new.self _ _
    c.in-Line.ensures.got (rw c.line.ensures at c.in-Ok.ensures.added)

pub returns-in-Ok-clause-within : goal.returns-in-Ok-clause-within
returns-in-Ok-clause-within g c = λ _ within.
    line_within c.args.definition.now c.args.number c.args.sessions.now c.add_line.new.self _ c.in-Ok.ensures.few c.in-Ok.ensures.added within

pub returns-in-Err-clause-failed : goal.returns-in-Err-clause-failed
returns-in-Err-clause-failed g c =
    stops_by c.args.definition.now c.args.number c.args.sessions.now c.next_line.new.self.line _ _ c.in-Err.stop
    (line_given c.next_line.new.self _ _ c.in-Line.ensures.got) (rw c.line.ensures at c.in-Err.ensures.failed)

pub returns-in-Ok-add_last-clause-end : goal.returns-in-Ok-add_last-clause-end
returns-in-Ok-add_last-clause-end g c = λ _.
    ends_last c.args.definition.now c.args.number c.args.sessions.now c.next_line.new.self.line c.add_last.new.self.ended _ _
    (piece_given c.next_line.new.self _ _ c.in-Piece.ensures.got) c.in-Piece.ensures.got.ended (rw c.line-in-Piece.ensures at c.in-Ok-add_last.ensures.added)

pub returns-in-Err-add_last-clause-failed : goal.returns-in-Err-add_last-clause-failed
returns-in-Err-add_last-clause-failed g c =
    stops_last c.args.definition.now c.args.number c.args.sessions.now c.next_line.new.self.line c.in-Err-add_last.stop _ _
    (piece_given c.next_line.new.self _ _ c.in-Piece.ensures.got) c.in-Piece.ensures.got.ended (rw c.line-in-Piece.ensures at c.in-Err-add_last.ensures.failed)

pub returns-in-ReadFault-clause-first : goal.returns-in-ReadFault-clause-first
returns-in-ReadFault-clause-first g c = λ _. fault_given c.next_line.new.self _ _ c.in-ReadFault.ensures.got
