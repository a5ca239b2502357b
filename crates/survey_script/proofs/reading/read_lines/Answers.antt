use Rattle.survey_script.proofs.FaultLemmas.{fails_at_piece, fails_under}
use Rattle.survey_script.proofs.reading.read_lines.Goals as goal

pub returns-in-Ok-clause-first : goal.returns-in-Ok-clause-first
returns-in-Ok-clause-first g c = λ is. fails_under c.in-Ok.definition _ _ _ c.in-Ok.ensures.line (rw c.limit.ensures at c.read_under.ensures.first is)

pub returns-in-Err-clause-first : goal.returns-in-Err-clause-first
returns-in-Err-clause-first g c = λ is. fails_at_piece _ _ (c.in-Err.ensures.first cc)
