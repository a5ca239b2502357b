use Rattle.edges.specs.Lines.{ahead}
use Rattle.survey_script.proofs.StepLemmas.{script_read, script_stopped}
use Rattle.survey_script.proofs.reading.read_under.Goals as goal

pub returns-in-Ok-clause-read : goal.returns-in-Ok-clause-read
returns-in-Ok-clause-read g c = rw c.of.ensures (script_read c.args.definition c.in-Ok.sessions.items (ahead c.args.lines.now (g.S.Source.left c.args.source.now)) c.in-Ok.ensures.read)

pub returns-in-Err-clause-read : goal.returns-in-Err-clause-read
returns-in-Err-clause-read g c = script_stopped c.args.definition c.in-Err.stop (ahead c.args.lines.now (g.S.Source.left c.args.source.now)) c.in-Err.ensures.read
