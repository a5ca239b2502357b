use Rattle.survey_script.proofs.StepLemmas.{stops_at}
use Rattle.survey_script.proofs.WithinLemmas.{last_within}
use Rattle.survey_script.proofs.sessions_so_far.SessionsSoFar.add_last.Goals as goal

pub returns-in-Err-clause-failed : goal.returns-in-Err-clause-failed
returns-in-Err-clause-failed c =
    stops_at c.args.definition.now c.args.number c.args.self.now c.args.line.now c.in-Err.stop c.in-Err.ensures.failed

pub returns-in-Ok-clause-whole : goal.returns-in-Ok-clause-whole
returns-in-Ok-clause-whole c =
    last_within c.args.definition.now c.args.number c.args.self.now c.add_line.new.self c.args.line.now c.end.result c.in-Ok.ensures.few c.in-Ok.ensures.added c.end.ensures.ends
