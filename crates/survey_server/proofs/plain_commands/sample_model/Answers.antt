use Rattle.survey_server.proofs.StatusLaws.{sampled_by}
use Rattle.survey_server.proofs.plain_commands.sample_model.Goals as goal

pub returns-in-Ok-clause-sampled : goal.returns-in-Ok-clause-sampled
returns-in-Ok-clause-sampled g c = sampled_by c.args.seed c.args.shape.now c.args.model.now c.in-Ok.summary _ _ _ c.in-Ok.ensures c.write_summary.ensures.written
