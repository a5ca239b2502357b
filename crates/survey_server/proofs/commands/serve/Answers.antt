use Rattle.survey_server.proofs.ServingLemmas.{no_memory_serves}
use Rattle.survey_server.proofs.commands.serve.Goals as goal

pub returns-in-Err-clause-served : goal.returns-in-Err-clause-served
returns-in-Err-clause-served g c = no_memory_serves _ _ _ _ _ _ _ _ _ _ c.with_status.ensures
