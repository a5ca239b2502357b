use Rattle.survey_run.proofs.LawLemmas.{one_desk_runs_plain_lem}
use Rattle.survey_run.proofs.laws.one_desk_runs_plain.Goals as goal

pub returns : goal.returns
returns c = one_desk_runs_plain_lem
