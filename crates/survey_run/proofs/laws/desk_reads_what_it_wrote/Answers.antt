use Rattle.survey_run.proofs.LawLemmas.{desk_reads_what_it_wrote_lem}
use Rattle.survey_run.proofs.laws.desk_reads_what_it_wrote.Goals as goal

pub returns : goal.returns
returns c = desk_reads_what_it_wrote_lem
