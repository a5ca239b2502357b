use Rattle.std.proofs.Common.{refl}
use Rattle.std.specs.Prelude.{Err}
use Rattle.result_file.specs.declared.verdicts.Checked.TheVariants.{NoMemory}
use Rattle.result_file.proofs.CopyLemmas.{memory_refused}
use Rattle.survey_server.proofs.plain_commands.migrate.Goals as goal

pub returns-in-Err-clause-migrated : goal.returns-in-Err-clause-migrated
returns-in-Err-clause-migrated g c = record { outcome = Err NoMemory; migrated = memory_refused _; answered = (refl, refl) }
