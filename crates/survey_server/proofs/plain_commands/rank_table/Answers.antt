use Rattle.std.proofs.Common.{refl}
use Rattle.std.specs.Prelude.{Err}
use Rattle.ranking.specs.declared.stops.RankStop.TheVariants.{NoMemory}
use Rattle.survey_server.specs.declared.rank_input.RankRefusal.TheVariants.{Stopped}
use Rattle.survey_server.proofs.RankLaws.{memory_refused}
use Rattle.survey_server.proofs.plain_commands.rank_table.Goals as goal

pub returns-in-Err-clause-ranked : goal.returns-in-Err-clause-ranked
returns-in-Err-clause-ranked g c = record { outcome = Err (Stopped NoMemory); ranked = memory_refused _; ended = tt; answered = (refl, refl) }

pub returns-in-Ok-rank_input-clause-ranked : goal.returns-in-Ok-rank_input-clause-ranked
returns-in-Ok-rank_input-clause-ranked g c = record { outcome = Err (Stopped NoMemory); ranked = memory_refused _; ended = tt; answered = (refl, refl) }
