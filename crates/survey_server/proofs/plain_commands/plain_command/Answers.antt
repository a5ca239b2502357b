use Rattle.std.proofs.Common.{refl}
use Rattle.std.specs.Prelude.{Err}
use Rattle.result_file.specs.declared.verdicts.Checked.TheVariants.{NoMemory}
use Rattle.result_file.proofs.CopyLemmas.{memory_refused}
use Rattle.ranking.specs.declared.stops.RankStop.TheVariants as stop
use Rattle.survey_server.specs.declared.rank_input.RankRefusal.TheVariants.{Stopped}
use Rattle.survey_server.proofs.RankLaws.{done_where_rankable, memory_refused as no_memory}
use Rattle.survey_server.proofs.StatusLaws.{worth_of_answer, done_where_valid, done_where_result, no_worth}
use Rattle.survey_server.proofs.plain_commands.plain_command.Goals as goal

pub returns-in-Ok-Some-Check-clause-worth : goal.returns-in-Ok-Some-Check-clause-worth
returns-in-Ok-Some-Check-clause-worth g c = λ is_check. worth_of_answer _ _ _ _ _ c.check.ensures.checked

pub returns-in-Ok-Some-Check-clause-done : goal.returns-in-Ok-Some-Check-clause-done
returns-in-Ok-Some-Check-clause-done g c = λ is_check valid no_read no_write.
    done_where_valid _ _ _ _ _ _ _ _ _ c.check.ensures.checked c.check.ensures.read_fault c.check.ensures.write_fault valid no_read no_write

pub returns-in-Ok-Some-Migrate-clause-migrated : goal.returns-in-Ok-Some-Migrate-clause-migrated
returns-in-Ok-Some-Migrate-clause-migrated g c = λ is_migrate valid no_read no_write.
    done_where_result _ _ _ _ _ _ _ _ c.migrate.ensures.migrated c.migrate.ensures.read_fault c.migrate.ensures.write_fault valid no_read no_write

pub returns-in-Ok-Some-Rank-clause-ranked : goal.returns-in-Ok-Some-Rank-clause-ranked
returns-in-Ok-Some-Rank-clause-ranked g c = λ is_rank rankable no_read no_write.
    done_where_rankable _ _ _ _ _ _ _ _ _ c.rank_table.ensures.ranked c.rank_table.ensures.read_fault c.rank_table.ensures.write_fault rankable no_read no_write

pub returns-in-Err-clause-migrate : goal.returns-in-Err-clause-migrate
returns-in-Err-clause-migrate g c = λ is_migrate. record { outcome = Err NoMemory; migrated = memory_refused _; answered = (refl, refl) }

pub returns-in-Err-clause-rank : goal.returns-in-Err-clause-rank
returns-in-Err-clause-rank g c = λ is_rank. record { outcome = Err (Stopped stop.NoMemory); ranked = no_memory _; ended = tt; answered = (refl, refl) }

pub returns-in-Err-clause-worth : goal.returns-in-Err-clause-worth
returns-in-Err-clause-worth g c = λ is_check. no_worth _ _
