use Rattle.std.proofs.Common.{rules, ◌≡◌, ◌⊎◌}
use Rattle.survey_server.specs.ScriptCommand.{IsPlainCommand}
use Rattle.survey_server.proofs.ScriptCommandLemmas.{done_where_plain, no_memory_does, no_memory_runs}
use Rattle.survey_server.proofs.ServingLemmas.{no_memory_serves}
use Rattle.survey_server.proofs.commands.command.Goals as goal

pub returns-in-Err-clause-run : goal.returns-in-Err-clause-run
returns-in-Err-clause-run g c = λ eliminators is. no_memory_runs eliminators _ _ _ _ c.with_status.ensures

pub returns-in-Err-clause-serve : goal.returns-in-Err-clause-serve
returns-in-Err-clause-serve g c = λ port eliminators connections is. no_memory_serves _ _ _ _ _ _ _ _ _ _ c.with_status.ensures

pub returns-in-Err-clause-plain : goal.returns-in-Err-clause-plain
returns-in-Err-clause-plain g c = λ is. rw c.with_status.ensures (no_memory_does c.args.words.now c.args.source.now _ _)

pub returns-clause-plain : goal.returns-clause-plain
returns-clause-plain g c = λ is. rw c.with_status-in-Ok.ensures (record {
  check = c.plain_command.ensures.check;
  worth = c.plain_command.ensures.worth;
  migrate = c.plain_command.ensures.migrate;
  rank = c.plain_command.ensures.rank;
  sample = c.plain_command.ensures.sample;
  sample_unread = c.plain_command.ensures.sample_unread;
  usage = c.plain_command.ensures.usage;
  unread = c.plain_command.ensures.unread;
})

pub returns-clause-done : goal.returns-clause-done
returns-clause-done g c = λ named names has no_read no_write no_door.
    let plain : IsPlainCommand c.args.words.now = record { no_run = λ eliminators is. search rules; no_sample = λ seed shape eliminators is. search rules; no_serve = λ port eliminators connections is. search rules } in
    rw c.with_status-in-Ok.ensures
    (done_where_plain ((c.plain_command.result ≡ 0) ⊎ (c.plain_command.result ≡ 5)) c.args.words.now _ named names has plain
    (λ is valid. c.plain_command.ensures.done is valid no_read no_write) (λ is valid. c.plain_command.ensures.migrated is valid no_read no_write)
    (λ is valid. c.plain_command.ensures.ranked is valid no_read no_write) (λ seed shape is valid. c.plain_command.ensures.sampled seed shape is valid no_write))
