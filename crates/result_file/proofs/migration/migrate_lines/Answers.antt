use Rattle.std.proofs.Common.{sym, ◌∙◌}
use Rattle.result_file.proofs.CopyLemmas.{ahead_none}
use Rattle.result_file.proofs.migration.migrate_lines.Goals as goal

pub returns-in-Ok-clause-migrated : goal.returns-in-Ok-clause-migrated
returns-in-Ok-clause-migrated g c =
    c.copy_lines.ensures.migrated (g.S.Source.left c.args.source.now)
    (sym (ahead_none c.args.lines (g.S.Source.left c.args.source.now) c.requires.none_kept) ∙ c.in-Ok.ensures.read)
