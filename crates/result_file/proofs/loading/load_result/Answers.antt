use Rattle.result_file.proofs.loading.load_result.Goals as goal

pub returns-in-Ok-clause-loaded : goal.returns-in-Ok-clause-loaded
returns-in-Ok-clause-loaded g c = c.load_lines.ensures.loaded _ c.in-Ok.ensures.read
