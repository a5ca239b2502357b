use Rattle.std.proofs.Common.{refl}
use Rattle.result_file.proofs.loading.load_result_after_head.Goals as goal

pub returns-clause-loaded : goal.returns-clause-loaded
returns-clause-loaded g c = c.load_lines.ensures.loaded _ refl
